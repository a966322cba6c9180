use Rattle.std.proofs.Common.{◌≡◌, length, ap, ◌∙◌, arith}
use Rattle.trail_store.specs.Steps.{paths_of, with_step}
use Rattle.trail_store.proofs.PathsOfSteps.{length-paths_of, paths_of-push}
use Rattle.trail_store.proofs.Renumbering.{AreSteps-push}
use Rattle.trail_store.proofs.trail.Trail.push.Goals as goal

pub overflow_cast-parent : goal.overflow_cast-parent
overflow_cast-parent c =
    let paths : paths_of c.self.inside.steps.items ≡ c.args.self.now = c.self.view_is in
    omega (arith, length-paths_of c.self.inside.steps.items, ap length paths)

pub invariant_of-self-2 : goal.invariant_of-self-2
invariant_of-self-2 c =
    let steps = c.self.inside.steps.items in
    let paths : paths_of steps ≡ c.args.self.now = c.self.view_is in
    let count = ap length paths in
    rw c.in_ok-push.ensures.items (AreSteps-push steps _ c.self.invariant (omega arith) (omega (arith, length-paths_of steps)))

pub returns-clause-ok : goal.returns-clause-ok
returns-clause-ok c =
    let steps = c.self.inside.steps.items in
    let paths : paths_of steps ≡ c.args.self.now = c.self.view_is in
    ap paths_of c.in_ok-push.ensures.items ∙ paths_of-push steps _ ∙ ap (λ all. with_step all (record { parent = c.args.parent; mark = c.args.mark })) paths

pub returns-clause-number : goal.returns-clause-number
returns-clause-number c =
    let steps = c.self.inside.steps.items in
    let paths : paths_of steps ≡ c.args.self.now = c.self.view_is in
    omega (arith, length-paths_of steps, ap length paths, c.in_ok-push.ensures.len)
