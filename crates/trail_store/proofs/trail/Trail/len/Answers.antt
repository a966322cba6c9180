use Rattle.std.proofs.Common.{◌≡◌, [], Some, length, ap, ◌∙◌, arith}
use Rattle.std.proofs.lemmas.Option.{slice_get-get_or}
use Rattle.trail_store.specs.Steps.{paths_of}
use Rattle.trail_store.proofs.PathsOfSteps.{length-paths_of, path_at-first}
use Rattle.trail_store.proofs.trail.Trail.len.Goals as goal

pub returns-clause-count : goal.returns-clause-count
returns-clause-count c =
    let paths : paths_of c.self.inside.steps.items ≡ c.args.self.now = c.self.view_is in
    omega (arith, length-paths_of c.self.inside.steps.items, ap length paths)

pub returns-clause-first : goal.returns-clause-first
returns-clause-first c =
    let steps = c.self.inside.steps.items in
    let paths : paths_of steps ≡ c.args.self.now = c.self.view_is in
    rw (← paths) (slice_get-get_or (paths_of steps) 0 [] (omega (arith, length-paths_of steps)) ∙ ap Some (path_at-first steps))
