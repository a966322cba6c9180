use Rattle.std.proofs.Common.{◌≡◌, ◌+◌, ◌<◌, All, Bool, List, ℕ, length, map, slice_index, subst, ap, ◌∙◌, sym, arith}
use Rattle.spec_model.specs.declared.event.Mark.{Mark}
use Rattle.trail_store.specs.declared.step.Step.{Step}
use Rattle.trail_store.specs.Keep.{AreReached, IsRenumbered}
use Rattle.trail_store.specs.Steps.{paths_of}
use Rattle.trail_store.proofs.KeptPaths.{IsKeptOnly, IsKeptOnly-renumbered}
use Rattle.trail_store.proofs.PathsOfSteps.{length-paths_of}
use Rattle.trail_store.proofs.trail.Trail.keep_only.Goals as goal

pub reached-requires-clause-given : goal.reached-requires-clause-given
reached-requires-clause-given c =
    let paths : paths_of c.self.inside.steps.items ≡ c.args.self.now = c.self.view_is in
    λ k d within. omega (arith, c.requires k d within, ap length paths, length-paths_of c.self.inside.steps.items, ap length c.deref.ensures.value)

pub returns : goal.returns
returns c =
    let steps = c.self.inside.steps.items in
    let given = c.args.steps.now in
    let kept = c.in_ok-kept.kept.items in
    let left = c.in_ok-left.field-0.steps.items in
    let numbers = c.in_ok-left.field-0.numbers.items in
    let paths : paths_of steps ≡ c.args.self.now = c.self.view_is in
    let among : All (λ number. number < length steps + 1) given = λ k d within. omega (arith, c.requires k d within, ap length paths, length-paths_of steps) in
    let reached = subst (λ (all : List Step). AreReached all given kept) c.deref.ensures.value c.in_ok-kept.ensures in
    let of_kept = subst (λ (flags : List Bool). IsRenumbered c.deref-2.result.now flags (length c.deref-2.result.now) left numbers) c.deref-3.ensures.value c.in_ok-left.ensures in
    let renumbered = subst (λ (all : List Step). IsRenumbered all kept (length all) left numbers) c.deref-2.ensures.value of_kept in
    let written : map (slice_index numbers) given ≡ c.renumber.new.steps = sym (c.renumber.ensures ∙ ap (λ list. map (slice_index list) given) c.deref-4.ensures.value) in
    let only = IsKeptOnly-renumbered steps given kept left numbers among reached renumbered in
    let of_written = subst (λ (all : List ℕ). IsKeptOnly (paths_of steps) given (paths_of left) all) written only in
    let whole = subst (λ (all : List (List Mark)). IsKeptOnly all given (paths_of left) c.renumber.new.steps) paths of_written in
    record { numbers = whole.numbers; kept = whole.kept; reached = whole.reached; once = whole.once; few = whole.few; err = tt; err_numbers = tt }
