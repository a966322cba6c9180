use Rattle.std.proofs.Common.{[], subst, sym, ◌∙◌}
use Rattle.spec_rules.specs.declared.fault.Fault.TheVariants as faults
use Rattle.spec_rules.specs.Bad.{IsBad}
use Rattle.spec_paths.specs.Bounds.{IsLeast}
use Rattle.spec_paths.proofs.CrowdedSpecs.{least_bad, least_given, none_given, nothing_left}
use Rattle.spec_paths.proofs.crowded.first_crowded.Goals as goal

-- the least place of this fault
found : (c : goal.After-lesser) → IsLeast (IsBad c.args.spec.now faults.TooManyCompares) c.lesser.result
found c =
    let begins = sym c.begins_with_recv.ensures ∙ c.if-not-begins_with_recv.false in
    subst (IsLeast (IsBad c.args.spec.now faults.TooManyCompares)) (sym c.lesser.ensures)
    (least_bad c.args.spec.now c.crowded_in_start.result c.ahead_of_block-in_loop.result.crowded begins c.crowded_in_start.ensures
    (c.ahead_of_block-in_loop.ensures [] nothing_left).crowded)

pub returns-clause-some : goal.returns-clause-some
returns-clause-some c = least_given (IsBad c.args.spec.now faults.TooManyCompares) c.lesser.result (found c)

pub returns-clause-none : goal.returns-clause-none
returns-clause-none c = none_given (IsBad c.args.spec.now faults.TooManyCompares) c.lesser.result (found c)
