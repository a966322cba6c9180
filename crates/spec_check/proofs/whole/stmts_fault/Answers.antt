use Rattle.std.proofs.Common.{[], false, ap, ◌∙◌}
use Rattle.spec_model.specs.Config.{stmts_of}
use Rattle.spec_rules.specs.Names.{names_declared}
use Rattle.spec_check.specs.Whole.{rules_of}
use Rattle.spec_check.proofs.Walks.{among}
use Rattle.spec_check.proofs.WholeSpec.{in_stmts}
use Rattle.spec_check.proofs.whole.stmts_fault.Goals as goal

pub returns : goal.returns
returns c =
    let spec = c.args.spec.now in
    let names = c.in_ok-known.ensures ∙ ap names_declared c.as_slice.ensures in
    in_stmts spec c.in_ok-known.known.items c.in_ok-in_start.in_start c.in_ok-in_loop.in_loop c.earlier.result names c.in_ok-in_start.ensures.first
    (among (rules_of spec false) c.start_fault.new.known.items c.in_ok-known.known.items c.new.result.items [] (stmts_of spec.body) [] c.in_ok-in_loop.in_loop
    c.in_ok-in_start.ensures.kept c.new.ensures.items (c.in_ok-in_loop.ensures.first []))
    c.earlier.ensures
