use Rattle.std.proofs.Common.{sym, ap, ◌∙◌}
use Rattle.std.specs.List.{list_any}
use Rattle.spec_model.specs.declared.tree.Kind.{out-Kind}
use Rattle.spec_model.specs.declared.tree.Kind.TheVariants as kinds
use Rattle.spec_rules.specs.Bad.{is_long, texts_of_patterns}
use Rattle.spec_check.specs.Parts.{has_long_items}
use Rattle.spec_check.proofs.StmtTests.{long_cases}
use Rattle.spec_check.proofs.values.has_long_pattern.Goals as goal

pub returns-in-Recv : goal.returns-in-Recv
returns-in-Recv c =
    let kind = ap out-Kind c.in-Recv.is ∙ kinds.outs-Recv c.in-Recv.chan c.in-Recv.cases c.in-Recv.other c.in-Recv.rest in
    c.cases_are_long.ensures ∙ ap (list_any has_long_items) c.as_slice.ensures ∙ sym (long_cases c.in-Recv.cases)
    ∙ ap (λ kind. list_any is_long (texts_of_patterns kind)) (sym kind)
