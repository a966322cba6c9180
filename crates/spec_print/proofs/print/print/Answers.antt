use Rattle.std.proofs.Common.{subst, ◌∙◌}
use Rattle.spec_print.specs.Listed.{Puts, whole}
use Rattle.spec_print.proofs.Chains.{if_ok}
use Rattle.spec_print.proofs.Layouts.{page_is_canonical}
use Rattle.spec_print.proofs.print.print.Goals as goal

pub returns : goal.returns
returns c =
    let page = c.in_ok-whole.field-0 in
    let put = subst (λ p. Puts p (whole c.args.spec.now) page) c.new.ensures c.in_ok-whole.ensures in
    if_ok c.finish.result (λ text last. last ∙ page_is_canonical c.args.spec.now page put) c.finish.ensures
