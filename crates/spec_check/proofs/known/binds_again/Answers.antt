use Rattle.std.proofs.Common.{sym, ap, ◌∙◌, ◌||◌, false}
use Rattle.spec_model.specs.declared.tree.Kind.{out-Kind}
use Rattle.spec_model.specs.declared.tree.Kind.TheVariants as kinds
use Rattle.spec_rules.specs.Bad.{binds_again}
use Rattle.spec_check.proofs.StmtTests.{arms_bind_none, recv_binds}
use Rattle.spec_check.proofs.known.binds_again.Goals as goal

pub returns-in-Recv : goal.returns-in-Recv
returns-in-Recv c =
    let kind = ap out-Kind c.in-Recv.is ∙ kinds.outs-Recv c.in-Recv.chan c.in-Recv.cases c.in-Recv.other c.in-Recv.rest in
    let binds = ap (binds_again c.args.known.now) kind ∙ recv_binds c.args.known.now c.in-Recv.chan c.in-Recv.cases c.in-Recv.other c.in-Recv.rest in
    rw (binds, ← c.as_slice.ensures) c.recv_binds_again.ensures

pub returns-in-Either : goal.returns-in-Either
returns-in-Either c =
    let kind = ap out-Kind c.in-Either.is ∙ kinds.outs-Either c.in-Either.arms in
    sym (ap (binds_again c.args.known.now) kind ∙ ap (λ found. found || false) (arms_bind_none c.args.known.now c.in-Either.arms))
