use Rattle.std.proofs.Common.{◌∙◌, ap}
use Rattle.spec_model.specs.declared.tree.Kind.TheVariants as kinds
use Rattle.spec_model.specs.declared.tree.Kind.{out-Kind}
use Rattle.server_run.proofs.Beginnings.{stmts_begin}
use Rattle.server_run.proofs.machine.begins_with_recv.Goals as goal

pub returns-in-Recv-clause-holds : goal.returns-in-Recv-clause-holds
returns-in-Recv-clause-holds c =
    stmts_begin c.args.spec.now c.as_slice.result.now c.first-item.result c.in-Recv.chan c.in-Recv.cases c.in-Recv.other c.in-Recv.rest
    c.as_slice.ensures c.in-len1-up.len_at_least c.first-item.is (ap out-Kind c.in-Recv.is ∙ kinds.outs-Recv c.in-Recv.chan c.in-Recv.cases c.in-Recv.other c.in-Recv.rest)
