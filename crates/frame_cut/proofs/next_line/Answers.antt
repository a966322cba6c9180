use Rattle.std.proofs.Common.{arith}
use Rattle.frame_cut.proofs.LineCuts.{line-found, line-missing, line-open}
use Rattle.frame_cut.proofs.next_line.Goals as goal

pub returns-in-Some : goal.returns-in-Some
returns-in-Some c =
    let found = c.in-Some.ensures in
    line-found c.args.shape.now c.requires c.args.bytes.now (λ place. omega (arith, c.type_inv.bytes place)) c.min.result (omega arith) c.in-Some.len found.0 found.1

pub returns-in-None : goal.returns-in-None
returns-in-None c =
    line-missing c.args.shape.now c.requires c.args.bytes.now (λ place. omega (arith, c.type_inv.bytes place)) c.min.result (omega arith) c.in-None.ensures (omega arith)

pub returns-in-None-2 : goal.returns-in-None-2
returns-in-None-2 c =
    line-open c.args.shape.now c.requires c.args.bytes.now (λ place. omega (arith, c.type_inv.bytes place)) c.min.result (omega arith) c.in-None-2.ensures (omega arith)
