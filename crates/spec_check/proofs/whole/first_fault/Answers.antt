use Rattle.spec_check.proofs.WholeSpec.{in_whole}
use Rattle.spec_check.proofs.whole.first_fault.Goals as goal

pub returns : goal.returns
returns c =
    let spec = c.args.spec.now in
    in_whole spec c.header_fault.result c.decls_fault.result c.earlier-in_front.result c.in_ok-in_stmts.in_stmts c.earlier-2.result
    c.no_take.result c.length_fault.result c.path_fault.result c.earlier.result c.earlier-in_whole.result c.earlier-3.result
    c.header_fault.ensures (rw c.as_slice.ensures at c.decls_fault.ensures) c.earlier-in_front.ensures c.in_ok-in_stmts.ensures c.earlier-2.ensures
    c.length_fault.ensures c.path_fault.ensures c.earlier.ensures c.no_take.ensures c.earlier-in_whole.ensures c.earlier-3.ensures
