use Rattle.spec_check.specs.Decls.{IsBadDecl}
use Rattle.spec_check.proofs.DeclSearch.{past_decl, past_decls}
use Rattle.spec_check.proofs.Firsts.{begun}
use Rattle.spec_check.proofs.decls.decls_fault.Goals as goal

pub loop-i-init : goal.loop-i-init
loop-i-init c = begun (IsBadDecl c.args.conns c.args.decls.now 0)

pub loop-i-preserved : goal.loop-i-preserved
loop-i-preserved c =
    past_decl c.args.conns c.args.decls.now c.loop-i.i c.index-decls-i.result c.loop-i.found c.decl_fault-here.result c.earlier-found.result
    c.loop-i-test.true c.index-decls-i.is c.loop-i.invariant c.decl_fault-here.ensures c.earlier-found.ensures

pub returns : goal.returns
returns c = past_decls c.args.conns c.args.decls.now c.loop-i.i c.loop-i.found c.loop-i-test.false c.loop-i.invariant
