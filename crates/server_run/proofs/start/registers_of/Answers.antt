use Rattle.spec_model.specs.Config.{register_of}
use Rattle.server_run.proofs.Opening.{declared_next}
use Rattle.server_run.proofs.start.registers_of.Goals as goal

pub loop-decl-preserved : goal.loop-decl-preserved
loop-decl-preserved c =
    declared_next register_of c.args.decls.now c.loop-decl.decl-index c.decl-item.result c.in_ok-register_of.field-0 c.loop-decl.registers c.push_some.new.self
    c.loop-decl-test.true c.decl-item.is c.in_ok-register_of.ensures c.loop-decl.invariant c.in_ok-push_some.ensures.ok
