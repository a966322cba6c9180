use Rattle.std.proofs.Common.{refl}
use Rattle.spec_check.proofs.decls.decl_fault.Goals as goal

pub returns : goal.returns
returns c =
    let before = c.args.before.now in
    let decl = c.args.decl.now in
    rw (
      ← c.is_declared_again.ensures,
      ← c.declares_past_conns.ensures before decl refl,
      ← c.is_past_registers.ensures,
      ← c.is_past_tables.ensures,
      ← c.declares_long_text.ensures before decl refl,
    ) c.first_listed.ensures
