use Rattle.std.proofs.Common.{◌≡◌, List, drop}
use Rattle.spec_model.specs.Grammar.{Piece, decls}
use Rattle.spec_print.specs.Page.{puts}
use Rattle.spec_print.proofs.parts.declarations.Given as goal

-- those from the next one on are left
abbrev pub invariant-loop-decl : goal.invariant-loop-decl
invariant-loop-decl l = (next : List Piece) → puts l.fn.page (decls l.decls next) ≡ puts l.page (decls (drop l.decl-index l.decls) next)
