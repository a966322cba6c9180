use Rattle.std.proofs.Common.{◌≡◌, List, drop}
use Rattle.spec_model.specs.Grammar.{Piece, items}
use Rattle.spec_print.specs.Page.{puts}
use Rattle.spec_print.proofs.parts.items.Given as goal

-- those from the next one on are left
abbrev pub invariant-loop-part : goal.invariant-loop-part
invariant-loop-part l = (next : List Piece) → puts l.fn.page (items l.items next) ≡ puts l.page (items (drop l.part-index l.items) next)
