use Rattle.std.proofs.Common.{◌≡◌, List, drop}
use Rattle.spec_model.specs.Grammar.{Piece, parts}
use Rattle.spec_print.specs.Page.{puts}
use Rattle.spec_print.proofs.parts.parts.Given as goal

-- those from the next one on are left
abbrev pub invariant-loop-value : goal.invariant-loop-value
invariant-loop-value l = (next : List Piece) → puts l.fn.page (parts l.parts next) ≡ puts l.page (parts (drop l.value-index l.parts) next)
