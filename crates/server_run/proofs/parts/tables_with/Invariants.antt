use Rattle.std.proofs.Common.{◌≡◌, take}
use Rattle.server_run.specs.Parts.{tables_with}
use Rattle.server_run.proofs.parts.tables_with.Given as goal

abbrev pub invariant-loop-table : goal.invariant-loop-table
invariant-loop-table l = l.after ≡ tables_with (take l.table-index l.tables) l.name l.fn.pairs
