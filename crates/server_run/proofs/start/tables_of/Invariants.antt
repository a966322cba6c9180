use Rattle.std.proofs.Common.{◌≡◌, filter_map, take}
use Rattle.spec_model.specs.Config.{table_of}
use Rattle.server_run.proofs.start.tables_of.Given as goal

abbrev pub invariant-loop-decl : goal.invariant-loop-decl
invariant-loop-decl l = l.tables ≡ filter_map table_of (take l.decl-index l.decls)
