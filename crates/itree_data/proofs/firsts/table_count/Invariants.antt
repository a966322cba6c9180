use Rattle.std.proofs.Common.{◌≡◌, filter, length, take}
use Rattle.spec_rules.specs.Bad.{declares_table}
use Rattle.itree_data.proofs.firsts.table_count.Given as goal

-- the tables so far
abbrev pub invariant-loop-decl : goal.invariant-loop-decl
invariant-loop-decl l = l.count ≡ length (filter declares_table (take l.decl-index l.decls))
