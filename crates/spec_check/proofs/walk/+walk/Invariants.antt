use Rattle.std.proofs.Common.{◌≡◌, ◌++◌, List, drop, map}
use Rattle.spec_model.specs.declared.tree.Stmt.{Stmt}
use Rattle.spec_rules.specs.declared.names.Known.{Known}
use Rattle.spec_rules.specs.Place.{without_names}
use Rattle.spec_check.specs.Least.{IsFirstBut}
use Rattle.spec_check.specs.Stmts.{IsBadIn, IsBadInBlocks, blocks_of_cases}
use Rattle.spec_check.proofs.walk.+walk.Given as goal

-- What was found is the first but for the statements that are left, before which the names of those past are known too.
abbrev pub invariant-block_fault-loop-stmt : goal.invariant-block_fault-loop-stmt
invariant-block_fault-loop-stmt l = record {
  kept : (more : List Known) × (l.known.items ≡ l.fn.known.items ++ more);
  first : (behind : List Stmt)
      → IsFirstBut (IsBadIn l.rules l.known.items (drop l.stmt-index l.stmt-items) behind) (IsBadIn l.rules (l.fn.known.items ++ l.fn.bound.items) l.stmt-items behind) l.found;
}

-- the same of the cases that are left
abbrev pub invariant-cases_fault-loop-case : goal.invariant-cases_fault-loop-case
invariant-cases_fault-loop-case l = record {
  kept : l.known.items ≡ l.fn.known.items;
  first : (behind : List Stmt)
      → IsFirstBut (IsBadInBlocks l.rules l.fn.known.items (blocks_of_cases l.chan (drop l.case-index l.case-items)) behind) (IsBadInBlocks l.rules l.fn.known.items (blocks_of_cases l.chan l.case-items) behind) l.found;
}

-- the same of the arms that are left
abbrev pub invariant-arms_fault-loop-arm : goal.invariant-arms_fault-loop-arm
invariant-arms_fault-loop-arm l = record {
  kept : l.known.items ≡ l.fn.known.items;
  first : (behind : List Stmt)
      → IsFirstBut (IsBadInBlocks l.rules l.fn.known.items (map without_names (drop l.arm-index l.arm-items)) behind) (IsBadInBlocks l.rules l.fn.known.items (map without_names l.arm-items) behind) l.found;
}
