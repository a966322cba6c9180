use Rattle.std.proofs.Common.{◌≡◌, ◌++◌, List, drop, take}
use Rattle.script_gen.specs.declared.plan.KnownPick.{KnownPick}
use Rattle.script_gen.specs.Ready.{with_seen}
use Rattle.script_gen.specs.SeenStmts.{seen_in_arms, seen_in_cases, seen_in_stmts}
use Rattle.script_gen.proofs.seen.+see.Given as goal

-- With what is seen in the statements that are left the plan is that of the block, before which other picks may be known.
abbrev pub invariant-see_block-loop-stmt : goal.invariant-see_block-loop-stmt
invariant-see_block-loop-stmt l = record {
  kept : (more : List KnownPick) × (l.picks.items ≡ l.fn.picks.items ++ more);
  seen : with_seen l.plan (seen_in_stmts (drop l.stmt-index l.stmt-items) l.picks.items) ≡ with_seen l.fn.plan (seen_in_stmts l.stmt-items l.fn.picks.items);
}

-- what is seen in the cases or arms so far
abbrev pub invariant-see_cases-loop-case : goal.invariant-see_cases-loop-case
invariant-see_cases-loop-case l = record {
  kept : l.picks.items ≡ l.fn.picks.items;
  seen : l.plan ≡ with_seen l.fn.plan (seen_in_cases (take l.case-index l.case-items) l.fn.picks.items);
}

abbrev pub invariant-see_arms-loop-arm : goal.invariant-see_arms-loop-arm
invariant-see_arms-loop-arm l = record {
  kept : l.picks.items ≡ l.fn.picks.items;
  seen : l.plan ≡ with_seen l.fn.plan (seen_in_arms (take l.arm-index l.arm-items) l.fn.picks.items);
}
