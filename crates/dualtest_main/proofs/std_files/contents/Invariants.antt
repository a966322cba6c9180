use Rattle.std.proofs.Common.{◌≤◌, length}
use Rattle.dualtest_main.proofs.std_files.contents.Given as goal

-- what was read is within the limit
abbrev pub invariant-loop : goal.invariant-loop
invariant-loop g l = length l.bytes.items ≤ l.limit
