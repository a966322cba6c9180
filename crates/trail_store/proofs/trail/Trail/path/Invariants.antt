use Rattle.std.proofs.Common.{◌≡◌, ◌++◌, ◌≤◌, length, reverse}
use Rattle.trail_store.specs.Path.{path_at}
use Rattle.trail_store.specs.Steps.{paths_of}
use Rattle.trail_store.proofs.trail.Trail.path.Given as goal

-- the marks so far, last first, are the end of the path
abbrev pub invariant-loop-number : goal.invariant-loop-number
invariant-loop-number l = record {
  there : l.number ≤ length l.self-inside.steps.items;
  end : path_at (paths_of l.self-inside.steps.items) l.step ≡ path_at (paths_of l.self-inside.steps.items) l.number ++ reverse l.marks.items;
}

abbrev pub decreases-loop-number : goal.decreases-loop-number
decreases-loop-number l = l.number
