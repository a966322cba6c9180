use Rattle.std.proofs.Common.{◌≡◌, [], take}
use Rattle.net_world.specs.Way.{put_in}
use Rattle.net_world.proofs.cursors.find.Given as goal

-- nothing was put in so far
abbrev pub invariant-loop-place : goal.invariant-loop-place
invariant-loop-place l = put_in l.way l.conn (take l.place l.events) ≡ []
