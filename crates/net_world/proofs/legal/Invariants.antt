use Rattle.std.proofs.Common.{take}
use Rattle.net_world.specs.Cursors.{AllRead}
use Rattle.net_world.proofs.legal.Given as goal
use Rattle.spec_model.specs.World.{IsLegal}

-- the world is legal so far, and the cursors stand so
abbrev pub invariant-loop-place : goal.invariant-loop-place
invariant-loop-place l = record { legal : IsLegal (take l.place l.world); read : AllRead l.cursors l.world l.place }
