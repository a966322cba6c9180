use Rattle.std.proofs.Common.{◌≤◌, length}
use Rattle.constraint_set.proofs.Places.{ArePlacesFrom}
use Rattle.constraint_set.proofs.form.places_of.Given as goal

-- The table has the first places among the roots from one on.
abbrev pub invariant-loop-place : goal.invariant-loop-place
invariant-loop-place l = record { within : l.place ≤ length l.roots; places : ArePlacesFrom l.symbols l.roots l.place l.places.items }
