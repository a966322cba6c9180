-- A loop that counts its turns up, beside a recursion on how many are left.
use Rattle.std.proofs.Common.{◌≡◌, ℕ, suc, ◌+◌, ◌-◌, ◌<◌, ◌≤◌, ap, ◌∙◌, arith}

pub turn_left : {X : Type 0} {x : X} (f : ℕ → X) (turns turn : ℕ) → turn < turns → x ≡ f (turns - turn) → x ≡ f (suc (turns - (turn + 1)))
turn_left f turns turn below e = let some : turns - turn ≡ suc (turns - (turn + 1)) = omega arith in e ∙ ap f some

pub no_turn_left : {X : Type 0} {x : X} (f : ℕ → X) (turns turn : ℕ) → turns ≤ turn → x ≡ f (turns - turn) → x ≡ f 0
no_turn_left f turns turn over e = let none : turns - turn ≡ 0 = omega arith in e ∙ ap f none
