-- What a value says of the steps that led to it, where each step may give none.
use Rattle.std.proofs.Common.{◌≡◌, Bool, true, false, ◌&&◌, Option, Some, None, option_map, refl}
use Rattle.spec_model.specs.Value.{◌>>=◌, only_if}

-- where steps gave a value, the first gave one
pub bind_gave : {A B : Type 0} (o : Option A) (f : A → Option B) (y : B) → (o >>= f) ≡ Some y → (x : A) × (o ≡ Some x) × (f x ≡ Some y)
bind_gave None f y e = absurd (cc)
bind_gave (Some x) f y e = (x, refl, e)

pub map_gave : {A B : Type 0} (f : A → B) (o : Option A) (y : B) → option_map f o ≡ Some y → (x : A) × (o ≡ Some x) × (f x ≡ y)
map_gave f None y e = absurd (cc)
map_gave f (Some x) y e = (x, refl, cc)

-- a test that let a value through passed
pub only_if_gave : {A : Type 0} (test : Bool) (o : Option A) (y : A) → only_if test o ≡ Some y → (test ≡ true) × (o ≡ Some y)
only_if_gave true o y e = (refl, e)
only_if_gave false o y e = absurd (cc)

-- two tests that passed together each passed
pub both_passed : (a b : Bool) → (a && b) ≡ true → (a ≡ true) × (b ≡ true)
both_passed true true e = (refl, refl)
both_passed true false e = absurd (cc)
both_passed false b e = absurd (cc)
