-- The greatest number with a property, counted up to 16, and the least.
use Rattle.std.specs.Prelude.{◌≡◌, ℕ, ◌+◌, ◌≤◌, max, min, Option, Some, None}

-- the number up to which is counted: one more than may be passed
abbrev pub ceiling : ℕ
ceiling = 16

-- The greatest number with the property, counted up to 16; None where no number has it.
abbrev pub IsGreatest : (ℕ → Type 0) → Option ℕ → Type 0
IsGreatest P None = (number : ℕ) → ¬ P number
IsGreatest P (Some counted) = (greatest : ℕ) × P greatest × ((number : ℕ) → P number → number ≤ greatest) × (counted ≡ min greatest ceiling)

-- The least number with the property; None where no number has it.
abbrev pub IsLeast : (ℕ → Type 0) → Option ℕ → Type 0
IsLeast P None = (number : ℕ) → ¬ P number
IsLeast P (Some least) = P least × ((number : ℕ) → P number → least ≤ number)

abbrev pub greater_of : Option ℕ → Option ℕ → Option ℕ
greater_of None b = b
greater_of (Some a) None = Some a
greater_of (Some a) (Some b) = Some (max a b)

abbrev pub lesser_of : Option ℕ → Option ℕ → Option ℕ
lesser_of None b = b
lesser_of (Some a) None = Some a
lesser_of (Some a) (Some b) = Some (min a b)

-- one more, counted up to 16
abbrev pub one_more : Option ℕ → Option ℕ
one_more None = None
one_more (Some count) = Some (min (count + 1) ceiling)
