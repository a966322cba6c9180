-- What is next in a text, which private functions cite alone.
use Rattle.std.specs.Prelude.{◌≡◌, ◌≢◌, ℕ, ◌+◌, Bool, IsTrue, List, []}
use Rattle.exchange_text.specs.declared.refusal.TextRefusal.{TextRefusal}
use Rattle.exchange_text.specs.declared.refusal.TextRefusal.TheVariants.{BadLine, NoEnd, Limit, Memory}
use Rattle.exchange_text.specs.Text.{last_line, HasLine, IsLine}

-- why a text does not begin with this line
abbrev pub BeginsOtherwise : List ℕ → List ℕ → TextRefusal → Type 0
BeginsOtherwise text first_line (NoEnd number) = IsLine text × (number ≡ 1)
BeginsOtherwise text first_line (BadLine number) = (line : List ℕ) × (behind : List ℕ) × HasLine text line behind × (line ≢ first_line) × (number ≡ 1)
BeginsOtherwise text first_line _ = ⊥

-- why neither the line of an event can be read next nor the last line, at the line of this number, where as many events may have been
-- read as a text may have
abbrev pub HasNoNextEvent : List ℕ → ℕ → Bool → TextRefusal → Type 0
HasNoNextEvent rest line_number is_full (NoEnd number) = IsLine rest × (number ≡ line_number)
HasNoNextEvent rest line_number is_full (BadLine number) =
    (behind : List ℕ) × HasLine rest last_line behind × (behind ≢ []) × (number ≡ line_number + 1)
HasNoNextEvent rest line_number is_full (Limit number) =
    (line : List ℕ) × (behind : List ℕ) × HasLine rest line behind × (line ≢ last_line) × IsTrue is_full × (number ≡ line_number)
HasNoNextEvent rest line_number is_full Memory = ⊥
