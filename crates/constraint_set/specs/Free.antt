-- The first text that is not taken.
use Rattle.std.specs.Prelude.{ℕ, zero, suc, ◌+◌, Bool, bytes_eq, if◌then◌else◌, List, length}
use Rattle.std.specs.List.{list_any}
use Rattle.spec_model.specs.declared.event.Framing.{Framing}
use Rattle.spec_model.specs.declared.tree.Alphabet.{Alphabet}
use Rattle.constraint_set.specs.Characters.{text_numbered}

-- whether a text is one of these
abbrev pub is_taken : List (List ℕ) → List ℕ → Bool
is_taken taken text = list_any (bytes_eq text) taken

-- The first text from a number on that is not taken, or the one behind so many that are.
abbrev pub free_from : (ℕ → List ℕ) → List (List ℕ) → ℕ → ℕ → List ℕ
free_from text_at taken zero number = text_at number
free_from text_at taken (suc tries) number =
    if is_taken taken (text_at number) then free_from text_at taken tries (number + 1) else text_at number

-- the first text of a length over an alphabet that is not taken
abbrev pub first_free : Framing → Alphabet → ℕ → List (List ℕ) → List ℕ
first_free framing alphabet len taken = free_from (text_numbered framing alphabet len) taken (length taken) 0
