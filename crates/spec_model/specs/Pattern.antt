-- What a pattern means: it is matched from the left without going back, and fits where the message is used up.
use Rattle.std.specs.Prelude.{ℕ, ◌+◌, ◌-◌, ◌*◌, Bool, not, ◌&&◌, ◌||◌, ◌==◌, nat_eq, nat_lt, nat_le, List, [], ◌∷◌, length, drop, take_while, fold, slice_index, Option, Some, None}
use Rattle.std.specs.List.{starts_with}
use Rattle.spec_model.specs.declared.config.Binding.{Binding}
use Rattle.spec_model.specs.declared.config.Value.{Value}
use Rattle.spec_model.specs.declared.config.Value.TheVariants.{Text, Number}
use Rattle.spec_model.specs.declared.tree.Item.{Item}
use Rattle.spec_model.specs.declared.tree.Item.TheVariants.{Lit, Hole}
use Rattle.spec_model.specs.declared.tree.HoleKind.{HoleKind}
use Rattle.spec_model.specs.declared.tree.HoleKind.TheVariants.{Word, Num, Rest}
use Rattle.spec_model.specs.Value.{◌>>=◌, only_if, greatest}

-- a byte of a word
abbrev pub is_word_byte : ℕ → Bool
is_word_byte byte = nat_lt 32 byte

abbrev pub is_digit : ℕ → Bool
is_digit byte = nat_le 48 byte && nat_le byte 57

-- the number that digits write in decimal
abbrev pub number_written : List ℕ → ℕ
number_written digits = fold (λ number digit. 10 * number + (digit - 48)) 0 digits

-- 1 to 20 digits, without a leading zero unless they are `0`, that write at most the greatest number.
abbrev pub writes_number : List ℕ → Bool
writes_number digits =
    nat_le 1 (length digits) && nat_le (length digits) 20 && (length digits == 1 || not (slice_index digits 0 == 48))
    && nat_le (number_written digits) greatest

-- the bytes at the front that a hole takes, where it fits
abbrev pub hole_takes : HoleKind → List ℕ → Option (List ℕ)
hole_takes Word bytes = let run = take_while is_word_byte bytes in only_if (nat_lt 0 (length run)) (Some run)
hole_takes Num bytes = let run = take_while is_digit bytes in only_if (writes_number run) (Some run)
hole_takes Rest bytes = Some bytes

-- the bytes at the front that an item takes, where it fits
abbrev pub item_takes : Item → List ℕ → Option (List ℕ)
item_takes (Lit text) bytes = only_if (starts_with nat_eq bytes text) (Some text)
item_takes (Hole name kind) bytes = hole_takes kind bytes

-- The piece of the message that each item takes, in order, where the pattern fits.
abbrev pub pieces_of : List Item → List ℕ → Option (List (List ℕ))
pieces_of [] [] = Some []
pieces_of [] (byte ∷ bytes) = None
pieces_of (item ∷ items) bytes = do
  piece ← item_takes item bytes
  pieces ← pieces_of items (drop (length piece) bytes)
  Some (piece ∷ pieces)

-- the value of what a hole takes
abbrev pub hole_value : HoleKind → List ℕ → Value
hole_value Num piece = Number (number_written piece)
hole_value Word piece = Text piece
hole_value Rest piece = Text piece

-- what a hole binds its name to
abbrev pub hole_binding : List ℕ → HoleKind → List ℕ → Binding
hole_binding name kind piece = record { name = name; value = hole_value kind piece }

-- what the holes of a pattern bind, in order
abbrev pub bindings_of : List Item → List (List ℕ) → List Binding
bindings_of (Lit text ∷ items) (piece ∷ pieces) = bindings_of items pieces
bindings_of (Hole name kind ∷ items) (piece ∷ pieces) = hole_binding name kind piece ∷ bindings_of items pieces
bindings_of _ _ = []
