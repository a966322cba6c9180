-- Where the pieces of a message stand that a pattern cuts it into.
use Rattle.std.specs.Prelude.{ℕ, ◌+◌, ◌-◌, List, [], ◌∷◌, ◌++◌, length, replicate, Option, option_map}
use Rattle.spec_model.specs.declared.spans.Cut.{Cut}
use Rattle.spec_model.specs.declared.tree.Item.{Item}
use Rattle.spec_model.specs.Pattern.{pieces_of}

-- the place at which each piece begins, where the first begins at this place, and its length
abbrev pub spans_from : ℕ → List (List ℕ) → List (ℕ × ℕ)
spans_from start [] = []
spans_from start (piece ∷ pieces) = (start, length piece) ∷ spans_from (start + length piece) pieces

-- the most items of a pattern
abbrev pub most_items : ℕ
most_items = 16

-- the cut that has these pieces; the spans behind theirs are empty
abbrev pub cut_into : List (List ℕ) → Cut
cut_into pieces = record {
  spans = spans_from 0 pieces ++ replicate (most_items - length pieces) (0, 0);
  count = length pieces;
}

-- The cut of a message by a pattern, where the pattern fits.
abbrev pub cut_of : List Item → List ℕ → Option Cut
cut_of items message = option_map cut_into (pieces_of items message)
