-- Messages matched by the patterns of a tree.
use Rattle.std.proofs.Common.{◌≡◌, ℕ, suc, ◌+◌, ◌<◌, ◌≤◌, List, [], ◌∷◌, take, drop, get_or, length, map, Option, Some, None, option_map, refl, sym, ◌∙◌, ap, drop-cons, add-one, take_while, nat_le, subst}
use Rattle.std.proofs.lemmas.Bool.{leb-true}
use Rattle.spec_model.specs.declared.config.Value.{Value}
use Rattle.spec_model.specs.declared.tree.HoleKind.TheVariants.{Word, Num, Rest}
use Rattle.spec_model.specs.declared.tree.Item.TheVariants as items
use Rattle.spec_model.specs.Pattern.{is_digit, item_takes, number_written, pieces_of, writes_number}
use Rattle.spec_model.specs.Value.{◌>>=◌, greatest}
use Rattle.spec_model.proofs.Cuts.{item_takes-front}
use Rattle.spec_model.proofs.Partial.{both_passed, map_gave, only_if_gave}
use Rattle.itree_data.specs.declared.node.Slotted.{Slotted}
use Rattle.itree_data.specs.declared.node.Slotted.TheVariants.{Lit, Hole}
use Rattle.itree_data.specs.Step.{item_of, with_holes}
use Rattle.dual_step.specs.Taking.{NumberFits, with_hole}

-- these locals, with the holes of these items bound to the pieces into which they cut these bytes
abbrev pub fitted : List Value → List Slotted → List ℕ → Option (List Value)
fitted locals items bytes = option_map (with_holes locals items) (pieces_of (map item_of items) bytes)

bound-next : (locals : List Value) (item : Slotted) (items : List Slotted) (piece : List ℕ) (pieces : List (List ℕ))
    → with_holes locals (item ∷ items) (piece ∷ pieces) ≡ with_holes (with_hole locals item piece) items pieces
bound-next locals (Lit text) items piece pieces = refl
bound-next locals (Hole slot kind) items piece pieces = refl

took : (locals : List Value) (item : Slotted) (items : List Slotted) (piece : List ℕ) (later : Option (List (List ℕ)))
    → option_map (with_holes locals (item ∷ items)) (later >>= (λ pieces. Some (piece ∷ pieces)))
    ≡ option_map (with_holes (with_hole locals item piece) items) later
took locals item items piece None = refl
took locals item items piece (Some pieces) = ap Some (bound-next locals item items piece pieces)

next_first : (items : List Slotted) (place : ℕ) (item : Slotted) → place < length items → item ≡ get_or items place item
    → drop place items ≡ item ∷ drop (place + 1) items
next_first items place item within is = drop-cons items place item within ∙ rw add-one (ap (λ first. first ∷ drop (suc place) items) (sym is))

fitted-piece : (locals : List Value) (items : List Slotted) (place : ℕ) (item : Slotted) (bytes piece : List ℕ) → place < length items
    → item ≡ get_or items place item → item_takes (item_of item) bytes ≡ Some piece
    → fitted locals (drop place items) bytes
    ≡ fitted (with_hole locals item (take (length piece) bytes)) (drop (place + 1) items) (drop (length piece) bytes)
fitted-piece locals items place item bytes piece within is takes =
    rw (next_first items place item within is, takes, ← item_takes-front (item_of item) bytes piece takes)
    (took locals item (drop (place + 1) items) piece (pieces_of (map item_of (drop (place + 1) items)) (drop (length piece) bytes)))

-- the next item takes its piece, and its hole is bound
pub fitted-next : (locals : List Value) (items : List Slotted) (place : ℕ) (item : Slotted) (bytes : List ℕ) (len : ℕ) → place < length items
    → item ≡ get_or items place item → option_map length (item_takes (item_of item) bytes) ≡ Some len
    → fitted locals (drop place items) bytes ≡ fitted (with_hole locals item (take len bytes)) (drop (place + 1) items) (drop len bytes)
fitted-next locals items place item bytes len within is takes =
    let piece = map_gave length (item_takes (item_of item) bytes) len takes in
    rw piece.2 at (fitted-piece locals items place item bytes piece.0 within is piece.1)

length_none : (o : Option (List ℕ)) → option_map length o ≡ None → o ≡ None
length_none None none = refl
length_none (Some x) none = absurd (cc)

-- where the next item does not fit, the pattern does not
pub fitted-none : (locals : List Value) (items : List Slotted) (place : ℕ) (item : Slotted) (bytes : List ℕ) → place < length items
    → item ≡ get_or items place item → option_map length (item_takes (item_of item) bytes) ≡ None → fitted locals (drop place items) bytes ≡ None
fitted-none locals items place item bytes within is takes =
    rw (next_first items place item within is, length_none (item_takes (item_of item) bytes) takes) refl

-- the number that a hole takes is at most the greatest
pub number_fits : (item : Slotted) (bytes : List ℕ) (len : ℕ) → option_map length (item_takes (item_of item) bytes) ≡ Some len → NumberFits item (take len bytes)
number_fits (Lit text) bytes len takes = tt
number_fits (Hole slot Word) bytes len takes = tt
number_fits (Hole slot Rest) bytes len takes = tt
number_fits (Hole slot Num) bytes len takes =
    let piece = map_gave length (item_takes (items.Hole [] Num) bytes) len takes in
    let gave = only_if_gave (writes_number (take_while is_digit bytes)) (Some (take_while is_digit bytes)) piece.0 piece.1 in
    let small = both_passed _ (nat_le (number_written (take_while is_digit bytes)) greatest) gave.0 in
    let same : take_while is_digit bytes ≡ piece.0 = cc in
    let front = item_takes-front (items.Hole [] Num) bytes piece.0 piece.1 in
    let fits : number_written (take_while is_digit bytes) ≤ greatest = leb-true _ _ small.1 in
    let P : List ℕ → Type 0 = λ digits. number_written digits ≤ greatest in
    subst P (same ∙ front ∙ ap (λ n. take n bytes) piece.2) fits
