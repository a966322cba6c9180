-- Messages matched by patterns.
use Rattle.std.proofs.Common.{◌≡◌, ℕ, suc, ◌+◌, ◌<◌, ◌≤◌, List, [], ◌∷◌, ◌++◌, take, drop, get_or, length, Option, Some, None, option_map, refl, sym, ◌∙◌, ap, append-nil, append_assoc, drop-cons, add-one, take_while, nat_le, subst}
use Rattle.std.proofs.lemmas.Bool.{leb-true}
use Rattle.spec_model.specs.declared.config.Binding.{Binding}
use Rattle.spec_model.specs.declared.tree.HoleKind.TheVariants.{Word, Num, Rest}
use Rattle.spec_model.specs.declared.tree.Item.{Item}
use Rattle.spec_model.specs.declared.tree.Item.TheVariants.{Lit, Hole}
use Rattle.spec_model.specs.Pattern.{bindings_of, hole_binding, is_digit, item_takes, number_written, pieces_of, writes_number}
use Rattle.spec_model.specs.Value.{◌>>=◌, greatest}
use Rattle.spec_model.proofs.Cuts.{item_takes-front}
use Rattle.spec_model.proofs.Partial.{both_passed, map_gave, only_if_gave}
use Rattle.server_run.specs.Cases.{NumberFits, item_bindings}

-- bindings that were found, and those of the pieces into which these items cut these bytes
abbrev pub bound_behind : List Binding → List Item → List ℕ → Option (List Binding)
bound_behind found items bytes = option_map (λ pieces. found ++ bindings_of items pieces) (pieces_of items bytes)

bound-next : (found : List Binding) (item : Item) (items : List Item) (piece : List ℕ) (pieces : List (List ℕ))
    → found ++ bindings_of (item ∷ items) (piece ∷ pieces) ≡ (found ++ item_bindings item piece) ++ bindings_of items pieces
bound-next found (Lit text) items piece pieces = ap (λ front. front ++ bindings_of items pieces) (sym (append-nil found))
bound-next found (Hole name kind) items piece pieces = sym (append_assoc found (hole_binding name kind piece ∷ []) (bindings_of items pieces))

took : (found : List Binding) (item : Item) (items : List Item) (piece : List ℕ) (later : Option (List (List ℕ)))
    → option_map (λ pieces. found ++ bindings_of (item ∷ items) pieces) (later >>= (λ pieces. Some (piece ∷ pieces)))
    ≡ option_map (λ pieces. (found ++ item_bindings item piece) ++ bindings_of items pieces) later
took found item items piece None = refl
took found item items piece (Some pieces) = ap Some (bound-next found item items piece pieces)

next_first : (items : List Item) (place : ℕ) (item : Item) → place < length items → item ≡ get_or items place item → drop place items ≡ item ∷ drop (place + 1) items
next_first items place item within is = drop-cons items place item within ∙ rw add-one (ap (λ first. first ∷ drop (suc place) items) (sym is))

bound_behind-piece : (found : List Binding) (items : List Item) (place : ℕ) (item : Item) (bytes piece : List ℕ) → place < length items
    → item ≡ get_or items place item → item_takes item bytes ≡ Some piece
    → bound_behind found (drop place items) bytes
    ≡ bound_behind (found ++ item_bindings item (take (length piece) bytes)) (drop (place + 1) items) (drop (length piece) bytes)
bound_behind-piece found items place item bytes piece within is takes =
    rw (next_first items place item within is, takes, ← item_takes-front item bytes piece takes)
    (took found item (drop (place + 1) items) piece (pieces_of (drop (place + 1) items) (drop (length piece) bytes)))

-- the next item takes its piece, and binds what it binds
pub bound_behind-next : (found : List Binding) (items : List Item) (place : ℕ) (item : Item) (bytes : List ℕ) (len : ℕ) → place < length items
    → item ≡ get_or items place item → option_map length (item_takes item bytes) ≡ Some len
    → bound_behind found (drop place items) bytes ≡ bound_behind (found ++ item_bindings item (take len bytes)) (drop (place + 1) items) (drop len bytes)
bound_behind-next found items place item bytes len within is takes =
    let piece = map_gave length (item_takes item bytes) len takes in
    rw piece.2 at (bound_behind-piece found items place item bytes piece.0 within is piece.1)

length_none : (o : Option (List ℕ)) → option_map length o ≡ None → o ≡ None
length_none None none = refl
length_none (Some x) none = absurd (cc)

-- where the next item does not fit, the pattern does not
pub bound_behind-none : (found : List Binding) (items : List Item) (place : ℕ) (item : Item) (bytes : List ℕ) → place < length items
    → item ≡ get_or items place item → option_map length (item_takes item bytes) ≡ None → bound_behind found (drop place items) bytes ≡ None
bound_behind-none found items place item bytes within is takes =
    rw (next_first items place item within is, length_none (item_takes item bytes) takes) refl

-- the number that a hole takes is at most the greatest
pub number_fits : (item : Item) (bytes : List ℕ) (len : ℕ) → option_map length (item_takes item bytes) ≡ Some len → NumberFits item (take len bytes)
number_fits (Lit text) bytes len takes = tt
number_fits (Hole name Word) bytes len takes = tt
number_fits (Hole name Rest) bytes len takes = tt
number_fits (Hole name Num) bytes len takes =
    let piece = map_gave length (item_takes (Hole name Num) bytes) len takes in
    let gave = only_if_gave (writes_number (take_while is_digit bytes)) (Some (take_while is_digit bytes)) piece.0 piece.1 in
    let small = both_passed _ (nat_le (number_written (take_while is_digit bytes)) greatest) gave.0 in
    let same : take_while is_digit bytes ≡ piece.0 = cc in
    let front = item_takes-front (Hole name Num) bytes piece.0 piece.1 in
    let fits : number_written (take_while is_digit bytes) ≤ greatest = leb-true _ _ small.1 in
    let P : List ℕ → Type 0 = λ digits. number_written digits ≤ greatest in
    subst P (same ∙ front ∙ ap (λ n. take n bytes) piece.2) fits
