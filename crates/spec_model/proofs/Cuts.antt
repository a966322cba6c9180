-- Messages cut by patterns, one item after the other.
use Rattle.std.proofs.Common.{append-nil, ◌<◌, get_or, slice_set, drop-cons, add-one, nat_eq, nat_lt, zero, suc, ◌≡◌, ℕ, ◌+◌, ◌-◌, ◌≤◌, List, [], ◌∷◌, ◌++◌, length, take, drop, take_while, replicate, Option, Some, None, option_map, refl, sym, ◌∙◌, ap, arith, append_assoc}
use Rattle.std.specs.List.{starts_with}
use Rattle.std.proofs.Math.Seq.{drop-length, take-length}
use Rattle.std.proofs.lemmas.List.{drop-drop, drop_all, drop-replicate, drop-set-lt, length-take, length-take-le, take_more_set, take-append-drop}
use Rattle.std.proofs.lemmas.Slice.Eq.{bytes_eq-Decides}
use Rattle.spec_model.specs.declared.tree.HoleKind.TheVariants.{Word, Num, Rest}
use Rattle.spec_model.specs.declared.tree.Item.TheVariants.{Lit, Hole}
use Rattle.spec_model.specs.declared.tree.Item.{Item}
use Rattle.spec_model.specs.Cut.{cut_into, cut_of, most_items, spans_from}
use Rattle.spec_model.specs.Pattern.{is_digit, is_word_byte, item_takes, pieces_of, writes_number}
use Rattle.spec_model.specs.Value.{◌>>=◌}
use Rattle.spec_model.proofs.Partial.{map_gave, only_if_gave}

-- spans that were found, and those of the pieces into which these items cut these bytes, of which the first stands at this place
abbrev pub spans_behind : List (ℕ × ℕ) → ℕ → List Item → List ℕ → Option (List (ℕ × ℕ))
spans_behind found start items bytes = option_map (λ pieces. found ++ spans_from start pieces) (pieces_of items bytes)

-- an item that fits takes its piece
took : (found : List (ℕ × ℕ)) (start : ℕ) (piece : List ℕ) (later : Option (List (List ℕ)))
    → option_map (λ pieces. found ++ spans_from start pieces) (later >>= (λ pieces. Some (piece ∷ pieces)))
    ≡ option_map (λ pieces. (found ++ (start, length piece) ∷ []) ++ spans_from (start + length piece) pieces) later
took found start piece None = refl
took found start piece (Some pieces) = ap Some (sym (append_assoc found ((start, length piece) ∷ []) (spans_from (start + length piece) pieces)))

pub spans_behind-item : (found : List (ℕ × ℕ)) (start : ℕ) (item : Item) (items : List Item) (bytes piece : List ℕ) → item_takes item bytes ≡ Some piece
    → spans_behind found start (item ∷ items) bytes ≡ spans_behind (found ++ (start, length piece) ∷ []) (start + length piece) items (drop (length piece) bytes)
spans_behind-item found start item items bytes piece takes = rw takes (took found start piece (pieces_of items (drop (length piece) bytes)))

-- where an item does not fit, the pattern does not
pub spans_behind-none : (found : List (ℕ × ℕ)) (start : ℕ) (item : Item) (items : List Item) (bytes : List ℕ) → item_takes item bytes ≡ None
    → spans_behind found start (item ∷ items) bytes ≡ None
spans_behind-none found start item items bytes none = rw none refl

length-spans_from : (start : ℕ) (pieces : List (List ℕ)) → length (spans_from start pieces) ≡ length pieces
length-spans_from start [] = refl
length-spans_from start (piece ∷ pieces) = ap suc (length-spans_from (start + length piece) pieces)

take-length-take : (n : ℕ) (bytes : List ℕ) → take n bytes ≡ take (length (take n bytes)) bytes
take-length-take zero bytes = refl
take-length-take (suc n) [] = refl
take-length-take (suc n) (byte ∷ bytes) = ap (λ taken. byte ∷ taken) (take-length-take n bytes)

-- an item takes the bytes at the front
pub item_takes-front : (item : Item) (bytes piece : List ℕ) → item_takes item bytes ≡ Some piece → piece ≡ take (length piece) bytes
item_takes-front (Lit text) bytes piece takes =
    let fits = only_if_gave (starts_with nat_eq bytes text) (Some text) piece takes in
    let same : text ≡ piece = cc in
    rw (← same) ((bytes_eq-Decides text (take (length text) bytes)).0 fits.0)
item_takes-front (Hole name Word) bytes piece takes =
    let fits = only_if_gave (nat_lt 0 (length (take_while is_word_byte bytes))) (Some (take_while is_word_byte bytes)) piece takes in
    let same : take_while is_word_byte bytes ≡ piece = cc in
    rw (← same) (take-length-take _ bytes)
item_takes-front (Hole name Num) bytes piece takes =
    let fits = only_if_gave (writes_number (take_while is_digit bytes)) (Some (take_while is_digit bytes)) piece takes in
    let same : take_while is_digit bytes ≡ piece = cc in
    rw (← same) (take-length-take _ bytes)
item_takes-front (Hole name Rest) bytes piece takes = let same : bytes ≡ piece = cc in rw (← same) (sym (take-length bytes))

-- the pieces are found where a cut says that they are
pub cut_of-found : (items : List Item) (message : List ℕ) (spans : List (ℕ × ℕ)) → length spans ≡ most_items → length items ≤ most_items
    → drop (length items) spans ≡ replicate (most_items - length items) (0, 0)
    → option_map (spans_from 0) (pieces_of items message) ≡ Some (take (length items) spans)
    → cut_of items message ≡ Some (record { spans = spans; count = length items })
cut_of-found items message spans room short empty found =
    let pieces = map_gave (spans_from 0) (pieces_of items message) _ found in
    let count : length pieces.0 ≡ length items =
    sym (length-spans_from 0 pieces.0) ∙ ap length pieces.2 ∙ length-take-le (length items) spans (omega arith) in
    let whole = take-append-drop (length items) spans in
    let parts : spans_from 0 pieces.0 ++ replicate (most_items - length pieces.0) (0, 0) ≡ spans = rw (pieces.2, count, ← empty) whole in
    ap (option_map cut_into) pieces.1 ∙ ap Some (cc)

-- where an item takes so many bytes, they are there
pub item_takes-within : (item : Item) (bytes : List ℕ) (len : ℕ) → option_map length (item_takes item bytes) ≡ Some len → len ≤ length bytes
item_takes-within item bytes len takes =
    let piece = map_gave length (item_takes item bytes) len takes in
    let front = item_takes-front item bytes piece.0 piece.1 in
    let short = ap length front ∙ length-take (length piece.0) bytes in omega (arith, piece.2)

-- The next item's span is found, where the item fits.
pub spans_behind-next : (pattern : List Item) (message : List ℕ) (spans : List (ℕ × ℕ)) (place start len : ℕ) (item : Item)
    → place < length pattern → place < length spans → item ≡ get_or pattern place item → option_map length (item_takes item (drop start message)) ≡ Some len
    → spans_behind (take (place + 1) (slice_set spans place (start, len))) (start + len) (drop (place + 1) pattern) (drop (start + len) message)
    ≡ spans_behind (take place spans) start (drop place pattern) (drop start message)
spans_behind-next pattern message spans place start len item within room is takes =
    let piece = map_gave length (item_takes item (drop start message)) len takes in
    let one = spans_behind-item (take place spans) start item (drop (place + 1) pattern) (drop start message) piece.0 piece.1 in
    let first : drop place pattern ≡ item ∷ drop (place + 1) pattern = drop-cons pattern place item within ∙ rw add-one (ap (λ first. first ∷ drop (suc place) pattern) (sym is)) in
    let store = take_more_set spans place (start, len) room in
    let later : drop len (drop start message) ≡ drop (start + len) message = drop-drop len start message in
    rw (first, store, ← later) (sym (rw piece.2 at one))

-- the spans that are not found yet stay empty
pub empty_behind-next : (spans : List (ℕ × ℕ)) (place : ℕ) (span : ℕ × ℕ) → drop place spans ≡ replicate (most_items - place) (0, 0)
    → drop (place + 1) (slice_set spans place span) ≡ replicate (most_items - (place + 1)) (0, 0)
empty_behind-next spans place span empty =
    drop-set-lt (place + 1) spans place span (omega arith) ∙ sym (drop-drop 1 place spans) ∙ ap (drop 1) empty
    ∙ drop-replicate 1 (most_items - place) (0, 0) ∙ ap (λ n. replicate n (0, 0)) (omega arith)

map_none : {A B : Type 0} (f : A → B) (o : Option A) → option_map f o ≡ None → o ≡ None
map_none f None none = refl
map_none f (Some x) none = absurd (cc)

-- A pattern that leaves bytes of the message does not fit.
pub cut_of-left : (pattern : List Item) (message : List ℕ) (found : List (ℕ × ℕ)) (place start : ℕ) → length pattern ≤ place → start < length message
    → spans_behind found start (drop place pattern) (drop start message) ≡ option_map (spans_from 0) (pieces_of pattern message)
    → cut_of pattern message ≡ None
cut_of-left pattern message found place start over left whole =
    let none : pieces_of pattern message ≡ None =
    map_none (spans_from 0) (pieces_of pattern message) (sym whole ∙ rw (drop_all place pattern over, drop-cons message start 0) refl) in
    ap (option_map cut_into) none

-- A pattern that uses the message up fits.
pub cut_of-used : (pattern : List Item) (message : List ℕ) (spans : List (ℕ × ℕ)) (start : ℕ) → length spans ≡ most_items → length pattern ≤ most_items
    → drop (length pattern) spans ≡ replicate (most_items - length pattern) (0, 0) → length message ≤ start
    → spans_behind (take (length pattern) spans) start (drop (length pattern) pattern) (drop start message) ≡ option_map (spans_from 0) (pieces_of pattern message)
    → cut_of pattern message ≡ Some (record { spans = spans; count = length pattern })
cut_of-used pattern message spans start room short empty used whole =
    cut_of-found pattern message spans room short empty
    (sym whole ∙ rw (drop-length pattern, drop_all start message used) (ap Some (append-nil _)))
