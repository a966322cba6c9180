-- The texts of a send's parts.
use Rattle.std.proofs.Common.{◌≡◌, ℕ, suc, ◌+◌, ◌<◌, ◌≤◌, Bool, true, false, ◌&&◌, nat_le, List, ◌∷◌, ◌++◌, drop, get_or, length, Option, Some, None, is_some, refl, sym, ◌∙◌, ap, add-one, zero-add, drop-cons, length-append, arith}
use Rattle.std.specs.List.{concat, list_all}
use Rattle.std.proofs.lemmas.Bool.{leb-true, le-leb}
use Rattle.std.proofs.lemmas.List.{drop_all}
use Rattle.std.proofs.lemmas.List.Folds.{list_all-append}
use Rattle.spec_model.specs.declared.config.Config.{Config}
use Rattle.spec_model.specs.declared.config.Value.{Value}
use Rattle.spec_model.specs.declared.event.Shape.{Shape}
use Rattle.spec_model.specs.declared.tree.Expr.{Expr}
use Rattle.spec_model.specs.Message.{is_message, may_stand_in_message}
use Rattle.spec_model.specs.Step.{parts_sent}
use Rattle.spec_model.specs.Value.{◌>>=◌, only_if, sent_as, value_of}
use Rattle.spec_model.proofs.Partial.{both_passed, only_if_gave}
use Rattle.server_run.specs.Sending.{len_with, sends_message}

-- whether a message of so many bytes is one with these pieces too
abbrev pub fits_behind : Shape → Option ℕ → List (List ℕ) → Bool
fits_behind shape None pieces = false
fits_behind shape (Some len) pieces = nat_le (len + length (concat pieces)) shape.limit && list_all (may_stand_in_message shape.framing) (concat pieces)

abbrev pub all_fit : Shape → Option ℕ → Option (List (List ℕ)) → Bool
all_fit shape so_far None = false
all_fit shape so_far (Some pieces) = fits_behind shape so_far pieces

-- the same of the pieces of these parts
abbrev pub parts_fit : Shape → Option ℕ → Config → List Expr → Bool
parts_fit shape so_far c parts = all_fit shape so_far (parts_sent c parts)

by_tests : (short all within whole later : Bool) (f : Option ℕ → Bool) (n : ℕ) → (whole ≡ true → within ≡ true) → (within ≡ true → short ≡ true)
    → f None ≡ false → f (Some n) ≡ (whole && later) → (whole && (all && later)) ≡ f (only_if ((short && all) && within) (Some n))
by_tests true true true whole later f n p q none some = sym some
by_tests true true false true later f n p q none some = let wrong : false ≡ true = p refl in absurd (cc)
by_tests true true false false later f n p q none some = sym none
by_tests true false within true later f n p q none some = sym none
by_tests true false within false later f n p q none some = sym none
by_tests false all true whole later f n p q none some = let wrong : false ≡ true = q refl in absurd (cc)
by_tests false all false true later f n p q none some = let wrong : false ≡ true = p refl in absurd (cc)
by_tests false true false false later f n p q none some = sym none
by_tests false false false false later f n p q none some = sym none

fits_next : (shape : Shape) (so_far : Option ℕ) (piece : List ℕ) (pieces : List (List ℕ))
    → fits_behind shape so_far (piece ∷ pieces) ≡ fits_behind shape (len_with shape so_far piece) pieces
fits_next shape None piece pieces = refl
fits_next shape (Some len) piece pieces =
    let allowed = may_stand_in_message shape.framing in
    let lengths : len + length (piece ++ concat pieces) ≡ (len + length piece) + length (concat pieces) = omega (arith, length-append piece (concat pieces)) in
    rw (lengths, list_all-append allowed piece (concat pieces))
    (by_tests (nat_le (length piece) shape.limit) (list_all allowed piece) (nat_le (len + length piece) shape.limit)
    (nat_le ((len + length piece) + length (concat pieces)) shape.limit) (list_all allowed (concat pieces)) (λ so_far. fits_behind shape so_far pieces) (len + length piece)
    (λ whole. le-leb _ _ (let h = leb-true _ _ whole in omega (arith, h))) (λ within. le-leb _ _ (let h = leb-true _ _ within in omega (arith, h))) refl refl)

all_fit_next : (shape : Shape) (so_far : Option ℕ) (piece : List ℕ) (later : Option (List (List ℕ)))
    → all_fit shape so_far (later >>= (λ pieces. Some (piece ∷ pieces))) ≡ all_fit shape (len_with shape so_far piece) later
all_fit_next shape so_far piece None = refl
all_fit_next shape so_far piece (Some pieces) = fits_next shape so_far piece pieces

first_part : (parts : List Expr) (place : ℕ) (part : Expr) → place < length parts → part ≡ get_or parts place part → drop place parts ≡ part ∷ drop (place + 1) parts
first_part parts place part within is = drop-cons parts place part within ∙ rw add-one (ap (λ first. first ∷ drop (suc place) parts) (sym is))

-- one part more is sent
pub parts_fit_next : (shape : Shape) (so_far : Option ℕ) (c : Config) (parts : List Expr) (place : ℕ) (part : Expr) (value : Value) → place < length parts
    → part ≡ get_or parts place part → value_of c part ≡ Some value
    → parts_fit shape so_far c (drop place parts) ≡ parts_fit shape (len_with shape so_far (sent_as value)) c (drop (place + 1) parts)
parts_fit_next shape so_far c parts place part value within is gave =
    rw (first_part parts place part within is, gave) (all_fit_next shape so_far (sent_as value) (parts_sent c (drop (place + 1) parts)))

-- a part that has no value is not sent
pub parts_fit_none : (shape : Shape) (so_far : Option ℕ) (c : Config) (parts : List Expr) (place : ℕ) (part : Expr) → place < length parts
    → part ≡ get_or parts place part → value_of c part ≡ None → parts_fit shape so_far c (drop place parts) ≡ false
parts_fit_none shape so_far c parts place part within is none = rw (first_part parts place part within is, none) refl

is_some_if : (test : Bool) (text : List ℕ) → test ≡ is_some (only_if test (Some text))
is_some_if true text = refl
is_some_if false text = refl

-- from the first part on they are a message
all_fit_whole : (shape : Shape) (pieces : Option (List (List ℕ)))
    → all_fit shape (Some 0) pieces ≡ is_some (pieces >>= (λ pieces. only_if (is_message shape (concat pieces)) (Some (concat pieces))))
all_fit_whole shape None = refl
all_fit_whole shape (Some pieces) = rw (zero-add (length (concat pieces))) (is_some_if (is_message shape (concat pieces)) (concat pieces))

pub parts_fit_whole : (shape : Shape) (c : Config) (parts : List Expr) → parts_fit shape (Some 0) c parts ≡ sends_message shape c parts
parts_fit_whole shape c parts = all_fit_whole shape (parts_sent c parts)

-- behind the last part
pub parts_fit_last : (shape : Shape) (so_far : Option ℕ) (c : Config) (parts : List Expr) (place : ℕ) → length parts ≤ place
    → ((len : ℕ) → so_far ≡ Some len → len ≤ shape.limit) → parts_fit shape so_far c (drop place parts) ≡ is_some so_far
parts_fit_last shape None c parts place over small = rw (drop_all place parts over) refl
parts_fit_last shape (Some len) c parts place over small =
    let within : nat_le (len + 0) shape.limit ≡ true = le-leb _ _ (let h = small len refl in omega (arith, h)) in
    rw (drop_all place parts over, within) refl

-- what is still a message is short
pub len_with_small : (shape : Shape) (so_far : Option ℕ) (piece : List ℕ) (len : ℕ) → len_with shape so_far piece ≡ Some len → len ≤ shape.limit
len_with_small shape None piece len gave = absurd (cc)
len_with_small shape (Some before) piece len gave =
    let tests = only_if_gave (is_message shape piece && nat_le (before + length piece) shape.limit) (Some (before + length piece)) len gave in
    let within = leb-true (before + length piece) shape.limit (both_passed (is_message shape piece) (nat_le (before + length piece) shape.limit) tests.0).1 in
    let same : before + length piece ≡ len = cc in omega (arith, within)

-- a message is short
pub message_short : (shape : Shape) (text : List ℕ) (len : ℕ) → only_if (is_message shape text) (Some (length text)) ≡ Some len → len ≤ shape.limit
message_short shape text len gave =
    let tests = only_if_gave (is_message shape text) (Some (length text)) len gave in
    let within = leb-true (length text) shape.limit (both_passed (nat_le (length text) shape.limit) (list_all (may_stand_in_message shape.framing) text) tests.0).0 in
    let same : length text ≡ len = cc in omega (arith, within)
