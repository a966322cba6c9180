-- Names and the places at which they stand in a list.
use Rattle.std.proofs.Common.{◌≡◌, ℕ, ◌<◌, ◌≤◌, Bool, true, false, cond, nat_lt, List, [], ◌∷◌, length, map, Some, None, option_map, refl, sym, ◌∙◌, ap, arith}
use Rattle.std.specs.Prelude.{slice_get, bytes_eq, find}
use Rattle.std.specs.List.{position, position_or_len}
use Rattle.std.proofs.lemmas.List.Folds.{find_at}
use Rattle.std.proofs.lemmas.Option.{slice_get-map, slice_get_past}
use borrow.Author.Tests.{ltb-true, ltb-false}
use Rattle.spec_model.specs.declared.config.Binding.{Binding}
use Rattle.spec_model.specs.declared.config.Value.{Value}
use Rattle.spec_model.specs.Value.{value_in}

-- where two tests pass at the same places, they pass first at the same one
pub same_position : {X Y : Type 0} (p : X → Bool) (q : Y → Bool) (xs : List X) (ys : List Y) → map p xs ≡ map q ys → position_or_len p xs ≡ position_or_len q ys
same_position p q [] [] e = refl
same_position p q [] (y ∷ ys) e = absurd (cc)
same_position p q (x ∷ xs) [] e = absurd (cc)
same_position p q (x ∷ xs) (y ∷ ys) e =
    let first : p x ≡ q y = cc in
    let later : map p xs ≡ map q ys = cc in
    let rest = same_position p q xs ys later in rw (first, rest) refl

chosen_place : (small : Bool) (n length_of : ℕ) → nat_lt n length_of ≡ small → (i : ℕ) → cond small (Some n) None ≡ Some i → (n ≡ i) × (n < length_of)
chosen_place true n length_of is i e = (cc, ltb-true n length_of is)
chosen_place false n length_of is i e = absurd (cc)

no_place : (small : Bool) (n length_of : ℕ) → nat_lt n length_of ≡ small → cond small (Some n) None ≡ None → length_of ≤ n
no_place true n length_of is e = absurd (cc)
no_place false n length_of is e = ltb-false n length_of is

pub position_is : {X : Type 0} (p : X → Bool) (xs : List X) (i : ℕ) → position p xs ≡ Some i → (position_or_len p xs ≡ i) × (i < length xs)
position_is p xs i e =
    let there = chosen_place (nat_lt (position_or_len p xs) (length xs)) (position_or_len p xs) (length xs) refl i e in
    let within : i < length xs = omega (arith, there.0, there.1) in (there.0, within)

pub position_none : {X : Type 0} (p : X → Bool) (xs : List X) → position p xs ≡ None → length xs ≤ position_or_len p xs
position_none p xs e = no_place (nat_lt (position_or_len p xs) (length xs)) (position_or_len p xs) (length xs) refl e

pub map_map : {A B C : Type 0} (f : A → B) (g : B → C) (xs : List A) → map g (map f xs) ≡ map (λ x. g (f x)) xs
map_map f g [] = refl
map_map f g (x ∷ xs) = let later = map_map f g xs in rw later refl

-- what is found by its name stands at the first place of the name
pub found_at : {Y V X : Type 0} (named : Y → List ℕ) (held : Y → V) (f : X → List ℕ) (ys : List Y) (xs : List X) (name : List ℕ) → map named ys ≡ map f xs
    → option_map held (find (λ y. bytes_eq (named y) name) ys) ≡ slice_get (map held ys) (position_or_len (λ x. bytes_eq (f x) name) xs)
found_at named held f ys xs name e =
    let is_name : List ℕ → Bool = λ n. bytes_eq n name in
    let tests : map (λ y. is_name (named y)) ys ≡ map (λ x. is_name (f x)) xs
    = sym (map_map named is_name ys) ∙ ap (map is_name) e ∙ map_map f is_name xs in
    let same = same_position (λ y. bytes_eq (named y) name) (λ x. bytes_eq (f x) name) ys xs tests in
    ap (option_map held) (find_at (λ y. bytes_eq (named y) name) ys)
    ∙ sym (slice_get-map held ys (position_or_len (λ y. bytes_eq (named y) name) ys))
    ∙ ap (slice_get (map held ys)) same

pub length_held : {Y V X : Type 0} (named : Y → List ℕ) (held : Y → V) (f : X → List ℕ) (ys : List Y) (xs : List X) → map named ys ≡ map f xs
    → length (map held ys) ≡ length xs
length_held named held f [] [] e = refl
length_held named held f [] (x ∷ xs) e = absurd (cc)
length_held named held f (y ∷ ys) [] e = absurd (cc)
length_held named held f (y ∷ ys) (x ∷ xs) e =
    let later : map named ys ≡ map f xs = cc in let same = length_held named held f ys xs later in omega (arith, same)

-- a name that has a place
pub found_placed : {Y V X : Type 0} (named : Y → List ℕ) (held : Y → V) (f : X → List ℕ) (ys : List Y) (xs : List X) (name : List ℕ) (i : ℕ) → map named ys ≡ map f xs
    → position (λ x. bytes_eq (f x) name) xs ≡ Some i → option_map held (find (λ y. bytes_eq (named y) name) ys) ≡ slice_get (map held ys) i
found_placed named held f ys xs name i e is =
    found_at named held f ys xs name e ∙ ap (slice_get (map held ys)) (position_is (λ x. bytes_eq (f x) name) xs i is).0

abbrev pub names_of : List Binding → List (List ℕ)
names_of bs = map (λ (b : Binding). b.name) bs

abbrev pub values_of : List Binding → List Value
values_of bs = map (λ (b : Binding). b.value) bs

pub value_placed : {X : Type 0} (f : X → List ℕ) (bs : List Binding) (xs : List X) (name : List ℕ) (i : ℕ) → names_of bs ≡ map f xs
    → position (λ x. bytes_eq (f x) name) xs ≡ Some i → value_in bs name ≡ slice_get (values_of bs) i
value_placed f bs xs name i e is = found_placed (λ (b : Binding). b.name) (λ (b : Binding). b.value) f bs xs name i e is

-- a name that has none
pub value_unplaced : {X : Type 0} (f : X → List ℕ) (bs : List Binding) (xs : List X) (name : List ℕ) → names_of bs ≡ map f xs
    → position (λ x. bytes_eq (f x) name) xs ≡ None → value_in bs name ≡ None
value_unplaced f bs xs name e none =
    let past = position_none (λ x. bytes_eq (f x) name) xs none in
    let long = length_held (λ (b : Binding). b.name) (λ (b : Binding). b.value) f bs xs e in
    found_at (λ (b : Binding). b.name) (λ (b : Binding). b.value) f bs xs name e ∙ slice_get_past (values_of bs) _ (omega (arith, past, long))

-- the place of a name among others of the same names
pub place_among : {Y X : Type 0} (named : Y → List ℕ) (f : X → List ℕ) (ys : List Y) (xs : List X) (name : List ℕ) (i : ℕ) → map named ys ≡ map f xs
    → position (λ x. bytes_eq (f x) name) xs ≡ Some i → position_or_len (λ y. bytes_eq (named y) name) ys ≡ i
place_among named f ys xs name i e is =
    let is_name : List ℕ → Bool = λ n. bytes_eq n name in
    let tests : map (λ y. is_name (named y)) ys ≡ map (λ x. is_name (f x)) xs
    = sym (map_map named is_name ys) ∙ ap (map is_name) e ∙ map_map f is_name xs in
    same_position (λ y. bytes_eq (named y) name) (λ x. bytes_eq (f x) name) ys xs tests ∙ (position_is (λ x. bytes_eq (f x) name) xs i is).0
