-- Lists that begin with another.
use Rattle.std.proofs.Common.{◌≡◌, ◌≤◌, List, [], ◌∷◌, ◌++◌, length, slice_get, Option, Some, filter_map, sym, refl, ap, ◌∙◌, append_assoc, append-nil, arith, length-append}
use Rattle.std.proofs.lemmas.List.Elements.{filter_map-append}
use Rattle.spec_model.specs.World.{IsPrefixOf}

pub IsPrefixOf-self : {A : Type 0} (list : List A) → IsPrefixOf list list
IsPrefixOf-self list = ([], sym (append-nil list))

pub IsPrefixOf-nil : {A : Type 0} (list : List A) → IsPrefixOf [] list
IsPrefixOf-nil list = (list, refl)

pub IsPrefixOf-append : {A : Type 0} (front back : List A) → IsPrefixOf front (front ++ back)
IsPrefixOf-append front back = (back, refl)

pub IsPrefixOf-trans : {A : Type 0} (a b c : List A) → IsPrefixOf a b → IsPrefixOf b c → IsPrefixOf a c
IsPrefixOf-trans a b c (more, b_is) (most, c_is) = (more ++ most, rw (c_is, b_is, append_assoc))

-- a list that goes on begins with what it began with
pub IsPrefixOf-longer : {A : Type 0} (front whole more : List A) → IsPrefixOf front whole → IsPrefixOf front (whole ++ more)
IsPrefixOf-longer front whole more begins = IsPrefixOf-trans _ _ _ begins (IsPrefixOf-append whole more)

pub length-IsPrefixOf : {A : Type 0} (front whole : List A) → IsPrefixOf front whole → length front ≤ length whole
length-IsPrefixOf front whole (rest, is) = rw is (omega (arith, length-append front rest))

shorter_begins : {A : Type 0} (short long rest more : List A) → short ++ rest ≡ long ++ more → length short ≤ length long → IsPrefixOf short long
shorter_begins [] long rest more same shorter = (long, refl)
shorter_begins (x ∷ short) [] rest more same shorter = absurd (omega arith)
shorter_begins (x ∷ short) (y ∷ long) rest more same shorter =
    let heads : x ≡ y = cc in
    let tails : short ++ rest ≡ long ++ more = cc in
    let (between, is) = shorter_begins short long rest more tails (omega arith) in
    (between, cc)

-- of two prefixes of a list the longer begins with the shorter
pub IsPrefixOf-compared : {A : Type 0} (short long whole : List A) → IsPrefixOf short whole → IsPrefixOf long whole → length short ≤ length long
    → IsPrefixOf short long
IsPrefixOf-compared short long whole (rest, by_short) (more, by_long) shorter = shorter_begins short long rest more (sym by_short ∙ by_long) shorter

-- a prefix that is as long as the list is the list
pub same_from_IsPrefixOf : {A : Type 0} (front whole : List A) → IsPrefixOf front whole → length whole ≤ length front → front ≡ whole
same_from_IsPrefixOf front whole ([], is) as_long = sym (is ∙ append-nil front)
same_from_IsPrefixOf front whole (item ∷ rest, is) as_long = absurd (omega (arith, ap length is, length-append front (item ∷ rest)))

-- what is picked out of a prefix is a prefix of what is picked out of the list
pub IsPrefixOf-filter_map : {A B : Type 0} (f : A → Option B) (front whole : List A) → IsPrefixOf front whole
    → IsPrefixOf (filter_map f front) (filter_map f whole)
IsPrefixOf-filter_map f front whole (rest, is) = (filter_map f rest, rw (is, filter_map-append f front rest) refl)

item_at : {A : Type 0} (front : List A) (item : A) (rest : List A) → slice_get ((front ++ item ∷ []) ++ rest) (length front) ≡ Some item
item_at [] item rest = refl
item_at (first ∷ front) item rest = item_at front item rest

rest_from_item : {A : Type 0} (front rest : List A) (item : A) → slice_get (front ++ rest) (length front) ≡ Some item → (later : List A) × (rest ≡ item ∷ later)
rest_from_item [] [] item is = absurd cc
rest_from_item [] (first ∷ later) item is = (later, cc)
rest_from_item (first ∷ front) rest item is = rest_from_item front rest item is

-- The item behind a prefix is the one at the prefix's length.
pub item_after_prefix : {A : Type 0} (front whole : List A) (item : A) → IsPrefixOf (front ++ item ∷ []) whole → slice_get whole (length front) ≡ Some item
item_after_prefix front whole item (rest, is) = rw is (item_at front item rest)

pub prefix_and_item : {A : Type 0} (front whole : List A) (item : A) → IsPrefixOf front whole → slice_get whole (length front) ≡ Some item
    → IsPrefixOf (front ++ item ∷ []) whole
prefix_and_item front whole item (rest, is) at =
    let (later, rest_is) = rest_from_item front rest item (rw is at at) in
    (later, is ∙ ap (λ items. front ++ items) rest_is ∙ sym (append_assoc front (item ∷ []) later))
