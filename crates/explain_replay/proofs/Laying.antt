-- How a world is laid out.
use Rattle.std.proofs.Common.{◌≡◌, ℕ, zero, suc, ◌+◌, ◌<◌, ◌≤◌, List, [], ◌∷◌, ◌++◌, drop, get_or, length, map, take, sym, ◌∙◌, ap, add-one, append_assoc}
use Rattle.std.proofs.lemmas.List.{drop_all, drop_more, map_push, take_all}
use Rattle.spec_model.specs.declared.event.ClientEvent.{ClientEvent}
use Rattle.spec_model.specs.declared.event.ServerEvent.{ServerEvent}
use Rattle.spec_model.specs.declared.event.WorldEvent.{WorldEvent}
use Rattle.spec_model.specs.declared.event.WorldEvent.TheVariants.{Client, Server}
use Rattle.spec_model.specs.Layout.{laid_out}

take_next-suc : {A : Type 0} (list rest : List A) (item : A) (count : ℕ) → drop count list ≡ item ∷ rest → take (suc count) list ≡ take count list ++ item ∷ []
take_next-suc [] rest item zero there = absurd (cc)
take_next-suc [] rest item (suc count) there = absurd (cc)
take_next-suc (first ∷ list) rest item zero there = cc
take_next-suc (first ∷ list) rest item (suc count) there = ap (λ more. first ∷ more) (take_next-suc list rest item count there)

drop_next-suc : {A : Type 0} (list rest : List A) (item : A) (count : ℕ) → drop count list ≡ item ∷ rest → drop (suc count) list ≡ rest
drop_next-suc [] rest item zero there = absurd (cc)
drop_next-suc [] rest item (suc count) there = absurd (cc)
drop_next-suc (first ∷ list) rest item zero there = cc
drop_next-suc (first ∷ list) rest item (suc count) there = drop_next-suc list rest item count there

-- what is left of a list begins with this item, and goes on with the rest
module _ {A : Type 0} (list rest : List A) (item : A) (count : ℕ) (there : drop count list ≡ item ∷ rest) where
  pub take_next : take (count + 1) list ≡ take count list ++ item ∷ []
  take_next = rw add-one (take_next-suc list rest item count there)

  pub drop_next : drop (count + 1) list ≡ rest
  drop_next = rw add-one (drop_next-suc list rest item count there)

-- one server event more of a block
pub block_more : (events rest : List ServerEvent) (world : List WorldEvent) (event : ServerEvent) (count : ℕ) → drop count events ≡ event ∷ rest
    → (world ++ map Server (take count events)) ++ Server event ∷ [] ≡ world ++ map Server (take (count + 1) events)
block_more events rest world event count there =
    append_assoc world (map Server (take count events)) (Server event ∷ [])
    ∙ ap (λ block. world ++ block) (sym (map_push Server (take count events) event) ∙ ap (map Server) (sym (take_next events rest event count there)))

-- the block before one event more, and the event
pub laid_out-more : (exchange : List ClientEvent) (counts : List ℕ) (left : List ServerEvent) (world whole : List WorldEvent) (place : ℕ) (event : ClientEvent) (count : ℕ)
    → place < length exchange → place < length counts → event ≡ get_or exchange place event → count ≡ get_or counts place count
    → world ++ laid_out (drop place exchange) (drop place counts) left ≡ whole
    → ((world ++ map Server (take count left)) ++ Client event ∷ []) ++ laid_out (drop (place + 1) exchange) (drop (place + 1) counts) (drop count left) ≡ whole
laid_out-more exchange counts left world whole place event count within too event_is count_is so_far =
    let events : drop place exchange ≡ event ∷ drop (place + 1) exchange = drop_more exchange place event within ∙ ap (λ first. first ∷ drop (place + 1) exchange) (sym event_is) in
    let numbers : drop place counts ≡ count ∷ drop (place + 1) counts = drop_more counts place count too ∙ ap (λ first. first ∷ drop (place + 1) counts) (sym count_is) in
    let block = map Server (take count left) in
    let later = laid_out (drop (place + 1) exchange) (drop (place + 1) counts) (drop count left) in
    append_assoc (world ++ block) (Client event ∷ []) later ∙ append_assoc world block (Client event ∷ later)
    ∙ (rw (events, numbers) at so_far)

-- the events that are left behind the last one
pub laid_out-end : (exchange : List ClientEvent) (counts : List ℕ) (left : List ServerEvent) (world whole : List WorldEvent) (place count : ℕ) → length exchange ≤ place → length left ≤ count
    → world ++ laid_out (drop place exchange) (drop place counts) left ≡ whole → world ++ map Server (take count left) ≡ whole
laid_out-end exchange counts left world whole place count past many so_far =
    ap (λ events. world ++ map Server events) (take_all count left many) ∙ (rw (drop_all place exchange past) at so_far)
