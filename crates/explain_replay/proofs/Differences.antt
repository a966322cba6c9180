-- Where two lists differ first.
use Rattle.std.proofs.Common.{◌≡◌, ◌≢◌, ℕ, zero, suc, ◌+◌, ◌-◌, ◌<◌, ◌≤◌, List, [], ◌∷◌, ◌++◌, take, drop, get_or, length, slice_get, Some, None, refl, sym, ◌∙◌, ap, append-nil, arith, inl, inr, ◌⊎◌}
use Rattle.std.proofs.Math.Seq.{drop-cons, take-append_seam}
use Rattle.std.proofs.lemmas.List.{length-take-le, take-append-drop, take_all, take_more}
use Rattle.std.proofs.lemmas.Option.{get_or_from_slice_get, slice_get_cases, slice_get_within}
use Rattle.spec_model.specs.declared.event.ClientEvent.{ClientEvent}
use Rattle.spec_model.specs.declared.event.WorldEvent.{WorldEvent}
use Rattle.spec_model.specs.declared.event.WorldEvent.TheVariants.{Client}
use Rattle.spec_model.specs.World.{clients_of}
use Rattle.spec_model.proofs.WorldEvents.{clients_of-append}
use Rattle.explain_replay.specs.Replay.{FirstDifference}

-- an item of a front is one of the whole
pub slice_get-take : {A : Type 0} (list : List A) (count number : ℕ) → number < count → slice_get (take count list) number ≡ slice_get list number
slice_get-take list zero number within = absurd (omega (arith, within))
slice_get-take [] (suc count) number within = refl
slice_get-take (item ∷ list) (suc count) zero within = refl
slice_get-take (item ∷ list) (suc count) (suc number) within = slice_get-take list count number (omega (arith, within))

slice_get-seam : {A : Type 0} (front back : List A) → slice_get (front ++ back) (length front) ≡ slice_get back 0
slice_get-seam [] back = refl
slice_get-seam (item ∷ front) back = slice_get-seam front back

one_back : (count : ℕ) → count + 1 - 1 ≡ count
one_back count = omega arith

-- so many items are the same, and the next ones are not
pub differs_behind : {A : Type 0} (first second seen rest : List A) (count : ℕ) → second ≡ seen ++ rest → take count first ≡ seen → count ≤ length first
    → slice_get first count ≢ slice_get rest 0 → FirstDifference first second (count + 1)
differs_behind first second seen rest count is same within apart =
    let long : length seen ≡ count = ap length (sym same) ∙ length-take-le count first within in
    let front : take count second ≡ seen = rw (is, ← long) (take-append_seam seen rest) in
    let next : slice_get second count ≡ slice_get rest 0 = rw (is, ← long) (slice_get-seam seen rest) in
    record {
      from_one = omega arith;
      before = rw (one_back count) (same ∙ sym front);
      differs = rw (one_back count) (λ equal. apart (equal ∙ next));
    }

-- one more is the same
pub same_with : {A : Type 0} (list seen : List A) (count : ℕ) (item : A) → take count list ≡ seen → slice_get list count ≡ Some item → take (count + 1) list ≡ seen ++ item ∷ []
same_with list seen count item same there =
    take_more list count item (slice_get_within list count item there) ∙ rw (same, get_or_from_slice_get list count item item there) refl

clients_of-more : (world : List WorldEvent) (number : ℕ) (event : WorldEvent) → number < length world → event ≡ get_or world number event
    → clients_of (take (number + 1) world) ≡ clients_of (take number world) ++ clients_of (event ∷ [])
clients_of-more world number event within is =
    ap clients_of (take_more world number event within ∙ ap (λ last. take number world ++ last ∷ []) (sym is))
    ∙ clients_of-append (take number world) (event ∷ [])

-- the world's next event is one that the exchange has next too
pub same_clients : (exchange : List ClientEvent) (world : List WorldEvent) (count number : ℕ) (event : WorldEvent) (client : ClientEvent) → number < length world → event ≡ get_or world number event
    → event ≡ Client client → take count exchange ≡ clients_of (take number world) → slice_get exchange count ≡ Some client
    → take (count + 1) exchange ≡ clients_of (take (number + 1) world)
same_clients exchange world count number event client within is is_client same there =
    same_with exchange _ count client same there ∙ sym (clients_of-more world number event within is ∙ rw is_client refl)

-- the world's next event is not the one that the exchange has next
pub other_client : (exchange : List ClientEvent) (world : List WorldEvent) (count number : ℕ) (event : WorldEvent) (client : ClientEvent) → number < length world → event ≡ get_or world number event
    → event ≡ Client client → take count exchange ≡ clients_of (take number world) → count ≤ length exchange → slice_get exchange count ≢ Some client
    → FirstDifference exchange (clients_of world) (count + 1)
other_client exchange world count number event client within is is_client same short apart =
    let behind : drop number world ≡ Client client ∷ drop (suc number) world = drop-cons world number event within ∙ rw (← is, is_client) refl in
    let whole : clients_of world ≡ clients_of (take number world) ++ clients_of (drop number world) =
    ap clients_of (sym (take-append-drop number world)) ∙ clients_of-append (take number world) (drop number world) in
    differs_behind exchange (clients_of world) (clients_of (take number world)) (clients_of (drop number world)) count whole same short
    (rw behind apart)

-- the world's next event is one of the server
pub clients_of-server : (world : List WorldEvent) (number : ℕ) (event : WorldEvent) → number < length world → event ≡ get_or world number event → clients_of (event ∷ []) ≡ []
    → clients_of (take (number + 1) world) ≡ clients_of (take number world)
clients_of-server world number event within is none =
    clients_of-more world number event within is ∙ ap (λ more. clients_of (take number world) ++ more) none ∙ append-nil (clients_of (take number world))

-- the world has no event more, and the exchange has
pub ends_before : (exchange : List ClientEvent) (world : List WorldEvent) (count number : ℕ) → length world ≤ number → take count exchange ≡ clients_of (take number world)
    → count < length exchange → FirstDifference exchange (clients_of world) (count + 1)
ends_before exchange world count number past same more =
    let whole : clients_of world ≡ clients_of (take number world) ++ [] = ap clients_of (sym (take_all number world past)) ∙ sym (append-nil _) in
    differs_behind exchange (clients_of world) (clients_of (take number world)) [] count whole same (omega (arith, more))
    (not_past (slice_get_cases exchange count).1)
  where
    not_past : ((item : ClientEvent) × (count < length exchange) × (slice_get exchange count ≡ Some item) × (get_or exchange count item ≡ item)) ⊎ ((length exchange ≤ count) × (slice_get exchange count ≡ None))
        → slice_get exchange count ≡ None → ⊥
    not_past (inl there) none = absurd (cc (there.2, none))
    not_past (inr past_it) none = omega (arith, more, past_it.0)
