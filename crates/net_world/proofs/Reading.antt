-- How the cursors go on.
use Rattle.std.proofs.Common.{◌≡◌, ◌⊎◌, ℕ, ◌+◌, ◌-◌, ◌<◌, ◌≤◌, List, [], ◌∷◌, ◌++◌, length, take, drop, slice_get, slice_range, Some, Ok, Err, refl, sym, ◌∙◌, ap, inl, inr, arith, append-nil, append_assoc, length-append}
use Rattle.std.proofs.Math.Seq.{take-add}
use Rattle.std.proofs.lemmas.Bool.{cases_eq}
use Rattle.std.proofs.lemmas.List.{get_or-set_other, get_or-set_same, length-set, length-take, take-append-drop, take-take}
use Rattle.std.proofs.lemmas.Option.{slice_get_past}
use Rattle.net_world.specs.declared.Why.{Why}
use Rattle.net_world.specs.declared.Why.TheVariants.{Ahead, Differs, Garbled}
use Rattle.net_world.specs.declared.cursors.Cursors.{Cursors}
use Rattle.net_world.specs.declared.way.Way.{Way}
use Rattle.net_world.specs.declared.way.Way.TheVariants.{Up, Down}
use Rattle.net_world.specs.Cursors.{AllRead, Finds, IsRead, Passes, cursor, moved}
use Rattle.net_world.specs.Legality.{MayNotCome}
use Rattle.net_world.specs.Way.{came_out, put_in}
use Rattle.net_world.proofs.Arrivals.{arrival_is_next}
use Rattle.net_world.proofs.Passing.{arrival, came_out-append, came_out-other_conn, came_out-other_way, came_out-same, put_in-append, take_event}
use Rattle.spec_model.specs.declared.event.WorldEvent.{WorldEvent}
use Rattle.spec_model.specs.World.{IsLegal, IsPrefixOf}
use Rattle.spec_model.proofs.Prefix.{item_after_prefix, length-IsPrefixOf}

module _ (way : Way) (conn : ℕ) (world : List WorldEvent) (place at : ℕ) (read : IsRead way conn world place at) where
  -- the events from the cursor on
  abbrev between : List WorldEvent
  between = slice_range world at place

  -- the messages put in are those that came out, and those put in from the cursor on
  under_way : put_in way conn (take place world) ≡ came_out way conn (take place world) ++ put_in way conn between
  under_way =
      let within = read.within in
      let whole : at + (place - at) ≡ place = omega arith in
      ap (λ n. put_in way conn (take n world)) (sym whole) ∙ ap (put_in way conn) (take-add at (place - at) world)
      ∙ put_in-append way conn (take at world) between ∙ ap (λ list. list ++ put_in way conn between) (sym read.read)

  -- a message that is found may come
  pub found_is_next : (message : List ℕ) (count : ℕ) → Finds way conn message between (Ok count)
      → IsPrefixOf (came_out way conn (take place world) ++ message ∷ []) (put_in way conn (take place world))
  found_is_next message count (within, alone) =
      let parts : put_in way conn between ≡ message ∷ put_in way conn (drop count between) =
      ap (put_in way conn) (sym (take-append-drop count between)) ∙ put_in-append way conn (take count between) (drop count between)
      ∙ ap (λ list. list ++ put_in way conn (drop count between)) alone in
      (put_in way conn (drop count between), under_way ∙ ap (λ list. came_out way conn (take place world) ++ list) parts ∙ sym (append_assoc (came_out way conn (take place world)) (message ∷ []) _))

  -- and the cursor goes on behind it
  pub found_read : (message : List ℕ) (count : ℕ) → Finds way conn message between (Ok count) → slice_get world place ≡ Some (arrival way conn message)
      → IsRead way conn world (place + 1) (at + count)
  found_read message count (within, alone) there =
      let before = read.within in
      let short : count ≤ place - at = omega (arith, length-take (place - at) (drop at world)) in
      let same : put_in way conn (take count (drop at world)) ≡ message ∷ [] = ap (put_in way conn) (sym (take-take count (place - at) (drop at world) short)) ∙ alone in
      record {
        within = omega arith;
        read = ap (came_out way conn) (take_event world place (arrival way conn message) there)
            ∙ came_out-append way conn (take place world) (arrival way conn message ∷ []) ∙ ap (λ list. came_out way conn (take place world) ++ list) (came_out-same way conn message)
            ∙ ap (λ list. list ++ message ∷ []) read.read
            ∙ sym (ap (put_in way conn) (take-add at count world) ∙ put_in-append way conn (take at world) (take count (drop at world)) ∙ ap (λ list. put_in way conn (take at world) ++ list) same);
      }

  -- a message that is not found may not come, for the reason that is told
  pub refused : (message : List ℕ) (why : Why) → Finds way conn message between (Err why)
      → MayNotCome way (take place world) conn message why × (IsLegal (take place world ++ arrival way conn message ∷ []) → ⊥)
  refused message Ahead none =
      let all : put_in way conn (take place world) ≡ came_out way conn (take place world) = under_way ∙ ap (λ list. came_out way conn (take place world) ++ list) none ∙ append-nil _ in
      let lengths = ap length all in (
        slice_get_past (put_in way conn (take place world)) _ (omega arith),
        λ legal.
            let long = length-IsPrefixOf _ _ (arrival_is_next way conn message (take place world) legal) in
            omega (arith, length-append (came_out way conn (take place world)) (message ∷ [])),
      )
  refused message Differs (next, later, first, apart) =
      let goes_on : IsPrefixOf (came_out way conn (take place world) ++ next ∷ []) (put_in way conn (take place world)) =
      (later, under_way ∙ ap (λ list. came_out way conn (take place world) ++ list) first ∙ sym (append_assoc (came_out way conn (take place world)) (next ∷ []) later)) in
      let is_next = item_after_prefix (came_out way conn (take place world)) (put_in way conn (take place world)) next goes_on in (
        (next, is_next, apart),
        λ legal.
            let taken = item_after_prefix (came_out way conn (take place world)) (put_in way conn (take place world)) message (arrival_is_next way conn message (take place world) legal) in
            let same : Some next ≡ Some message = sym is_next ∙ taken in
            apart (cc),
      )
  refused message Garbled none = absurd none

  -- where nothing comes out, the cursor stays
  pub still_read : (event : WorldEvent) → slice_get world place ≡ Some event → came_out way conn (event ∷ []) ≡ [] → IsRead way conn world (place + 1) at
  still_read event there none =
      let before = read.within in
      record {
        within = omega arith;
        read = ap (came_out way conn) (take_event world place event there) ∙ came_out-append way conn (take place world) (event ∷ [])
            ∙ ap (λ list. came_out way conn (take place world) ++ list) none ∙ append-nil _ ∙ read.read;
      }

-- each cursor stays where nothing comes out
pub all_still_read : (cursors : Cursors) (world : List WorldEvent) (place : ℕ) (event : WorldEvent) → AllRead cursors world place → slice_get world place ≡ Some event
    → ((way : Way) (conn : ℕ) → came_out way conn (event ∷ []) ≡ []) → AllRead cursors world (place + 1)
all_still_read cursors world place event all there none = record {
  room_up = all.room_up;
  room_down = all.room_down;
  read = λ way conn low. still_read way conn world place (cursor way cursors conn) (all.read way conn low) event there (none way conn);
}

cursor-moved_same : (way : Way) (cursors : Cursors) (conn at : ℕ) → conn < 16 → length cursors.up ≡ 16 → length cursors.down ≡ 16 → cursor way (moved way cursors conn at) conn ≡ at
cursor-moved_same Up cursors conn at low room_up room_down = get_or-set_same cursors.up conn at 0 (omega arith)
cursor-moved_same Down cursors conn at low room_up room_down = get_or-set_same cursors.down conn at 0 (omega arith)

cursor-moved_conn : (way : Way) (cursors : Cursors) (conn other at : ℕ) → (conn ≡ other → ⊥) → cursor way (moved way cursors other at) conn ≡ cursor way cursors conn
cursor-moved_conn Up cursors conn other at apart = get_or-set_other cursors.up other conn at 0 apart
cursor-moved_conn Down cursors conn other at apart = get_or-set_other cursors.down other conn at 0 apart

cursor-moved_way : (way other : Way) (cursors : Cursors) (conn conn' at : ℕ) → (way ≡ other) ⊎ (cursor way (moved other cursors conn' at) conn ≡ cursor way cursors conn)
cursor-moved_way Up Up cursors conn conn' at = inl refl
cursor-moved_way Up Down cursors conn conn' at = inr refl
cursor-moved_way Down Up cursors conn conn' at = inr refl
cursor-moved_way Down Down cursors conn conn' at = inl refl

room-moved : (way : Way) (cursors : Cursors) (conn at : ℕ) → length cursors.up ≡ 16 → length cursors.down ≡ 16
    → (length (moved way cursors conn at).up ≡ 16) × (length (moved way cursors conn at).down ≡ 16)
room-moved Up cursors conn at up down = (length-set cursors.up conn at ∙ up, down)
room-moved Down cursors conn at up down = (up, length-set cursors.down conn at ∙ down)

-- The cursor of a message that was found goes on, and the others stay.
pub all_read_on : (way : Way) (conn : ℕ) (message : List ℕ) (old new : Cursors) (world : List WorldEvent) (place : ℕ) → conn < 16 → AllRead old world place
    → slice_get world place ≡ Some (arrival way conn message) → Passes way conn message (slice_range world (cursor way old conn) place) old new (Ok tt) → AllRead new world (place + 1)
all_read_on way conn message old new world place low all there (count, finds, is) = record {
  room_up = ap (λ c. length c.up) is ∙ rooms.0;
  room_down = ap (λ c. length c.down) is ∙ rooms.1;
  read = λ other conn' low'. rw is (by_conn other conn' low' (cases_eq conn conn'));
}
  where
    at : ℕ
    at = cursor way old conn + count

    rooms : (length (moved way old conn at).up ≡ 16) × (length (moved way old conn at).down ≡ 16)
    rooms = room-moved way old conn at all.room_up all.room_down

    stays : (other : Way) (conn' : ℕ) → conn' < 16 → cursor other (moved way old conn at) conn' ≡ cursor other old conn'
        → came_out other conn' (arrival way conn message ∷ []) ≡ [] → IsRead other conn' world (place + 1) (cursor other (moved way old conn at) conn')
    stays other conn' low' same none =
        rw same (still_read other conn' world place (cursor other old conn') (all.read other conn' low') (arrival way conn message) there none)

    by_way : (other : Way) (conn' : ℕ) → conn ≡ conn' → conn' < 16 → (other ≡ way) ⊎ (cursor other (moved way old conn at) conn' ≡ cursor other old conn')
        → (other ≡ way) ⊎ (came_out other conn' (arrival way conn message ∷ []) ≡ []) → IsRead other conn' world (place + 1) (cursor other (moved way old conn at) conn')
    by_way other conn' same low' (inr kept) (inr none) = stays other conn' low' kept none
    by_way other conn' same low' (inl is_way) _ =
        rw (is_way, ← same, cursor-moved_same way old conn at low all.room_up all.room_down)
        (found_read way conn world place (cursor way old conn) (all.read way conn low) message count finds there)
    by_way other conn' same low' (inr kept) (inl is_way) =
        rw (is_way, ← same, cursor-moved_same way old conn at low all.room_up all.room_down)
        (found_read way conn world place (cursor way old conn) (all.read way conn low) message count finds there)

    by_apart : (other : Way) (conn' : ℕ) → conn' < 16 → (conn ≡ conn' → ⊥) → (other ≡ way) ⊎ (came_out other conn' (arrival way conn message ∷ []) ≡ [])
        → (other ≡ way) ⊎ (cursor other (moved way old conn at) conn' ≡ cursor other old conn') → IsRead other conn' world (place + 1) (cursor other (moved way old conn at) conn')
    by_apart other conn' low' apart (inr none) (inr kept) = stays other conn' low' kept none
    by_apart other conn' low' apart (inl is_way) _ =
        rw is_way (stays way conn' low' (cursor-moved_conn way old conn' conn at (λ same. apart (sym same))) (came_out-other_conn way conn' conn message apart))
    by_apart other conn' low' apart (inr none) (inl is_way) =
        rw is_way (stays way conn' low' (cursor-moved_conn way old conn' conn at (λ same. apart (sym same))) (came_out-other_conn way conn' conn message apart))

    by_conn : (other : Way) (conn' : ℕ) → conn' < 16 → (conn ≡ conn') ⊎ (conn ≡ conn' → ⊥) → IsRead other conn' world (place + 1) (cursor other (moved way old conn at) conn')
    by_conn other conn' low' (inl same) =
        by_way other conn' same low' (cursor-moved_way other way old conn' conn at) (came_out-other_way other way conn' conn message)
    by_conn other conn' low' (inr apart) = by_apart other conn' low' apart (came_out-other_way other way conn' conn message) (cursor-moved_way other way old conn' conn at)
