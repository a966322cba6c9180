-- What the words of a contract on a lock, a seat and a turn say of the table and of the seat there.
use Rattle.std.proofs.Common.{◌≡◌, ◌≢◌, ℕ, ◌+◌, ◌*◌, true, List, [], ◌∷◌, ◌++◌, length, Option, Some, None, true≢false, refl, sym, ap, ◌∙◌, subst}
use Rattle.std.proofs.lemmas.Option.{same_Some}
use Rattle.std.specs.Prelude.{MatchOption}
use mathlib.Core.Option.{none, some, some-injective}
use lib.ListN.{get_elem?}
use Rattle.atomic_table.specs.Table.{Me, step, rest, Allows, Final, Seen}
use Rattle.atomic_table.specs.declared.shared.Seat.{Seat}
use Rattle.turn_lock.specs.declared.view.View.{View}
use Rattle.turn_lock.specs.declared.view.Role.{Role}
use Rattle.turn_lock.specs.declared.view.Role.TheVariants.{First, Other, Spent}
use Rattle.turn_lock.specs.Places.{BeginsWith, IsSpelledBy}
use Rattle.turn_lock.specs.Views.{having_added, having_taken_over}
use Rattle.turn_lock.specs.Rule.{StandsFor, Rule}
use Rattle.turn_lock.specs.Steps.{left, added}
use Rattle.turn_lock.specs.Seats.{LockName, SeatState, TurnState, is_first_role, state_of, IsSeatOf, HoldsTurn, IsInUse}
use Rattle.turn_lock.proofs.Turns.{leaves, adds}
use Rattle.turn_lock.proofs.Seating.{closes}

first_role : (role : Role) → is_first_role role ≡ true → role ≡ First
first_role First is = refl
first_role Other is = absurd (true≢false (sym is))
first_role Spent is = absurd (true≢false (sym is))

-- the slots of a seat that is in use, by the list that it found
abbrev HasSlot : {V E : Type 0} → List (ℕ × Option V) → Option (List E) → Type 0
HasSlot slots found = MatchOption found (slots ≡ []) (λ _. slots ≡ (0, None) ∷ [])

module _ {V E F : Type 0} where
  -- the parts of what a seat at the table has
  view_of : (m : Me (Option V) (View E F)) (v : View E F) (slots : List (ℕ × Option V)) → m ≡ (v, slots) → m.0 ≡ v
  view_of m v slots is = ap (λ (x : Me (Option V) (View E F)). x.0) is

  slots_of : (m : Me (Option V) (View E F)) (v : View E F) (slots : List (ℕ × Option V)) → m ≡ (v, slots) → m.1 ≡ slots
  slots_of m v slots is = ap (λ (x : Me (Option V) (View E F)). x.1) is

  still_alive : (m : Me (Option V) (View E F)) (v : View E F) (slots : List (ℕ × Option V)) → m ≡ (v, slots) → v.role ≢ Spent → m.0.role ≢ Spent
  still_alive m v slots is alive = λ spent. alive (sym (ap (λ (x : View E F). x.role) (view_of m v slots is)) ∙ spent)

  still_found : (m : Me (Option V) (View E F)) (v : View E F) (slots : List (ℕ × Option V)) (found : Option (List E)) → m ≡ (v, slots)
      → v.found ≡ found → m.0.found ≡ found
  still_found m v slots found is held = ap (λ (x : View E F). x.found) (view_of m v slots is) ∙ held

  -- the seat lies at the table of the lock
  pub same_table : (at : Seat (Option V) (View E F)) (seat : SeatState E F) (lock inside : LockName F) → state_of at ≡ seat → IsSeatOf lock seat
      → inside ≡ lock → at.table_id ≡ inside.table
  same_table at seat lock inside known of is = ap (λ (x : SeatState E F). x.table) known ∙ (of.0 ∙ sym (ap (λ (x : LockName F). x.table) is))

  -- and it lies there after a step
  pub still_there : (at after : Seat (Option V) (View E F)) (seat : SeatState E F) (lock inside : LockName F) → after.table_id ≡ at.table_id
      → state_of at ≡ seat → IsSeatOf lock seat → inside ≡ lock → after.table_id ≡ inside.table
  still_there at after seat lock inside stays known of is = stays ∙ same_table at seat lock inside known of is

  pub is_first_seat : (at : Seat (Option V) (View E F)) (seat : SeatState E F) → state_of at ≡ seat → seat.is_first ≡ true → at.me.0.role ≡ First
  is_first_seat at seat known is = first_role at.me.0.role (ap (λ (x : SeatState E F). x.is_first) known ∙ is)

  pub found_is : (at : Seat (Option V) (View E F)) (seat : SeatState E F) (found : Option (List E)) → state_of at ≡ seat → seat.found ≡ found
      → at.me.0.found ≡ found
  found_is at seat found known is = ap (λ (x : SeatState E F). x.found) known ∙ is

  -- a seat that took another one over is still in use
  pub took_over : (at after : Seat (Option V) (View E F)) (w : View E F) → after.me ≡ (having_taken_over at.me.0 w, at.me.1) → at.me.0.role ≢ Spent
      → after.me.0.role ≢ Spent
  took_over at after w is alive = still_alive after.me (having_taken_over at.me.0 w) at.me.1 is alive

  -- the slot that a seat took last is the one that it may exchange
  pub took_slot : (after : Seat (Option V) (View E F)) (v : View E F) (value : Option V) (more : List (ℕ × Option V))
      → after.me ≡ (v, (0, value) ∷ more) → (old : Option V) × (after.me.1 ≡ (0, old) ∷ rest after.me.1)
  took_slot after v value more is =
      let slots = slots_of after.me v ((0, value) ∷ more) is in
      (value, slots ∙ ap (λ (l : List (ℕ × Option V)). (0, value) ∷ rest l) (sym slots))

  -- a seat that holds no turn has no slot
  pub no_slot : (at : Seat (Option V) (View E F)) → IsInUse at → at.me.0.found ≡ None → at.me.1 ≡ []
  no_slot at in-use idle = subst (HasSlot at.me.1) idle in-use.slot

  -- a seat without a slot that holds no turn is in use
  pub in_use_idle : (at : Seat (Option V) (View E F)) (v : View E F) → at.me ≡ (v, []) → v.role ≢ Spent → v.found ≡ None → IsInUse at
  in_use_idle at v is alive idle = record {
    alive = still_alive at.me v [] is alive;
    slot = subst (HasSlot at.me.1) (sym (still_found at.me v [] None is idle)) (slots_of at.me v [] is);
  }

-- A seat that holds a turn, with the value back in its slot. The lock, the seat and the turn are known by what contracts see of them
module _ {V E F : Type 0} (entries : V → List E) (fixed : V → F)
    (at : Seat (Option V) (View E F)) (seat : SeatState E F) (lock inside : LockName F) (turn held : TurnState V) (m : Me (Option V) (View E F))
    (known : state_of at ≡ seat) (in-use : IsInUse at) (is : inside ≡ lock) (same : held ≡ turn)
    (full : m ≡ (at.me.0, (0, Some held.value) ∷ [])) (holds : HoldsTurn seat turn) where
  found_by : m.0.found ≡ Some holds.0
  found_by = still_found m at.me.0 ((0, Some held.value) ∷ []) (Some holds.0) full (found_is at seat (Some holds.0) known holds.1)

  alive_with : m.0.role ≢ Spent
  alive_with = still_alive m at.me.0 ((0, Some held.value) ∷ []) full in-use.alive

  stands_for : (list : List E) → entries turn.value ≡ list → fixed turn.value ≡ lock.fixed → StandsFor entries fixed list inside.fixed held.value
  stands_for list stands part = (
    ap (λ (t : TurnState V). entries t.value) same ∙ stands,
    ap (λ (t : TurnState V). fixed t.value) same ∙ (part ∙ sym (ap (λ (x : LockName F). x.fixed) is)),
  )

  count_is : held.count ≡ length holds.0
  count_is = ap (λ (t : TurnState V). t.count) same ∙ holds.2

  -- it may leave the turn
  pub may_leave : (slots id : ℕ) → slots ≡ 1 → fixed turn.value ≡ lock.fixed → seat.found ≡ Some (entries turn.value)
      → Allows (Rule entries fixed inside.fixed) slots id m 0 (λ _. 2 * held.count) (λ _. left (step slots 0 (2 * held.count) 0 none) m (2 * held.count))
  may_leave slots id one part stands =
      let list : entries turn.value ≡ holds.0 = same_Some (entries turn.value) holds.0 (sym stands ∙ holds.1) in
      leaves entries fixed inside.fixed slots id m holds.0 held.value (2 * held.count) one alive_with found_by
      (slots_of m at.me.0 ((0, Some held.value) ∷ []) full)
      (stands_for holds.0 list part)
      (ap (λ (n : ℕ). 2 * n) count_is)

  -- it may leave the turn with an entry
  pub may_add : (slots id : ℕ) → slots ≡ 1 → fixed turn.value ≡ lock.fixed → (entry : E) → entries turn.value ≡ holds.0 ++ entry ∷ []
      → Allows (Rule entries fixed inside.fixed) slots id m 0 (λ _. 2 * held.count + 2)
      (λ _. added entries fixed (step slots 0 (2 * held.count + 2) 0 none) m (2 * held.count + 2))
  may_add slots id one part entry more =
      adds entries fixed inside.fixed slots id m holds.0 entry held.value (2 * held.count + 2) one alive_with found_by
      (slots_of m at.me.0 ((0, Some held.value) ∷ []) full)
      (stands_for (holds.0 ++ entry ∷ []) more part)
      (ap (λ (n : ℕ). 2 * n + 2) count_is)

  -- and then it holds nothing
  pub has_added : (after : Seat (Option V) (View E F)) (entry : E) → entries turn.value ≡ holds.0 ++ entry ∷ []
      → added entries fixed (step 0 0 0 0 none) m 0 after.me → IsInUse after
  has_added after entry more told =
      let stands = ap (λ (t : TurnState V). entries t.value) same ∙ more in
      let now = told holds.0 entry held.value found_by (slots_of m at.me.0 ((0, Some held.value) ∷ []) full) stands in
      in_use_idle after (having_added m.0 holds.0 entry) now alive_with refl

-- What is said of the value that a closed lock gives
abbrev pub IsClosedWith : {V E F : Type 0} → (V → List E) → (V → F) → LockName F → SeatState E F → V → Type 0
IsClosedWith entries fixed lock seat value =
    (fixed value ≡ lock.fixed) × BeginsWith (entries value) seat.front × IsSpelledBy (entries value) (seat.own ∷ seat.joined)

module _ {V E F : Type 0} (entries : V → List E) (fixed : V → F) where
  -- the slot of the table that ended has such a value
  pub closed_value : (at : Seat (Option V) (View E F)) (seat : SeatState E F) (lock inside : LockName F) → state_of at ≡ seat → inside ≡ lock
      → seat.is_first ≡ true → seat.found ≡ None → seat.gave ≡ length seat.joined → (words : List ℕ) (slots : List (Option V))
      → Final (Seen (Rule entries fixed inside.fixed) at.id at.me.0) words slots → (taken : Option V) → get_elem? slots 0 ≡ some taken
      → (value : V) × (taken ≡ Some value) × IsClosedWith entries fixed lock seat value
  closed_value at seat lock inside known is first idle whole words slots end taken there =
      let gave = ap (λ (x : SeatState E F). x.gave) known in
      let took = ap (λ (x : SeatState E F). length x.joined) known in
      let front = ap (λ (x : SeatState E F). x.front) known in
      let lists = ap (λ (x : SeatState E F). x.own ∷ x.joined) known in
      let all = gave ∙ (whole ∙ sym took) in
      let last = closes entries fixed inside.fixed at.id at.me.0 words slots (is_first_seat at seat known first) (found_is at seat None known idle) all end in (
        last.0,
        some-injective taken (Some last.0) (sym there ∙ last.1),
        (
          last.2 ∙ ap (λ (x : LockName F). x.fixed) is,
          subst (BeginsWith (entries last.0)) front last.3,
          subst (IsSpelledBy (entries last.0)) lists last.4,
        ),
      )
