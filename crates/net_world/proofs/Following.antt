-- How legal worlds and their cursors go on by an event.
use Rattle.std.proofs.Common.{◌≡◌, ℕ, ◌+◌, ◌-◌, ◌<◌, List, [], ◌∷◌, ◌++◌, take, drop, slice_get, slice_range, Some, Result, Ok, Err, refl, subst, arith}
use Rattle.std.proofs.lemmas.List.{take-append-drop}
use Rattle.net_world.specs.declared.Why.{Why}
use Rattle.net_world.specs.declared.cursors.Cursors.{Cursors}
use Rattle.net_world.specs.declared.way.Way.{Way}
use Rattle.net_world.specs.declared.way.Way.TheVariants.{Up, Down}
use Rattle.net_world.specs.Cursors.{AllRead, Follows, Passes, cursor}
use Rattle.net_world.specs.Legality.{EndsAt, MayNotCome, MayNotFollow}
use Rattle.net_world.specs.Way.{came_out}
use Rattle.net_world.proofs.Arrivals.{IsLegal-arrival}
use Rattle.net_world.proofs.Passing.{arrival, take_event}
use Rattle.net_world.proofs.Reading.{all_read_on, all_still_read, found_is_next, refused}
use Rattle.spec_model.specs.declared.event.ClientEvent.TheVariants as clients
use Rattle.spec_model.specs.declared.event.ServerEvent.{ServerEvent}
use Rattle.spec_model.specs.declared.event.ServerEvent.TheVariants as servers
use Rattle.spec_model.specs.declared.event.WorldEvent.{WorldEvent}
use Rattle.spec_model.specs.declared.event.WorldEvent.TheVariants.{Client, Server}
use Rattle.spec_model.specs.World.{IsLegal}
use Rattle.spec_model.proofs.LegalWorlds.{IsLegal-arm, IsLegal-client_send, IsLegal-not_garbled, IsLegal-pick, IsLegal-prefix, IsLegal-server_send, IsLegal-test}

module _ (old : Cursors) (world : List WorldEvent) (place : ℕ) (legal : IsLegal (take place world)) (all : AllRead old world place) where
  came : (way : Way) (conn : ℕ) (message : List ℕ) (new : Cursors) → conn < 16 → slice_get world place ≡ Some (arrival way conn message)
      → Passes way conn message (slice_range world (cursor way old conn) place) old new (Ok tt) → IsLegal (take (place + 1) world) × AllRead new world (place + 1)
  came way conn message new low there passes =
      let next = found_is_next way conn world place (cursor way old conn) (all.read way conn low) message passes.0 passes.1 in (
        rw (take_event world place (arrival way conn message) there) (IsLegal-arrival way conn message (take place world) legal next),
        all_read_on way conn message old new world place low all there passes,
      )

  came_not : (way : Way) (conn : ℕ) (message : List ℕ) (new : Cursors) (why : Why) → conn < 16 → slice_get world place ≡ Some (arrival way conn message)
      → Passes way conn message (slice_range world (cursor way old conn) place) old new (Err why)
      → MayNotCome way (take place world) conn message why × (IsLegal (take (place + 1) world) → ⊥)
  came_not way conn message new why low there finds =
      let not_now = refused way conn world place (cursor way old conn) (all.read way conn low) message why finds in
      (not_now.0, rw (take_event world place (arrival way conn message) there) not_now.1)

  -- where a message comes out
  pub follows-arrival : (way : Way) (conn : ℕ) (message : List ℕ) (new : Cursors) (result : Result Unit Why) → conn < 16 → slice_get world place ≡ Some (arrival way conn message)
      → Passes way conn message (slice_range world (cursor way old conn) place) old new result → Follows world place (arrival way conn message) new result
  follows-arrival way conn message new (Ok tt) low there passes = came way conn message new low there passes
  follows-arrival Up conn message new (Err why) low there passes = came_not Up conn message new why low there passes
  follows-arrival Down conn message new (Err why) low there passes = came_not Down conn message new why low there passes

  -- where none does
  still : (event : WorldEvent) → slice_get world place ≡ Some event → ((way : Way) (conn : ℕ) → came_out way conn (event ∷ []) ≡ []) → IsLegal (take place world ++ event ∷ [])
      → IsLegal (take (place + 1) world) × AllRead old world (place + 1)
  still event there none longer = (rw (take_event world place event there) longer, all_still_read old world place event all there none)

  pub follows-sends : (conn : ℕ) (message : List ℕ) → slice_get world place ≡ Some (Client (clients.Sends conn message)) → IsLegal (take (place + 1) world) × AllRead old world (place + 1)
  follows-sends conn message there = still _ there none (IsLegal-client_send conn message legal)
    where
      none : (way : Way) (other : ℕ) → came_out way other (Client (clients.Sends conn message) ∷ []) ≡ []
      none Up other = refl
      none Down other = refl

  pub follows-server : (event : ServerEvent) → slice_get world place ≡ Some (Server event) → ((conn : ℕ) (message : List ℕ) → event ≡ servers.Take conn message → ⊥)
      → IsLegal (take (place + 1) world) × AllRead old world (place + 1)
  follows-server event there other = still (Server event) there (none event other) (longer event other)
    where
      none : (event : ServerEvent) → ((conn : ℕ) (message : List ℕ) → event ≡ servers.Take conn message → ⊥) → (way : Way) (conn : ℕ) → came_out way conn (Server event ∷ []) ≡ []
      none (servers.Take conn message) other way at = absurd (other conn message refl)
      none (servers.Arm arm) other Up at = refl
      none (servers.Test outcome) other Up at = refl
      none (servers.Pick text) other Up at = refl
      none (servers.Send conn message) other Up at = refl
      none event other Down at = refl

      longer : (event : ServerEvent) → ((conn : ℕ) (message : List ℕ) → event ≡ servers.Take conn message → ⊥) → IsLegal (take place world ++ Server event ∷ [])
      longer (servers.Take conn message) other = absurd (other conn message refl)
      longer (servers.Arm arm) other = IsLegal-arm arm legal
      longer (servers.Test outcome) other = IsLegal-test outcome legal
      longer (servers.Pick text) other = IsLegal-pick text legal
      longer (servers.Send conn message) other = IsLegal-server_send conn message legal

  -- garbled bytes may not follow
  pub ends-garbled : (conn : ℕ) → slice_get world place ≡ Some (Client (clients.Garbles conn)) → IsLegal (take (place + 1) world) → ⊥
  ends-garbled conn there longer = IsLegal-not_garbled (take place world) conn (rw (take_event world place (Client (clients.Garbles conn)) there) at longer)

-- where legality ends, the world is not legal
pub not_legal : (world : List WorldEvent) (count : ℕ) → (IsLegal (take count world) → ⊥) → IsLegal world → ⊥
not_legal world count ends legal = ends (IsLegal-prefix (take count world) (drop count world) (rw (take-append-drop count world) legal))

-- the place from 1 of an event that may not follow
pub ends_at : (world : List WorldEvent) (place : ℕ) (event : WorldEvent) (cursors : Cursors) (why : Why) → IsLegal (take place world) → slice_get world place ≡ Some event
    → Follows world place event cursors (Err why) → EndsAt world (place + 1) why
ends_at world place event cursors why legal there (reason, ends) =
    let same : place ≡ place + 1 - 1 = omega arith in
    record {
      from_one = omega arith;
      before = subst (λ n. IsLegal (take n world)) same legal;
      ends = ends;
      event = event;
      there = subst (λ n. slice_get world n ≡ Some event) same there;
      reason = subst (λ n. MayNotFollow (take n world) event why) same reason;
    }
