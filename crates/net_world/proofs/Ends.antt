-- Legality ends at one place for one reason.
use Rattle.std.proofs.Common.{◌≡◌, ◌⊎◌, ℕ, ◌-◌, ◌<◌, ◌≤◌, List, take, drop, Some, refl, sym, ◌∙◌, subst, inl, inr, arith}
use Rattle.std.proofs.lemmas.Bool.{cases_order}
use Rattle.std.proofs.lemmas.List.{take-append-drop, take-take}
use Rattle.net_world.specs.declared.Why.{Why}
use Rattle.net_world.specs.declared.Why.TheVariants.{Ahead, Differs, Garbled}
use Rattle.net_world.specs.declared.way.Way.{Way}
use Rattle.net_world.specs.declared.way.Way.TheVariants.{Up, Down}
use Rattle.net_world.specs.Legality.{EndsAt, IsGarbledBytes, MayNotCome, MayNotFollow}
use Rattle.spec_model.specs.declared.event.ClientEvent.TheVariants as clients
use Rattle.spec_model.specs.declared.event.ServerEvent.TheVariants as servers
use Rattle.spec_model.specs.declared.event.WorldEvent.{WorldEvent}
use Rattle.spec_model.specs.declared.event.WorldEvent.TheVariants.{Client, Server}
use Rattle.spec_model.specs.World.{IsLegal}
use Rattle.spec_model.proofs.LegalWorlds.{IsLegal-prefix}

one_refusal : (way : Way) (world : List WorldEvent) (conn : ℕ) (message : List ℕ) (why reason : Why) → MayNotCome way world conn message why → MayNotCome way world conn message reason
    → why ≡ reason
one_refusal way world conn message Ahead Ahead none too = refl
one_refusal way world conn message Ahead Differs none (next, is, apart) = absurd (cc)
one_refusal way world conn message Differs Ahead (next, is, apart) none = absurd (cc)
one_refusal way world conn message Differs Differs differs too = refl
one_refusal way world conn message Garbled reason none too = absurd none
one_refusal way world conn message Ahead Garbled none too = absurd too
one_refusal way world conn message Differs Garbled differs too = absurd too

one_garbled : (why reason : Why) → IsGarbledBytes why → IsGarbledBytes reason → why ≡ reason
one_garbled Garbled Garbled is too = refl
one_garbled Garbled Ahead is too = absurd too
one_garbled Garbled Differs is too = absurd too
one_garbled Ahead reason is too = absurd is
one_garbled Differs reason is too = absurd is

one_reason : (world : List WorldEvent) (event : WorldEvent) (why reason : Why) → MayNotFollow world event why → MayNotFollow world event reason → why ≡ reason
one_reason world (Server (servers.Take conn message)) why reason may too = one_refusal Up world conn message why reason may too
one_reason world (Client (clients.Receives conn message)) why reason may too = one_refusal Down world conn message why reason may too
one_reason world (Client (clients.Garbles conn)) why reason may too = one_garbled why reason may too
one_reason world (Client (clients.Sends conn message)) why reason may too = absurd may
one_reason world (Server (servers.Arm arm)) why reason may too = absurd may
one_reason world (Server (servers.Test outcome)) why reason may too = absurd may
one_reason world (Server (servers.Pick text)) why reason may too = absurd may
one_reason world (Server (servers.Send conn message)) why reason may too = absurd may

-- fewer events of a legal world are legal
fewer_legal : (world : List WorldEvent) (few many : ℕ) → few ≤ many → IsLegal (take many world) → IsLegal (take few world)
fewer_legal world few many less legal =
    let shorter : take few (take many world) ≡ take few world = take-take few many world less in
    rw (← shorter) (IsLegal-prefix (take few (take many world)) (drop few (take many world)) (rw (take-append-drop few (take many world)) legal))

not_before : (world : List WorldEvent) (place other : ℕ) (why reason : Why) → EndsAt world place why → EndsAt world other reason → place < other → ⊥
not_before world place other why reason ends too before = ends.ends (fewer_legal world place (other - 1) (omega arith) too.before)

pub one_place : (world : List WorldEvent) (place other : ℕ) (why reason : Why) → EndsAt world place why → EndsAt world other reason → place ≡ other
one_place world place other why reason ends too = by_order (cases_order place other)
  where
    by_order : (place ≡ other) ⊎ ((place < other) ⊎ (other < place)) → place ≡ other
    by_order (inl same) = same
    by_order (inr (inl before)) = absurd (not_before world place other why reason ends too before)
    by_order (inr (inr after)) = absurd (not_before world other place reason why too ends after)

pub one_why : (world : List WorldEvent) (place : ℕ) (why reason : Why) → EndsAt world place why → EndsAt world place reason → why ≡ reason
one_why world place why reason ends too =
    let same : Some ends.event ≡ Some too.event = sym ends.there ∙ too.there in
    let event : ends.event ≡ too.event = cc in
    one_reason (take (place - 1) world) too.event why reason (subst (λ e. MayNotFollow (take (place - 1) world) e why) event ends.reason) too.reason
