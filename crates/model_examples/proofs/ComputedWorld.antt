-- Worlds whose legality is computed, event by event.
use Rattle.std.proofs.Common.{◌≡◌, ℕ, Bool, true, false, ◌&&◌, is_some, List, [], ◌∷◌, ◌++◌, length, slice_get, Option, Some, None, bytes_eq, ap, subst, append-nil, append_assoc}
use Rattle.std.proofs.lemmas.Slice.Eq.{bytes_eq-Decides}
use Rattle.spec_model.specs.declared.event.ClientEvent.{ClientEvent}
use Rattle.spec_model.specs.declared.event.ClientEvent.TheVariants as clients
use Rattle.spec_model.specs.declared.event.ServerEvent.TheVariants as servers
use Rattle.spec_model.specs.declared.event.WorldEvent.{WorldEvent}
use Rattle.spec_model.specs.declared.event.WorldEvent.TheVariants.{Client, Server}
use Rattle.spec_model.specs.declared.tree.Spec.{Spec}
use Rattle.spec_model.specs.World.{clients_of, server_of, client_sends, client_receipts, server_takes, server_sends, IsPrefixOf, IsLegal, Explains}
use Rattle.spec_model.proofs.LegalWorlds.{IsLegal-nil, IsLegal-in_order, IsLegal-client_send, IsLegal-receipt, IsLegal-take, IsLegal-server_send, IsLegal-pick, IsLegal-arm, IsLegal-test}
use Rattle.spec_model.proofs.Partial.{both_passed}
use Rattle.spec_model.proofs.Prefix.{prefix_and_item}
use Rattle.model_examples.proofs.ComputedRun.{run_end, is_run}

-- whether behind the messages that passed this one is the next of those that were sent
abbrev is_next : List (List ℕ) → List (List ℕ) → List ℕ → Bool
is_next passed sent message = elim (slice_get sent (length passed)) [ None ↦ false | Some next ↦ bytes_eq next message ]

-- Whether a legal world goes on by this event: what is taken or received is the next that was sent.
abbrev may_follow : List WorldEvent → WorldEvent → Bool
may_follow world (Client (clients.Sends conn message)) = true
may_follow world (Client (clients.Receives conn message)) =
    is_next (client_receipts conn (clients_of world)) (server_sends conn (server_of world)) message
may_follow world (Client (clients.Garbles conn)) = false
may_follow world (Server (servers.Take conn message)) =
    is_next (server_takes conn (server_of world)) (client_sends conn (clients_of world)) message
may_follow world (Server (servers.Arm number)) = true
may_follow world (Server (servers.Test outcome)) = true
may_follow world (Server (servers.Pick text)) = true
may_follow world (Server (servers.Send conn message)) = true

-- whether it goes on by these events
abbrev all_follow : List WorldEvent → List WorldEvent → Bool
all_follow world [] = true
all_follow world (event ∷ events) = may_follow world event && all_follow (world ++ event ∷ []) events

-- What is computed is what the definitions say.
goes_on : (passed sent : List (List ℕ)) (message : List ℕ) → IsPrefixOf passed sent → is_next passed sent message ≡ true
    → IsPrefixOf (passed ++ message ∷ []) sent
goes_on passed sent message begins next =
    prefix_and_item passed sent message begins (by_item (slice_get sent (length passed)) next)
  where
    by_item : (item : Option (List ℕ)) → elim item as (λ _. Bool) [ None ↦ false | Some next ↦ bytes_eq next message ] ≡ true → item ≡ Some message
    by_item None none = absurd (cc)
    by_item (Some other) same = ap Some ((bytes_eq-Decides other message).0 same)

legal_behind : (world : List WorldEvent) (event : WorldEvent) → IsLegal world → may_follow world event ≡ true → IsLegal (world ++ event ∷ [])
legal_behind world (Client (clients.Sends conn message)) legal follows = IsLegal-client_send conn message legal
legal_behind world (Client (clients.Receives conn message)) legal follows =
    let begins = (IsLegal-in_order legal conn).down in
    IsLegal-receipt conn message legal (goes_on (client_receipts conn (clients_of world)) (server_sends conn (server_of world)) message begins follows)
legal_behind world (Client (clients.Garbles conn)) legal follows = absurd (cc)
legal_behind world (Server (servers.Take conn message)) legal follows =
    let begins = (IsLegal-in_order legal conn).up in
    IsLegal-take conn message legal (goes_on (server_takes conn (server_of world)) (client_sends conn (clients_of world)) message begins follows)
legal_behind world (Server (servers.Arm number)) legal follows = IsLegal-arm number legal
legal_behind world (Server (servers.Test outcome)) legal follows = IsLegal-test outcome legal
legal_behind world (Server (servers.Pick text)) legal follows = IsLegal-pick text legal
legal_behind world (Server (servers.Send conn message)) legal follows = IsLegal-server_send conn message legal

all_legal : (world events : List WorldEvent) → IsLegal world → all_follow world events ≡ true → IsLegal (world ++ events)
all_legal world [] legal follow = rw (append-nil world) legal
all_legal world (event ∷ events) legal follow =
    let (first, later) = both_passed (may_follow world event) _ follow in
    subst (λ whole. IsLegal whole) (append_assoc world (event ∷ []) events)
    (all_legal (world ++ event ∷ []) events (legal_behind world event legal first) later)

-- A world explains an exchange where computing finds it legal, its client events to be the exchange, and its server events
-- to be a run.
pub explains : {spec : Spec} {world : List WorldEvent} {exchange : List ClientEvent} → all_follow [] world ≡ true → clients_of world ≡ exchange
    → is_some (run_end spec (server_of world)) ≡ true → Explains spec world exchange
explains {spec} {world} follow clients ended =
    record { legal = all_legal [] world IsLegal-nil follow; clients = clients; run = is_run spec (server_of world) ended }
