-- What is explained, and where an exchange is rejected.
use Rattle.std.proofs.Common.{◌≡◌, ℕ, ◌-◌, ◌<◌, ◌≤◌, ◌⊎◌, inl, inr, List, take, drop, sym, ◌∙◌, ap, subst, arith}
use Rattle.std.proofs.lemmas.List.{take-append-drop, take-take}
use Rattle.std.proofs.lemmas.Bool.{cases_order}
use Rattle.spec_model.specs.declared.event.ClientEvent.{ClientEvent}
use Rattle.spec_model.specs.declared.event.WorldEvent.{WorldEvent}
use Rattle.spec_model.specs.declared.tree.Spec.{Spec}
use Rattle.spec_model.specs.Layout.{IsLate, IsShort}
use Rattle.spec_model.specs.Run.{IsRun}
use Rattle.spec_model.specs.Verdict.{IsRejectedAt}
use Rattle.spec_model.specs.World.{Explains, IsExplained, IsLegal, IsPrefixOf, clients_of, server_of}
use Rattle.spec_model.proofs.LegalWorlds.{IsLegal-prefix, legal_beginning}
use Rattle.spec_model.proofs.LateLayout.{late_layout}
use Rattle.spec_model.proofs.RunSteps.{run_front}

pub legal_prefix : (world : List WorldEvent) (count : ℕ) → IsLegal world → IsLegal (take count world)
legal_prefix world count legal =
    IsLegal-prefix (take count world) (drop count world) (subst (λ w. IsLegal w) (sym (take-append-drop count world)) legal)

-- a run begins with each first part of it
run_begins : (spec : Spec) (events whole : _) → IsPrefixOf events whole → IsRun spec whole → IsRun spec events
run_begins spec events whole begins run = run_front spec events begins.0 (subst (λ w. IsRun spec w) begins.1 run)

-- a prefix of an explained exchange is explained
pub explained_prefix : (spec : Spec) (exchange : List ClientEvent) (count : ℕ) → IsExplained spec exchange → IsExplained spec (take count exchange)
explained_prefix spec exchange count explained =
    let world = explained.0 in let explains = explained.1 in
    let beginning = legal_beginning count world explains.legal in (
      beginning.front,
      record {
        legal = beginning.legal;
        clients = beginning.clients ∙ ap (take count) explains.clients;
        run = run_begins spec (server_of beginning.front) (server_of world) beginning.begins explains.run;
      },
    )

-- the same world, with the server's moves as late as they can be, and those that no receipt needs left out
pub explained_late : (spec : Spec) (exchange : List ClientEvent) (world : List WorldEvent) → Explains spec world exchange
    → (late : List WorldEvent) × Explains spec late exchange × IsLate late × IsShort exchange (server_of late) × IsPrefixOf (server_of late) (server_of world)
explained_late spec exchange world explains =
    let late = late_layout world explains.legal in
    let clients : clients_of late.layout ≡ exchange = late.clients ∙ explains.clients in (
      late.layout,
      record { legal = late.legal; clients = clients; run = run_begins spec _ _ late.begins explains.run },
      late.late,
      rw clients at late.short,
      late.begins,
    )

-- an exchange that is rejected at an event is not explained, nor is any prefix with that event
pub rejected_unexplained : (spec : Spec) (exchange : List ClientEvent) (event count : ℕ) → IsRejectedAt spec exchange event → event ≤ count → ¬ IsExplained spec (take count exchange)
rejected_unexplained spec exchange event count rejected le explained =
    rejected.unexplained (subst (λ e. IsExplained spec e) (take-take event count exchange le) (explained_prefix spec (take count exchange) event explained))

pub rejected_not_explained : (spec : Spec) (exchange : List ClientEvent) (event : ℕ) → IsRejectedAt spec exchange event → ¬ IsExplained spec exchange
rejected_not_explained spec exchange event rejected explained = rejected.unexplained (explained_prefix spec exchange event explained)

not_later : (spec : Spec) (exchange : List ClientEvent) (event other : ℕ) → IsRejectedAt spec exchange event → IsRejectedAt spec exchange other → event < other → ⊥
not_later spec exchange event other first second lt =
    rejected_unexplained spec exchange event (other - 1) first (omega arith) second.before

-- an exchange is rejected at one event at most
pub rejected_once : (spec : Spec) (exchange : List ClientEvent) (event other : ℕ) → IsRejectedAt spec exchange event → IsRejectedAt spec exchange other → event ≡ other
rejected_once spec exchange event other first second = by_order (cases_order event other)
  where
    by_order : (event ≡ other) ⊎ ((event < other) ⊎ (other < event)) → event ≡ other
    by_order (inl same) = same
    by_order (inr (inl lt)) = absurd (not_later spec exchange event other first second lt)
    by_order (inr (inr lt)) = absurd (not_later spec exchange other event second first lt)
