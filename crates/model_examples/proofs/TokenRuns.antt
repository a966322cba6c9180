-- How the server of tokens gives out its first token.
use Rattle.std.proofs.Common.{◌≡◌, ℕ, Bool, true, ◌&&◌, ◌==◌, ◌⊎◌, inl, inr, List, [], ◌∷◌, ◌++◌, Some, bytes_eq, codes, refl, sym, ap, ◌∙◌, subst, append-nil}
use Rattle.std.proofs.lemmas.Bool.{cases_eq, eqb-true}
use Rattle.std.proofs.lemmas.Slice.Eq.{bytes_eq-Decides}
use Rattle.spec_model.specs.declared.config.Config.{Config}
use Rattle.spec_model.specs.declared.config.Value.TheVariants.{Text, Number}
use Rattle.spec_model.specs.declared.config.Task.TheVariants.{Do, Forget}
use Rattle.spec_model.specs.declared.event.ClientEvent.{ClientEvent}
use Rattle.spec_model.specs.declared.event.ClientEvent.TheVariants as clients
use Rattle.spec_model.specs.declared.event.Framing.TheVariants.{Line}
use Rattle.spec_model.specs.declared.event.ServerEvent.{ServerEvent}
use Rattle.spec_model.specs.declared.event.ServerEvent.TheVariants as servers
use Rattle.spec_model.specs.declared.tree.Alphabet.TheVariants.{Hex}
use Rattle.spec_model.specs.declared.tree.Stmt.{Stmt}
use Rattle.spec_model.specs.Config.{idle_config, after_entering}
use Rattle.spec_model.specs.Message.{may_pass}
use Rattle.spec_model.specs.Run.{Steps, IsRun}
use Rattle.spec_model.specs.Step.{after_event, may_be_picked}
use Rattle.spec_model.specs.World.{client_sends, server_takes, server_sends, IsPrefixOf}
use Rattle.spec_model.proofs.Partial.{only_if_gave, both_passed}
use Rattle.spec_model.proofs.PassedMessages.{on_conn_same, on_conn_other}
use Rattle.model_examples.specs.Events.{sends}
use Rattle.model_examples.specs.Tokens.{tokens}
use Rattle.model_examples.specs.Writing.{set, send, pick, name, text}
use Rattle.model_examples.proofs.ComputedRun.{steps_from_opening, steps_behind}
use Rattle.model_examples.proofs.Trees.{trees}

-- a client asks for a token, and then receives this message
abbrev pub asked : List ℕ → List ClientEvent
asked message = sends 0 "new" ∷ clients.Receives 0 message ∷ []

-- Only the request may be taken, from connection 0.
only_message : (conn : ℕ) (taken message : List ℕ) (later : List (List ℕ))
    → IsPrefixOf (taken ∷ later) (client_sends conn (asked message)) → (conn ≡ 0) × (taken ≡ codes "new")
only_message conn taken message later (rest, is) = by_conn (cases_eq 0 conn)
  where
    by_conn : (0 ≡ conn) ⊎ (0 ≡ conn → ⊥) → (conn ≡ 0) × (taken ≡ codes "new")
    by_conn (inl same) =
        let sent : codes "new" ∷ [] ≡ taken ∷ (later ++ rest) = rw (← same) at is in
        (sym same, cc)
    by_conn (inr apart) =
        let sent : [] ≡ taken ∷ (later ++ rest) = rw (on_conn_other conn 0 (codes "new") apart) at is in
        absurd (cc)

-- the statements of the case for requests
abbrev pick_token : Stmt
pick_token = pick "t" 6 Hex

abbrev keep_token : Stmt
keep_token = set "last" (name "t")

abbrev send_token : Stmt
send_token = send (name "c") (text "id " ∷ name "t" ∷ [])

-- the configurations in which a message is awaited, the token is to be picked, and the token is to be sent
abbrev waiting : Config
waiting = after_entering (idle_config tokens) [] tokens.body []

abbrev picking : Config
picking = record waiting {
  todo = Do pick_token 0 ∷ Do keep_token 0 ∷ Do send_token 0 ∷ Forget 0 ∷ Forget 0 ∷ [];
  locals = record { name = codes "c"; value = Number 0 } ∷ [];
  taken = (codes "new" ∷ []) ∷ [] ∷ [];
}

abbrev telling : List ℕ → Config
telling token = record picking {
  todo = Do send_token 0 ∷ Forget 0 ∷ Forget 0 ∷ [];
  registers = record { name = codes "last"; value = Text token } ∷ [];
  locals = record { name = codes "c"; value = Number 0 } ∷ record { name = codes "t"; value = Text token } ∷ [];
}

-- The request is taken,
first_taken : (message : List ℕ) (event : ServerEvent) (events : List ServerEvent) (end : Config) → Steps tokens waiting (event ∷ events) end
    → ((conn : ℕ) → IsPrefixOf (server_takes conn (event ∷ events)) (client_sends conn (asked message)))
    → (event ≡ servers.Take 0 (codes "new")) × Steps tokens picking events end
unfolding trees
first_taken message (servers.Take conn taken) events end steps takes =
    let first : IsPrefixOf (taken ∷ server_takes conn events) (client_sends conn (asked message)) = rw (on_conn_same conn taken) at (takes conn) in
    let (conn_is, taken_is) = only_message conn taken message (server_takes conn events) first in
    let event_is : servers.Take conn taken ≡ servers.Take 0 (codes "new") = cc in
    let known = subst (λ event. Steps tokens waiting (event ∷ events) end) event_is steps in
    (event_is, steps_behind tokens waiting (servers.Take 0 (codes "new")) events end picking picking known (λ middle goes. cc) refl)
first_taken message (servers.Arm number) events end (new, (middle, goes, settles), later) takes = absurd (cc)
first_taken message (servers.Test outcome) events end (new, (middle, goes, settles), later) takes = absurd (cc)
first_taken message (servers.Pick token) events end (new, (middle, goes, settles), later) takes = absurd (cc)
first_taken message (servers.Send conn sent) events end (new, (middle, goes, settles), later) takes = absurd (cc)

-- then a token is picked,
record Picks (event : ServerEvent) (events : List ServerEvent) (end : Config) : Type 0 where
  token : List ℕ
  may_be : may_be_picked Line 6 Hex token ≡ true
  is : event ≡ servers.Pick token
  later : Steps tokens (telling token) events end

then_picked : (event : ServerEvent) (events : List ServerEvent) (end : Config) → Steps tokens picking (event ∷ events) end → Picks event events end
unfolding trees
then_picked (servers.Pick token) events end steps =
    let left : Config = record picking {
      todo = Do keep_token 0 ∷ Do send_token 0 ∷ Forget 0 ∷ Forget 0 ∷ [];
      locals = record { name = codes "c"; value = Number 0 } ∷ record { name = codes "t"; value = Text token } ∷ [];
    } in
    let leaves : (middle : Config) → after_event tokens picking (servers.Pick token) ≡ Some middle → (may_be_picked Line 6 Hex token ≡ true) × (middle ≡ left)
    = λ middle goes. let (passed, is) = only_if_gave (may_be_picked Line 6 Hex token) (Some left) middle goes in (passed, cc) in
    record {
      token = token;
      may_be = (leaves steps.1.0 steps.1.1).0;
      is = refl;
      later = steps_behind tokens picking (servers.Pick token) events end left (telling token) steps (λ middle goes. (leaves middle goes).1) refl;
    }
then_picked (servers.Arm number) events end (new, (middle, goes, settles), later) = absurd (cc)
then_picked (servers.Test outcome) events end (new, (middle, goes, settles), later) = absurd (cc)
then_picked (servers.Take conn taken) events end (new, (middle, goes, settles), later) = absurd (cc)
then_picked (servers.Send conn sent) events end (new, (middle, goes, settles), later) = absurd (cc)

-- and then it is sent.
then_told : (token : List ℕ) (event : ServerEvent) (events : List ServerEvent) (end : Config) → Steps tokens (telling token) (event ∷ events) end
    → event ≡ servers.Send 0 (codes "id " ++ token)
unfolding trees
then_told token (servers.Send conn sent) events end (new, (middle, goes, settles), later) =
    let sent_is : Bool = bytes_eq sent (codes "id " ++ (token ++ [])) in
    let passed = (only_if_gave (((0 == conn) && sent_is) && may_pass tokens.shape conn sent) _ middle goes).0 in
    let (same_conn, same_message) = both_passed (0 == conn) sent_is (both_passed _ (may_pass tokens.shape conn sent) passed).0 in
    let conn_is : 0 ≡ conn = eqb-true 0 conn same_conn in
    let message_is : sent ≡ codes "id " ++ token = (bytes_eq-Decides sent (codes "id " ++ (token ++ []))).0 same_message ∙ ap (λ rest. codes "id " ++ rest) (append-nil token) in
    cc
then_told token (servers.Arm number) events end (new, (middle, goes, settles), later) = absurd (cc)
then_told token (servers.Test outcome) events end (new, (middle, goes, settles), later) = absurd (cc)
then_told token (servers.Pick other) events end (new, (middle, goes, settles), later) = absurd (cc)
then_told token (servers.Take conn taken) events end (new, (middle, goes, settles), later) = absurd (cc)

-- `id ` and six hexadecimal digits
pub record IsToken (message : List ℕ) : Type 0 where
  pub token : List ℕ
  pub may_be : may_be_picked Line 6 Hex token ≡ true
  pub is : message ≡ codes "id " ++ token

nothing_sent : (message : List ℕ) → IsPrefixOf (message ∷ []) [] → ⊥
nothing_sent message (rest, is) = absurd (cc)

first_sent : (message first : List ℕ) (more : List (List ℕ)) → IsPrefixOf (message ∷ []) (first ∷ more) → message ≡ first
first_sent message first more (rest, is) = cc

token_received : (message : List ℕ) (events : List ServerEvent) (end : Config) → Steps tokens waiting events end
    → ((conn : ℕ) → IsPrefixOf (server_takes conn events) (client_sends conn (asked message)))
    → IsPrefixOf (message ∷ []) (server_sends 0 events) → IsToken message
token_received message [] end steps takes received = absurd (nothing_sent message received)
token_received message (event ∷ []) end steps takes received =
    let (event_is, later) = first_taken message event [] end steps takes in
    absurd (nothing_sent message (rw event_is at received))
token_received message (event ∷ next ∷ []) end steps takes received =
    let (event_is, later) = first_taken message event (next ∷ []) end steps takes in
    let picked = then_picked next [] end later in
    absurd (nothing_sent message (rw (event_is, picked.is) at received))
token_received message (event ∷ next ∷ last ∷ events) end steps takes received =
    let (event_is, later) = first_taken message event (next ∷ last ∷ events) end steps takes in
    let picked = then_picked next (last ∷ events) end later in
    let last_is = then_told picked.token last events end picked.later in
    record {
      token = picked.token;
      may_be = picked.may_be;
      is = first_sent message (codes "id " ++ picked.token) (server_sends 0 events) (rw (event_is, picked.is, last_is) at received);
    }

-- What a client receives that asked for a token is one.
pub token_of_run : (message : List ℕ) (events : List ServerEvent) → IsRun tokens events
    → ((conn : ℕ) → IsPrefixOf (server_takes conn events) (client_sends conn (asked message)))
    → IsPrefixOf (message ∷ []) (server_sends 0 events) → IsToken message
unfolding trees
token_of_run message events (end, run) takes received =
    token_received message events end (steps_from_opening tokens waiting events end refl run) takes received
