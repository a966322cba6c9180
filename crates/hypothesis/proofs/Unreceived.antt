-- What of the messages sent is not received, as the server sends and the clients receive.
use Rattle.std.proofs.Common.{◌≡◌, ℕ, zero, suc, ◌+◌, ◌<◌, ◌≤◌, List, [], ◌∷◌, ◌++◌, length, map, drop, refl, sym, ap, arith}
use Rattle.std.proofs.lemmas.List.{drop-append-le, drop-drop, drop_all, length-map, length_push, map-set}
use Rattle.std.specs.List.{concat}
use Rattle.std.specs.Prelude.{slice_index_or, slice_set}
use Rattle.spec_model.specs.declared.event.ClientEvent.{ClientEvent}
use Rattle.spec_model.specs.declared.event.ClientEvent.TheVariants as clients
use Rattle.spec_model.specs.declared.event.ServerEvent.{ServerEvent}
use Rattle.spec_model.specs.Config.{with_item_at}
use Rattle.spec_model.specs.Remainder.{unreceived}
use Rattle.spec_model.specs.World.{IsPrefixOf, client_receipts, server_sends}
use Rattle.spec_model.proofs.PassedMessages.{client_receipts-push_other, client_receipts-push_same, client_receipts-push_send}
use Rattle.spec_model.proofs.Prefix.{length-IsPrefixOf}
use Rattle.itree_data.specs.Fields.{Fields}
use Rattle.itree_data.specs.Standing.{Standing}
use Rattle.hypothesis.proofs.Passing.{Passed}

-- The messages sent and not received on a connection, where those from connection `first` on are listed.
pub unreceived_at : (exchange : List ClientEvent) (first place conn : ℕ) (sent : List (List (List (List ℕ)))) → conn ≡ first + place
    → slice_index_or (unreceived exchange first sent) place [] ≡ drop (length (client_receipts conn exchange)) (slice_index_or sent place [])
unreceived_at exchange first place conn [] is = sym (drop_all (length (client_receipts conn exchange)) [] (omega arith))
unreceived_at exchange first zero conn (messages ∷ others) is = let same : conn ≡ first = omega arith in rw same refl
unreceived_at exchange first (suc place) conn (messages ∷ others) is = unreceived_at exchange (first + 1) place conn others (omega arith)

-- When nothing was seen all that was sent is left.
pub unreceived_of_nothing : (first : ℕ) (sent : List (List (List (List ℕ)))) → unreceived [] first sent ≡ sent
unreceived_of_nothing first [] = refl
unreceived_of_nothing first (messages ∷ others) = ap (λ rest. messages ∷ rest) (unreceived_of_nothing (first + 1) others)

-- no more was received on each connection than was sent
abbrev pub AllWereSent : List ClientEvent → List (List (List (List ℕ))) → Type 0
AllWereSent exchange sent = (conn : ℕ) → length (client_receipts conn exchange) ≤ length (slice_index_or sent conn [])

-- Where each receipt is of what the run sent, as many were sent.
pub all_were_sent : (exchange : List ClientEvent) (tree : Fields) (events : List ServerEvent) (t : Standing) → Passed tree events t
    → ((conn : ℕ) → IsPrefixOf (client_receipts conn exchange) (server_sends conn events)) → AllWereSent exchange t.sent
all_were_sent exchange tree events t passed received conn =
    let fewer = length-IsPrefixOf (client_receipts conn exchange) (server_sends conn events) (received conn) in
    omega (arith, fewer, ap length (passed.sends conn), length-map (slice_index_or t.sent conn []) concat)

-- What is sent is left behind what was.
pub unreceived-with_item : (exchange : List ClientEvent) (first place conn : ℕ) (sent : List (List (List (List ℕ)))) (pieces : List (List ℕ))
    → conn ≡ first + place → length (client_receipts conn exchange) ≤ length (slice_index_or sent place [])
    → unreceived exchange first (with_item_at sent place pieces) ≡ with_item_at (unreceived exchange first sent) place pieces
unreceived-with_item exchange first place conn [] pieces is received = refl
unreceived-with_item exchange first zero conn (messages ∷ others) pieces is received =
    let same : first ≡ conn = omega arith in
    rw (same, drop-append-le (length (client_receipts conn exchange)) messages (pieces ∷ []) received) refl
unreceived-with_item exchange first (suc place) conn (messages ∷ others) pieces is received =
    ap (λ rest. drop (length (client_receipts first exchange)) messages ∷ rest)
    (unreceived-with_item exchange (first + 1) place conn others pieces (omega arith) received)

-- Only receipts count.
pub unreceived_by_receipts : (exchange other : List ClientEvent) (first : ℕ) (sent : List (List (List (List ℕ))))
    → ((conn : ℕ) → client_receipts conn exchange ≡ client_receipts conn other) → unreceived exchange first sent ≡ unreceived other first sent
unreceived_by_receipts exchange other first [] same = refl
unreceived_by_receipts exchange other first (messages ∷ others) same =
    rw (same first, unreceived_by_receipts exchange other (first + 1) others same) refl

pub unreceived-client_send : (exchange : List ClientEvent) (conn : ℕ) (message : List ℕ) (first : ℕ) (sent : List (List (List (List ℕ))))
    → unreceived (exchange ++ clients.Sends conn message ∷ []) first sent ≡ unreceived exchange first sent
unreceived-client_send exchange conn message first sent =
    unreceived_by_receipts (exchange ++ clients.Sends conn message ∷ []) exchange first sent (λ other. client_receipts-push_send other conn exchange message)

-- A receipt takes out the oldest on its connection, and leaves the others.
receipt_on_earlier : (exchange : List ClientEvent) (first conn : ℕ) (message : List ℕ) (sent : List (List (List (List ℕ)))) → conn < first
    → unreceived (exchange ++ clients.Receives conn message ∷ []) first sent ≡ unreceived exchange first sent
receipt_on_earlier exchange first conn message [] earlier = refl
receipt_on_earlier exchange first conn message (messages ∷ others) earlier =
    rw (client_receipts-push_other first conn exchange message (λ same. omega arith), receipt_on_earlier exchange (first + 1) conn message others (omega arith)) refl

pub unreceived-receipt : (exchange : List ClientEvent) (first place conn : ℕ) (message : List ℕ) (sent : List (List (List (List ℕ)))) → conn ≡ first + place
    → unreceived (exchange ++ clients.Receives conn message ∷ []) first sent
    ≡ slice_set (unreceived exchange first sent) place (drop 1 (slice_index_or (unreceived exchange first sent) place []))
unreceived-receipt exchange first place conn message [] is = refl
unreceived-receipt exchange first zero conn message (messages ∷ others) is =
    let same : first ≡ conn = omega arith in
    rw (
      same,
      client_receipts-push_same conn exchange message,
      length_push (client_receipts conn exchange) message,
      receipt_on_earlier exchange (conn + 1) conn message others (omega arith),
      drop-drop 1 (length (client_receipts conn exchange)) messages,
    )
    refl
unreceived-receipt exchange first (suc place) conn message (messages ∷ others) is =
    rw (
      client_receipts-push_other first conn exchange message (λ same. omega arith),
      unreceived-receipt exchange (first + 1) place conn message others (omega arith),
    )
    refl

-- the number of messages on a connection
pub length_at : {A : Type 0} (lists : List (List A)) (conn : ℕ) → slice_index_or (map length lists) conn 0 ≡ length (slice_index_or lists conn [])
length_at [] conn = refl
length_at (list ∷ lists) zero = refl
length_at (list ∷ lists) (suc conn) = length_at lists conn

-- A message that is taken counts on its connection.
pub lengths-with_item : {A : Type 0} (taken : List (List A)) (conn : ℕ) (message : A)
    → map length (with_item_at taken conn message) ≡ slice_set (map length taken) conn (slice_index_or (map length taken) conn 0 + 1)
lengths-with_item taken conn message = rw (map-set length taken conn _, length_push (slice_index_or taken conn []) message, length_at taken conn) refl
