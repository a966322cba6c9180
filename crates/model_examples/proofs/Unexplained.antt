-- What the runs of the echo server and of the server of tokens leave unexplained.
use Rattle.std.proofs.Common.{◌≡◌, ℕ, true, List, [], ◌∷◌, false, codes}
use Rattle.std.proofs.lemmas.Slice.Eq.{bytes_eq-Decides}
use Rattle.spec_model.specs.declared.event.ClientEvent.{ClientEvent}
use Rattle.spec_model.specs.declared.event.ClientEvent.TheVariants as clients
use Rattle.spec_model.specs.World.{client_sends, client_receipts, server_of, IsPrefixOf, IsExplained}
use Rattle.spec_model.proofs.LegalWorlds.{IsLegal-in_order}
use Rattle.spec_model.proofs.Prefix.{IsPrefixOf-trans}
use Rattle.model_examples.specs.Echo.{echo}
use Rattle.model_examples.specs.Events.{sends, receives}
use Rattle.model_examples.specs.Tokens.{tokens}
use Rattle.model_examples.proofs.EchoRuns.{echoes_in_order}
use Rattle.model_examples.proofs.TokenRuns.{asked, IsToken, token_of_run}

-- What a client of the echo server receives is the first of what it sent.
echo_receipts : (exchange : List ClientEvent) → IsExplained echo exchange → (conn : ℕ) → IsPrefixOf (client_receipts conn exchange) (client_sends conn exchange)
echo_receipts exchange (world, explains) conn =
    let order = IsLegal-in_order explains.legal conn in
    let replies = echoes_in_order (server_of world) explains.run conn in
    rw explains.clients at (IsPrefixOf-trans _ _ _ order.down (IsPrefixOf-trans _ _ _ replies order.up))

pub receipt_of_nothing : ¬ IsExplained echo (receives 0 "a" ∷ [])
receipt_of_nothing explained = none_sent (echo_receipts (receives 0 "a" ∷ []) explained 0)
  where
    none_sent : IsPrefixOf (codes "a" ∷ []) [] → ⊥
    none_sent (rest, is) = absurd (cc)

pub overtaking_reply : ¬ IsExplained echo (sends 0 "a" ∷ sends 0 "b" ∷ receives 0 "b" ∷ [])
overtaking_reply explained = another_first (echo_receipts (sends 0 "a" ∷ sends 0 "b" ∷ receives 0 "b" ∷ []) explained 0)
  where
    another_first : IsPrefixOf (codes "b" ∷ []) (codes "a" ∷ codes "b" ∷ []) → ⊥
    another_first (rest, is) =
        let same : codes "a" ≡ codes "b" = cc (is) in
        let tested : false ≡ true = (bytes_eq-Decides (codes "a") (codes "b")).1 same in
        absurd (cc (tested))

pub garbled_bytes : ¬ IsExplained echo (sends 0 "a" ∷ clients.Garbles 0 ∷ [])
garbled_bytes (world, explains) =
    let none_garbled : true ≡ false = rw explains.clients at explains.legal.none_garbled in
    absurd (cc (none_garbled))

-- What a client receives that asked the server of tokens is a token.
pub token_receipt : (message : List ℕ) → IsExplained tokens (asked message) → IsToken message
token_receipt message (world, explains) =
    let order = IsLegal-in_order explains.legal in
    token_of_run message (server_of world) explains.run (λ conn. rw explains.clients at (order conn).up) (rw explains.clients at (order 0).down)

pub pick_one_byte_short : ¬ IsExplained tokens (sends 0 "new" ∷ receives 0 "id 0a1b2" ∷ [])
pick_one_byte_short explained =
    let received = token_receipt (codes "id 0a1b2") explained in
    let token_is : received.token ≡ codes "0a1b2" = cc (received.is) in
    absurd (let may_be = rw token_is at received.may_be in cc)

pub pick_outside_its_alphabet : ¬ IsExplained tokens (sends 0 "new" ∷ receives 0 "id 0A1B2C" ∷ [])
pick_outside_its_alphabet explained =
    let received = token_receipt (codes "id 0A1B2C") explained in
    let token_is : received.token ≡ codes "0A1B2C" = cc (received.is) in
    absurd (let may_be = rw token_is at received.may_be in cc)
