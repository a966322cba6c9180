-- What passed on a connection, with one event more.
use Rattle.std.proofs.Common.{◌≡◌, ℕ, Bool, true, false, ◌||◌, List, [], ◌∷◌, ◌++◌, refl, ap, ◌∙◌, append-nil}
use Rattle.std.proofs.lemmas.Bool.{eq-eqb}
use Rattle.std.proofs.lemmas.Grind.{flat_map-append}
use Rattle.std.proofs.lemmas.List.Elements.{filter_map-append}
use Rattle.std.proofs.lemmas.List.Folds.{list_any-append}
use Rattle.conn_worker.specs.Driving.{garbles_on, is_garbled_on}
use Rattle.spec_model.specs.Message.{frame_of, frames_of}
use Rattle.spec_model.specs.World.{client_receipts, client_sends, received_by_client, sent_by_client}
use Rattle.spec_model.specs.declared.event.ClientEvent.{ClientEvent}
use Rattle.spec_model.specs.declared.event.ClientEvent.TheVariants.{Sends, Receives, Garbles}
use Rattle.spec_model.specs.declared.event.Framing.{Framing}

-- the frames of messages, with one message more
pub frames_more : (framing : Framing) (messages : List (List ℕ)) (message : List ℕ)
    → frames_of framing (messages ++ message ∷ []) ≡ frames_of framing messages ++ frame_of framing message
frames_more framing messages message =
    flat_map-append (frame_of framing) messages (message ∷ [])
    ∙ ap (λ more. frames_of framing messages ++ more) (append-nil (frame_of framing message))

or_false : (test : Bool) → (test || false) ≡ test
or_false true = refl
or_false false = refl

or_true : (test : Bool) → (test || true) ≡ true
or_true true = refl
or_true false = refl

module _ (conn : ℕ) (events : List ClientEvent) (message : List ℕ) where
  pub sends-sends : client_sends conn (events ++ Sends conn message ∷ []) ≡ client_sends conn events ++ message ∷ []
  sends-sends = rw (filter_map-append (sent_by_client conn) events (Sends conn message ∷ []), eq-eqb conn conn refl) refl

  pub receipts-sends : client_receipts conn (events ++ Sends conn message ∷ []) ≡ client_receipts conn events
  receipts-sends = filter_map-append (received_by_client conn) events (Sends conn message ∷ []) ∙ append-nil _

  pub sends-receives : client_sends conn (events ++ Receives conn message ∷ []) ≡ client_sends conn events
  sends-receives = filter_map-append (sent_by_client conn) events (Receives conn message ∷ []) ∙ append-nil _

  pub receipts-receives : client_receipts conn (events ++ Receives conn message ∷ []) ≡ client_receipts conn events ++ message ∷ []
  receipts-receives = rw (filter_map-append (received_by_client conn) events (Receives conn message ∷ []), eq-eqb conn conn refl) refl

  pub garbled-sends : is_garbled_on conn (events ++ Sends conn message ∷ []) ≡ is_garbled_on conn events
  garbled-sends = list_any-append (garbles_on conn) events (Sends conn message ∷ []) ∙ or_false _

  pub garbled-receives : is_garbled_on conn (events ++ Receives conn message ∷ []) ≡ is_garbled_on conn events
  garbled-receives = list_any-append (garbles_on conn) events (Receives conn message ∷ []) ∙ or_false _

module _ (conn : ℕ) (events : List ClientEvent) where
  pub sends-garbles : client_sends conn (events ++ Garbles conn ∷ []) ≡ client_sends conn events
  sends-garbles = filter_map-append (sent_by_client conn) events (Garbles conn ∷ []) ∙ append-nil _

  pub receipts-garbles : client_receipts conn (events ++ Garbles conn ∷ []) ≡ client_receipts conn events
  receipts-garbles = filter_map-append (received_by_client conn) events (Garbles conn ∷ []) ∙ append-nil _

  pub garbled-garbles : is_garbled_on conn (events ++ Garbles conn ∷ []) ≡ true
  garbled-garbles = rw (list_any-append (garbles_on conn) events (Garbles conn ∷ []), eq-eqb conn conn refl) (or_true (is_garbled_on conn events))
