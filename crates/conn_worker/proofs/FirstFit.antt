-- A new driver fits each book that has no event on its connection.
use Rattle.std.proofs.Common.{◌≡◌, ℕ, true, false, List, [], ◌∷◌, ◌++◌, length, refl, sym, ap, subst, ◌∙◌, arith}
use Rattle.std.specs.Option.{IfSome}
use Rattle.std.proofs.lemmas.Bool.{ne_eqb}
use Rattle.conn_worker.proofs.Fitting.{driving}
use Rattle.conn_worker.proofs.Told.{told-none}
use Rattle.conn_worker.specs.Driving.{Fits, HasNone, conn_of, is_garbled_on, new_course}
use Rattle.dt_ports.specs.Link.{IsFresh, LinkShows}
use Rattle.exchange_text.specs.declared.action.Action.{Action}
use Rattle.spec_model.specs.Message.{frames_of}
use Rattle.spec_model.specs.World.{client_receipts, client_sends}
use Rattle.spec_model.specs.declared.event.ClientEvent.{ClientEvent}
use Rattle.spec_model.specs.declared.event.ClientEvent.TheVariants.{Sends, Receives, Garbles}
use Rattle.spec_model.specs.declared.event.Shape.{Shape}

none_sent : (conn : ℕ) (events : List ClientEvent) → HasNone conn events → client_sends conn events ≡ []
none_sent conn [] none = refl
none_sent conn (Sends other message ∷ events) none = rw (ne_eqb other conn none.0) (none_sent conn events none.1)
none_sent conn (Receives other message ∷ events) none = none_sent conn events none.1
none_sent conn (Garbles other ∷ events) none = none_sent conn events none.1

none_received : (conn : ℕ) (events : List ClientEvent) → HasNone conn events → client_receipts conn events ≡ []
none_received conn [] none = refl
none_received conn (Sends other message ∷ events) none = none_received conn events none.1
none_received conn (Receives other message ∷ events) none = rw (ne_eqb other conn none.0) (none_received conn events none.1)
none_received conn (Garbles other ∷ events) none = none_received conn events none.1

none_garbled : (conn : ℕ) (events : List ClientEvent) → HasNone conn events → is_garbled_on conn events ≡ false
none_garbled conn [] none = refl
none_garbled conn (Sends other message ∷ events) none = none_garbled conn events none.1
none_garbled conn (Receives other message ∷ events) none = none_garbled conn events none.1
none_garbled conn (Garbles other ∷ events) none = rw (ne_eqb other conn none.0) (none_garbled conn events none.1)

no_send : (conn : ℕ) (events before after : List ClientEvent) (message : List ℕ) → HasNone conn events → events ≡ before ++ Sends conn message ∷ after → ⊥
no_send conn [] [] after message none is = cc
no_send conn [] (event ∷ before) after message none is = cc
no_send conn (event ∷ events) [] after message none is =
    let first : event ≡ Sends conn message = cc in
    absurd (elsewhere event none.0 first)
  where
    elsewhere : (event : ClientEvent) → (conn_of event ≡ conn → ⊥) → event ≡ Sends conn message → ⊥
    elsewhere event other first = other (ap conn_of first)
no_send conn (event ∷ events) (other ∷ before) after message none is = no_send conn events before after message none.1 (cc)

pub fits_new : (link : LinkShows) (shape : Shape) (conn : ℕ) (actions : List Action) (events : List ClientEvent)
    → IsFresh link.counts link.sent link.got → HasNone conn events → Fits (driving link (new_course shape conn actions)) events
fits_new link shape conn actions events fresh none =
    let sent = none_sent conn events none in
    let P : List (List ℕ) → Type 0 = λ messages. IfSome link.sent (λ bytes. bytes ++ [] ≡ frames_of shape.framing messages) in
    record {
      follows = λ before after message is. absurd (no_send conn events before after message none is);
      sends = ap length sent;
      receipts = none_received conn events none;
      sent = subst P (sym sent) (told-none link.sent fresh.1);
      got = fresh.2;
      garbled = λ garbled. let clear : false ≡ true = sym (none_garbled conn events none) ∙ garbled in absurd (cc);
      unmet = omega arith;
      waited = omega arith;
      blocked = λ some. absurd (some refl);
    }
