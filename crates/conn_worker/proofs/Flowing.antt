-- The flow of a link, by what fits its driver's book.
use Rattle.std.proofs.Common.{◌≡◌, ℕ, Bool, true, false, List, ◌++◌, Option, Some, None, Result, refl, sym, ap, ◌∙◌}
use Rattle.std.specs.Option.{IfSome}
use Rattle.conn_worker.specs.Driving.{Driving, Fits, is_garbled_on}
use Rattle.conn_worker.specs.Turn.{HasFlow, IsRest, IsRestOf, moment}
use Rattle.conn_worker.specs.declared.DriverState.{DriverState}
use Rattle.dt_ports.specs.declared.book.BookCounts.{BookCounts}
use Rattle.frame_cut.specs.Frame.{IsGarbled}
use Rattle.spec_model.specs.Message.{frames_of}
use Rattle.spec_model.specs.World.{IsPrefixOf}
use Rattle.spec_model.specs.declared.event.ClientEvent.{ClientEvent}
use Rattle.spec_model.specs.declared.event.Framing.{Framing}

sent_flows : (told : Option (List ℕ)) (output all : List ℕ) → IfSome told (λ bytes. bytes ++ output ≡ all) → IfSome told (λ bytes. IsPrefixOf bytes all)
sent_flows None output all is = tt
sent_flows (Some bytes) output all is = (output, sym is)

got_flows : (told : Option (List ℕ)) (framing : Framing) (messages receipts : List (List ℕ)) (at_hand : List ℕ) (P : List ℕ → Type 0) → messages ≡ receipts → P at_hand
    → IfSome told (λ bytes. bytes ≡ frames_of framing receipts ++ at_hand)
    → IfSome told (λ bytes. (rest : List ℕ) × (bytes ≡ frames_of framing messages ++ rest) × P rest)
got_flows None framing messages receipts at_hand P same holds is = tt
got_flows (Some bytes) framing messages receipts at_hand P same holds is =
    (at_hand, is ∙ ap (λ list. frames_of framing list ++ at_hand) (sym same), holds)

-- The bytes behind the last message are of their kind.
pub rest_is : {E : Type 0} (answer : Result DriverState E) (now : Driving) (events : List ClientEvent) → Fits now events
    → (is_garbled_on now.course.conn events ≡ false → IsRestOf answer now.course.shape now.course.at_hand)
    → IsRest (is_garbled_on now.course.conn events) answer now.course.shape now.course.at_hand
rest_is {E} answer now events fits rest = go (is_garbled_on now.course.conn events) fits.garbled rest
  where
    go : (garbled : Bool) → (garbled ≡ true → IsGarbled now.course.shape now.course.at_hand) → (garbled ≡ false → IsRestOf answer now.course.shape now.course.at_hand)
        → IsRest garbled answer now.course.shape now.course.at_hand
    go true is rest = is refl
    go false is rest = rest refl

-- Where the rest is of its kind, the link flows.
pub flows : {E : Type 0} (answer : Result DriverState E) (now : Driving) (events : List ClientEvent) (book : BookCounts) → Fits now events
    → IsRest (is_garbled_on now.course.conn events) answer now.course.shape now.course.at_hand
    → HasFlow answer (moment now events book)
flows {E} answer now events book fits rest = record {
  up = sent_flows now.link.sent now.course.output _ fits.sent;
  down = got_flows now.link.got now.course.shape.framing _ now.course.receipts now.course.at_hand
      (IsRest (is_garbled_on now.course.conn events) answer now.course.shape) fits.receipts rest fits.got;
}
