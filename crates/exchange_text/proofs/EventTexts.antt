-- Texts of one first line and lines of events.
use Rattle.std.proofs.Common.{◌≡◌, ℕ, ◌≤◌, List, [], ◌∷◌, length, map, refl, sym, subst, arith}
use Rattle.std.specs.List.{AllByRecursion}
use Rattle.exchange_text.specs.Text.{AreRead, HasEventForm}
use Rattle.exchange_text.proofs.Outcomes.{IsInnerLine}
use Rattle.exchange_text.proofs.Reading.{none_read, one_more_read, all_read}

-- Lines are those of one list, where each is that of one event.
pub same_events : {E : Type 0} (line_of : E → List ℕ) (P Q : E → Type 0) → ((event other : E) → P event → Q other → line_of event ≡ line_of other → event ≡ other)
    → (events others : List E) → AllByRecursion P events → AllByRecursion Q others → map line_of events ≡ map line_of others → events ≡ others
same_events line_of P Q one [] [] each each' same = refl
same_events line_of P Q one [] (event ∷ others) each each' same = absurd (cc)
same_events line_of P Q one (event ∷ events) [] each each' same = absurd (cc)
same_events line_of P Q one (event ∷ events) (event' ∷ others) each each' same =
    let line : line_of event ≡ line_of event' = cc in
    let lines : map line_of events ≡ map line_of others = cc in
    let first = one event event' each.0 each'.0 line in
    let behind = same_events line_of P Q one events others each.1 each'.1 lines in
    cc

-- The first line and the lines of events may stand before the last one.
module _ {E : Type 0} (first_line : List ℕ) (line_of : E → List ℕ) (IsRight : E → Type 0)
    (first_inner : IsInnerLine first_line) (event_inner : (event : E) → IsRight event → IsInnerLine (line_of event))
  where
    pub form_inner : (before : List (List ℕ)) (line : List ℕ) → HasEventForm first_line line_of IsRight before line → IsInnerLine line
    form_inner [] line is = subst IsInnerLine (sym is) first_inner
    form_inner (first ∷ before) line (event, right, is) = subst IsInnerLine (sym is) (event_inner event right)

    pub lines_inner : (events : List E) → AllByRecursion IsRight events → AllByRecursion IsInnerLine (first_line ∷ map line_of events)
    lines_inner events right = (first_inner, each events right)
      where
        each : (events : List E) → AllByRecursion IsRight events → AllByRecursion IsInnerLine (map line_of events)
        each [] right = tt
        each (event ∷ events) right = (event_inner event right.0, each events right.1)

-- They are of the form for their places.
module _ {E : Type 0} (first_line : List ℕ) (line_of : E → List ℕ) (IsRight : E → Type 0) (greatest : ℕ) where
  abbrev Form : List (List ℕ) → List ℕ → Type 0
  Form before line = HasEventForm first_line line_of IsRight before line

  pub first_read : AreRead 1 greatest Form (first_line ∷ [])
  first_read = one_more_read 1 greatest Form [] first_line (none_read 1 greatest Form) (omega arith) refl

  pub events_read : (events : List E) → AllByRecursion IsRight events → length events ≤ greatest → AreRead 1 greatest Form (first_line ∷ map line_of events)
  events_read = all_read line_of IsRight (first_line ∷ []) greatest Form (λ events event right. (event, right, refl)) first_read
