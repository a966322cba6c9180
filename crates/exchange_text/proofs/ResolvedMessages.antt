-- What the parts of a send make is a message.
use Rattle.std.proofs.Common.{◌≡◌, ℕ, ◌+◌, ◌-◌, Bool, true, false, cond, eqb, leb, List, [], ◌∷◌, length, take, drop, sum_by, zero, suc, Option, Some, None, refl, sym, ◌∙◌, ap, arith, length-append, length-drop, take-append-drop, unwrap_or}
use Rattle.std.specs.List.{AllByRecursion, list_all, slice_get}
use Rattle.std.specs.Option.{IfSome}
use Rattle.std.proofs.lemmas.Bool.{and_parts, le-leb, leb-true}
use Rattle.std.proofs.lemmas.List.{length-take-le}
use Rattle.std.proofs.lemmas.List.Folds.{list_all-append}
use Rattle.std.proofs.lemmas.List.Sums.{sum_by-cons}
use Rattle.spec_model.specs.declared.event.Framing.{Framing}
use Rattle.spec_model.specs.declared.event.Shape.{Shape}
use Rattle.spec_model.specs.Message.{IsMessage, may_stand_in_message}
use Rattle.exchange_text.specs.declared.action.Part.{Part}
use Rattle.exchange_text.specs.declared.action.Part.TheVariants.{Lit, Piece}
use Rattle.exchange_text.specs.Actions.{AreParts, IsPart, MayStandIn, length_of}
use Rattle.exchange_text.specs.Resolved.{piece_of, receipt_numbered, resolved, resolved_part}

-- each item of a list is as all of them are
item_of_all : {A : Type 0} (P : A → Type 0) (xs : List A) (number : ℕ) → AllByRecursion P xs → IfSome (slice_get xs number) P
item_of_all P [] number each = tt
item_of_all P (x ∷ xs) zero each = each.0
item_of_all P (x ∷ xs) (suc number) each = item_of_all P xs number each.1

-- of bytes that may stand in a message, those from a place may too
take_drop : (framing : Framing) (start len : ℕ) (text : List ℕ) → MayStandIn framing text → MayStandIn framing (take len (drop start text))
take_drop framing start len text may =
    let behind = (and_parts _ _ (sym (list_all-append (may_stand_in_message framing) (take start text) (drop start text)) ∙ (ap (list_all (may_stand_in_message framing)) (take-append-drop start text) ∙ may))).1 in
    (and_parts _ _ (sym (list_all-append (may_stand_in_message framing) (take len (drop start text)) (drop len (drop start text))) ∙ (ap (list_all (may_stand_in_message framing)) (take-append-drop len (drop start text)) ∙ behind))).0

-- Such bytes, and so many of them
abbrev HasBytes : Framing → ℕ → List ℕ → Type 0
HasBytes framing count text = (length text ≡ count) × MayStandIn framing text

piece_has : (framing : Framing) (start len : ℕ) (fill : List ℕ) (message : Option (List ℕ)) → IfSome message (MayStandIn framing) → HasBytes framing len fill
    → HasBytes framing len (unwrap_or (piece_of start len message) fill)
piece_has framing start len fill None may filled = filled
piece_has framing start len fill (Some message) may filled = go (leb (start + len) (length message)) refl
  where
    go : (within : Bool) → leb (start + len) (length message) ≡ within
        → HasBytes framing len (unwrap_or (cond within (Some (take len (drop start message))) None) fill)
    go false test = filled
    go true test =
        let enough = leb-true (start + len) (length message) test in
        (length-take-le len (drop start message) (omega (arith, length-drop start message)), take_drop framing start len message may)

numbered_may : (framing : Framing) (number : ℕ) (receipts : List (List ℕ)) → AllByRecursion (MayStandIn framing) receipts → IfSome (receipt_numbered number receipts) (MayStandIn framing)
numbered_may framing number receipts each = go (eqb number 0)
  where
    go : (none : Bool) → IfSome (cond none None (slice_get receipts (number - 1))) (MayStandIn framing)
    go true = tt
    go false = item_of_all (MayStandIn framing) receipts (number - 1) each

part_has : (framing : Framing) (receipts : List (List ℕ)) → AllByRecursion (MayStandIn framing) receipts → (part : Part) → IsPart framing part
    → HasBytes framing (length_of part) (resolved_part receipts part)
part_has framing receipts each (Lit text) is = (refl, is)
part_has framing receipts each (Piece receipt start len fill) is =
    piece_has framing start len fill (receipt_numbered receipt receipts) (numbered_may framing receipt receipts each) (is.0.filled, is.1)

-- The message that parts make has as many bytes as they stand for, all of which may stand in a message.
pub parts_have : (framing : Framing) (receipts : List (List ℕ)) → AllByRecursion (MayStandIn framing) receipts → (parts : List Part) → AllByRecursion (IsPart framing) parts
    → (length (resolved parts receipts) ≡ sum_by length_of parts) × MayStandIn framing (resolved parts receipts)
parts_have framing receipts each [] is = (refl, refl)
parts_have framing receipts each (part ∷ parts) is =
    let first = part_has framing receipts each part is.0 in
    let others = parts_have framing receipts each parts is.1 in (
      omega (arith, length-append (resolved_part receipts part) (resolved parts receipts), first.0, others.0, sum_by-cons length_of part parts),
      rw (list_all-append, first.1, others.1) refl,
    )

messages_may : (shape : Shape) (receipts : List (List ℕ)) → AllByRecursion (IsMessage shape) receipts → AllByRecursion (MayStandIn shape.framing) receipts
messages_may shape [] each = tt
messages_may shape (message ∷ receipts) each = ((and_parts _ _ each.0).1, messages_may shape receipts each.1)

-- It is a message.
pub resolved_is_message : (shape : Shape) (parts : List Part) (receipts : List (List ℕ)) → AreParts shape parts → AllByRecursion (IsMessage shape) receipts
    → IsMessage shape (resolved parts receipts)
resolved_is_message shape parts receipts are each =
    let have = parts_have shape.framing receipts (messages_may shape receipts each) parts are.each in
    let within = are.within in
    rw (have.1, le-leb (length (resolved parts receipts)) shape.limit (omega (arith, have.0))) refl
