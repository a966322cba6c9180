-- Which actions a script of a shape may have. Definition: own.
use Rattle.std.specs.Prelude.{◌≡◌, ℕ, ◌≤◌, true, List, length, sum_by}
use Rattle.std.specs.List.{AllByRecursion, list_all}
use Rattle.spec_model.specs.declared.event.Framing.{Framing}
use Rattle.spec_model.specs.declared.event.Shape.{Shape}
use Rattle.spec_model.specs.Message.{may_stand_in_message}
use Rattle.exchange_text.specs.declared.action.Action.{Action}
use Rattle.exchange_text.specs.declared.action.Action.TheVariants.{Send, Await}
use Rattle.exchange_text.specs.declared.action.Part.{Part}
use Rattle.exchange_text.specs.declared.action.Part.TheVariants.{Lit, Piece}
use Rattle.exchange_text.specs.declared.action.TheConstants.{MAX_AWAITED, MAX_PARTS, MAX_PIECE, MAX_RECEIPT, MAX_START}

-- how many bytes a part stands for
abbrev pub length_of : Part → ℕ
length_of (Lit text) = length text
length_of (Piece receipt start len fill) = len

-- Each of these bytes may stand in a message.
abbrev pub MayStandIn : Framing → List ℕ → Type 0
MayStandIn framing text = list_all (may_stand_in_message framing) text ≡ true

-- The numbers of a piece are within their limits, and what fills in is as long as the piece.
pub record IsPiece (receipt start len : ℕ) (fill : List ℕ) : Type 0 where
  pub one_receipt : 1 ≤ receipt
  pub receipt_within : receipt ≤ MAX_RECEIPT
  pub start_within : start ≤ MAX_START
  pub one_byte : 1 ≤ len
  pub length_within : len ≤ MAX_PIECE
  pub filled : length fill ≡ len

-- a part that a send may have
abbrev pub IsPart : Framing → Part → Type 0
IsPart framing (Lit text) = MayStandIn framing text
IsPart framing (Piece receipt start len fill) = IsPiece receipt start len fill × MayStandIn framing fill

-- parts that a send may have: one at least, not too many, and no more bytes in all than a message may have
pub record AreParts (shape : Shape) (parts : List Part) : Type 0 where
  pub one : 1 ≤ length parts
  pub few : length parts ≤ MAX_PARTS
  pub each : AllByRecursion (IsPart shape.framing) parts
  pub within : sum_by length_of parts ≤ shape.limit

-- an action that a script may have
abbrev pub IsAction : Shape → Action → Type 0
IsAction shape (Send parts) = AreParts shape parts
IsAction shape (Await count) = (1 ≤ count) × (count ≤ MAX_AWAITED)
