-- What the parts of a send stand for, by the messages that were received on the connection before. Definition: own.
use Rattle.std.specs.Prelude.{ℕ, ◌+◌, ◌-◌, ◌==◌, nat_le, if◌then◌else◌, List, length, take, drop, flat_map, Option, Some, None, unwrap_or}
use Rattle.std.specs.List.{slice_get}
use Rattle.exchange_text.specs.declared.action.Part.{Part}
use Rattle.exchange_text.specs.declared.action.Part.TheVariants.{Lit, Piece}

-- the message of this number, counted from 1
abbrev pub receipt_numbered : ℕ → List (List ℕ) → Option (List ℕ)
receipt_numbered number receipts = if number == 0 then None else slice_get receipts (number - 1)

-- so many bytes from a place in a message, counted from 0, where there are so many
abbrev pub piece_of : ℕ → ℕ → Option (List ℕ) → Option (List ℕ)
piece_of start len None = None
piece_of start len (Some message) =
    if nat_le (start + len) (length message) then Some (take len (drop start message)) else None

-- the bytes that a part stands for: those that are written, or a piece of a message, and what fills in for one that there is not
abbrev pub resolved_part : List (List ℕ) → Part → List ℕ
resolved_part receipts (Lit text) = text
resolved_part receipts (Piece receipt start len fill) = unwrap_or (piece_of start len (receipt_numbered receipt receipts)) fill

-- the message that parts make, joined
abbrev pub resolved : List Part → List (List ℕ) → List ℕ
resolved parts receipts = flat_map (resolved_part receipts) parts
