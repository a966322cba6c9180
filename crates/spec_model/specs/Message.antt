-- Messages and frames.
use Rattle.std.specs.Prelude.{◌≡◌, ℕ, ◌/◌, ◌%◌, Bool, true, not, ◌&&◌, ◌==◌, nat_lt, nat_le, List, [], ◌∷◌, ◌++◌, length, flat_map}
use Rattle.std.specs.List.{list_all}
use Rattle.spec_model.specs.declared.event.Framing.{Framing}
use Rattle.spec_model.specs.declared.event.Framing.TheVariants.{Line, Len16}
use Rattle.spec_model.specs.declared.event.Shape.{Shape}

-- the byte that ends a line
abbrev pub line_feed : ℕ
line_feed = 10

-- Whether a number is a byte that a message may have: in `line` framing any but LF, in `len16` framing any.
abbrev pub may_stand_in_message : Framing → ℕ → Bool
may_stand_in_message Line byte = nat_lt byte 256 && not (byte == line_feed)
may_stand_in_message Len16 byte = nat_lt byte 256

-- whether a list is a message of a shape: at most `limit` bytes, each of which a message may have
abbrev pub is_message : Shape → List ℕ → Bool
is_message shape message =
    nat_le (length message) shape.limit && list_all (may_stand_in_message shape.framing) message

abbrev pub IsMessage : Shape → List ℕ → Type 0
IsMessage shape message = is_message shape message ≡ true

-- whether a message may pass on a connection of a shape
abbrev pub may_pass : Shape → ℕ → List ℕ → Bool
may_pass shape conn message = nat_lt conn shape.conns && is_message shape message

-- How a message is written: its bytes and one LF; or its length in two bytes, the greater first, and its bytes.
abbrev pub frame_of : Framing → List ℕ → List ℕ
frame_of Line message = message ++ line_feed ∷ []
frame_of Len16 message = length message / 256 ∷ length message % 256 ∷ message

-- the frames of messages, joined
abbrev pub frames_of : Framing → List (List ℕ) → List ℕ
frames_of framing messages = flat_map (frame_of framing) messages
