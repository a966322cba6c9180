-- What makes a list of bytes a message.
use Rattle.std.proofs.Common.{◌≡◌, ℕ, suc, ◌<◌, ◌≤◌, Bool, true, not, List, [], ◌∷◌, length, take, drop, slice_index, refl, ap, arith}
use Rattle.std.specs.List.{list_all}
use Rattle.std.proofs.lemmas.Bool.{and_from, and_parts, leb-true, le-leb, lt-ltb, ne_eqb}
use Rattle.std.proofs.lemmas.List.{get_or-take, length-take}
use Rattle.spec_model.specs.declared.event.Framing.{Framing}
use Rattle.spec_model.specs.declared.event.Framing.TheVariants.{Line, Len16}
use Rattle.spec_model.specs.declared.event.Shape.{Shape}
use Rattle.spec_model.specs.Message.{IsMessage, line_feed, may_stand_in_message}

-- the two framings' shapes
abbrev pub line : ℕ → ℕ → Shape
line limit conns = record { framing = Line; limit = limit; conns = conns }

abbrev pub len16 : ℕ → ℕ → Shape
len16 limit conns = record { framing = Len16; limit = limit; conns = conns }

-- a message is within the limit
pub message_within : (shape : Shape) (message : List ℕ) → IsMessage shape message → length message ≤ shape.limit
message_within shape message is = leb-true _ _ (and_parts _ _ is).0

-- a message is made of bytes that it may have
pub message_bytes : (shape : Shape) (message : List ℕ) → IsMessage shape message → list_all (may_stand_in_message shape.framing) message ≡ true
message_bytes shape message is = (and_parts _ _ is).1

pub is_message-made : (shape : Shape) (message : List ℕ) → length message ≤ shape.limit → list_all (may_stand_in_message shape.framing) message ≡ true
    → IsMessage shape message
is_message-made shape message within bytes = and_from _ _ (le-leb _ _ within) bytes

-- what passes at each place passes
pub list_all-at : (test : ℕ → Bool) (bytes : List ℕ) → ((place : ℕ) → place < length bytes → test (slice_index bytes place) ≡ true) → list_all test bytes ≡ true
list_all-at test [] passes = refl
list_all-at test (byte ∷ bytes) passes =
    and_from _ _ (passes 0 (omega arith)) (list_all-at test bytes (λ place below. passes (suc place) (omega arith)))

-- a byte other than LF may stand in a line
may_stand-line : (byte : ℕ) → byte < 256 → (byte ≡ line_feed → ⊥) → may_stand_in_message Line byte ≡ true
may_stand-line byte small other = and_from _ _ (lt-ltb byte 256 small) (ap not (ne_eqb byte line_feed other))

-- The bytes before the first LF are those of a line.
pub line_bytes : (bytes : List ℕ) (len : ℕ) → ((place : ℕ) → slice_index bytes place < 256) → ((place : ℕ) → place < len → slice_index bytes place ≡ line_feed → ⊥)
    → list_all (may_stand_in_message Line) (take len bytes) ≡ true
line_bytes bytes len small other = list_all-at _ (take len bytes) (λ place below.
    let within : place < len = omega (arith, length-take len bytes) in
    rw (get_or-take len bytes place 0 within) (may_stand-line (slice_index bytes place) (small place) (other place within)))

-- any bytes may stand behind a length
pub len16_bytes : (bytes : List ℕ) → ((place : ℕ) → slice_index bytes place < 256) → list_all (may_stand_in_message Len16) bytes ≡ true
len16_bytes bytes small = list_all-at _ bytes (λ place below. lt-ltb _ _ (small place))

-- a shape is told by its framing
pub as_line : (shape : Shape) → shape.framing ≡ Line → shape ≡ line shape.limit shape.conns
as_line shape is = let make : Framing → Shape = λ framing. record { framing = framing; limit = shape.limit; conns = shape.conns } in ap make is

pub as_len16 : (shape : Shape) → shape.framing ≡ Len16 → shape ≡ len16 shape.limit shape.conns
as_len16 shape is = let make : Framing → Shape = λ framing. record { framing = framing; limit = shape.limit; conns = shape.conns } in ap make is

-- what bytes of these lengths are
pub no_byte : (bytes : List ℕ) → length bytes < 1 → bytes ≡ []
no_byte [] short = refl
no_byte (byte ∷ bytes) short = absurd (omega arith)

pub one_byte : (bytes : List ℕ) → 1 ≤ length bytes → length bytes < 2 → bytes ≡ slice_index bytes 0 ∷ []
one_byte [] long short = absurd (omega arith)
one_byte (byte ∷ []) long short = refl
one_byte (byte ∷ second ∷ bytes) long short = absurd (omega arith)

pub two_bytes : (bytes : List ℕ) → 2 ≤ length bytes → bytes ≡ slice_index bytes 0 ∷ slice_index bytes 1 ∷ drop 2 bytes
two_bytes [] long = absurd (omega arith)
two_bytes (byte ∷ []) long = absurd (omega arith)
two_bytes (byte ∷ second ∷ bytes) long = refl
