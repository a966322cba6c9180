-- What the bytes at hand are, by the frames of messages alone.
use Rattle.std.specs.Prelude.{◌≡◌, ◌≢◌, ℕ, ◌+◌, ◌≤◌, List, [], ◌++◌, length, take, drop}
use Rattle.frame_cut.specs.declared.FrameCut.{FrameCut}
use Rattle.frame_cut.specs.declared.FrameCut.TheVariants.{Whole, Garbled, Unfinished}
use Rattle.spec_model.specs.declared.event.Framing.{Framing}
use Rattle.spec_model.specs.declared.event.Framing.TheVariants.{Line, Len16}
use Rattle.spec_model.specs.declared.event.Shape.{Shape}
use Rattle.spec_model.specs.Message.{IsMessage, frame_of}

-- The bytes are the frame of this message, and then the bytes behind it.
pub record BeginsWith (shape : Shape) (bytes message behind : List ℕ) : Type 0 where
  pub is_message : IsMessage shape message
  pub are : bytes ≡ frame_of shape.framing message ++ behind

-- The frame of this message is the bytes, and then the missing bytes.
pub record IsFrontOf (shape : Shape) (bytes message missing : List ℕ) : Type 0 where
  pub is_message : IsMessage shape message
  pub frame : frame_of shape.framing message ≡ bytes ++ missing

-- the bytes are a proper prefix of a frame
abbrev pub IsUnfinished : Shape → List ℕ → Type 0
IsUnfinished shape bytes =
    (message : List ℕ) × (missing : List ℕ) × IsFrontOf shape bytes message missing × (missing ≢ [])

-- The bytes begin with no frame, and are a prefix of none.
pub record IsGarbled (shape : Shape) (bytes : List ℕ) : Type 0 where
  pub no_frame : (message behind : List ℕ) → ¬ BeginsWith shape bytes message behind
  pub no_front : (message missing : List ℕ) → ¬ IsFrontOf shape bytes message missing

-- how many bytes of a frame stand before its message
abbrev pub message_start : Framing → ℕ
message_start Line = 0
message_start Len16 = 2

-- The bytes begin with a frame, which is the first `used` of them; its message is the `len` bytes from `start`.
pub record IsWhole (shape : Shape) (bytes : List ℕ) (start len used : ℕ) : Type 0 where
  pub begins : BeginsWith shape bytes (take len (drop start bytes)) (drop used bytes)
  pub from : start ≡ message_start shape.framing
  pub ends : start + len ≤ used
  pub within : used ≤ length bytes

-- which of the three the bytes are
abbrev pub IsCut : Shape → List ℕ → FrameCut → Type 0
IsCut shape bytes (Whole start len used) = IsWhole shape bytes start len used
IsCut shape bytes Garbled = IsGarbled shape bytes
IsCut shape bytes Unfinished = IsUnfinished shape bytes
