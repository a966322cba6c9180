-- All messages of a stream of bytes.
use Rattle.std.specs.Prelude.{◌≡◌, ℕ, List, [], ◌∷◌, ◌++◌}
use Rattle.std.specs.List.{AllByRecursion}
use Rattle.frame_cut.specs.Frame.{BeginsWith}
use Rattle.spec_model.specs.declared.event.Shape.{Shape}
use Rattle.spec_model.specs.Message.{IsMessage, frames_of}

-- The bytes are the frames of these messages and then the rest, which begins with no frame.
pub record CutsInto (shape : Shape) (bytes : List ℕ) (messages : List (List ℕ)) (rest : List ℕ) : Type 0 where
  pub are_messages : AllByRecursion (IsMessage shape) messages
  pub are : bytes ≡ frames_of shape.framing messages ++ rest
  pub no_frame : (message behind : List ℕ) → ¬ BeginsWith shape rest message behind

-- Bytes come in pieces: each time all frames are cut off the bytes that were kept and the piece, and the rest is kept.
abbrev pub CutsPieces : Shape → List ℕ → List (List ℕ) → List (List ℕ) → List ℕ → Type 0
CutsPieces shape kept [] messages rest = (messages ≡ []) × (rest ≡ kept)
CutsPieces shape kept (piece ∷ pieces) messages rest =
    (first : List (List ℕ)) × (between : List ℕ) × (later : List (List ℕ)) × CutsInto shape (kept ++ piece) first between
    × CutsPieces shape between pieces later rest × (messages ≡ first ++ later)
