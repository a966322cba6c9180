-- Frames at the front of bytes.
use Rattle.std.proofs.Common.{◌≡◌, ℕ, ◌+◌, ◌<◌, ◌≤◌, List, ◌++◌, length, take, drop, ap, arith, length-append, length-drop}
use Rattle.frame_cut.proofs.Fronts.{frame_long}
use Rattle.frame_cut.specs.Frame.{IsWhole}
use Rattle.spec_model.specs.Message.{frame_of}
use Rattle.spec_model.specs.declared.event.Shape.{Shape}

-- a frame has a byte
pub frame_used : (shape : Shape) (bytes : List ℕ) (start len used : ℕ) → IsWhole shape bytes start len used → 0 < used
frame_used shape bytes start len used whole =
    let frame : List ℕ = frame_of shape.framing (take len (drop start bytes)) in
    let long = frame_long shape.framing (take len (drop start bytes)) in
    omega (arith, ap length whole.begins.are, length-append frame (drop used bytes), length-drop used bytes, whole.within)
