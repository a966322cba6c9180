-- The three answers exclude one another.
use Rattle.std.proofs.Common.{◌≡◌, ℕ, List, length, take, drop, refl, sym, ◌∙◌, ap, arith}
use Rattle.std.proofs.lemmas.List.{length-drop, length-take-le}
use Rattle.frame_cut.specs.declared.FrameCut.{FrameCut}
use Rattle.frame_cut.specs.declared.FrameCut.TheVariants.{Whole, Garbled, Unfinished}
use Rattle.frame_cut.specs.Frame.{IsCut, IsWhole}
use Rattle.frame_cut.proofs.Fronts.{no_longer_frame, one_front}
use Rattle.spec_model.specs.declared.event.Shape.{Shape}

-- the message's length
len_of : (shape : Shape) (bytes : List ℕ) (start len used : ℕ) → IsWhole shape bytes start len used → length (take len (drop start bytes)) ≡ len
len_of shape bytes start len used whole =
    let ends = whole.ends in
    let within = whole.within in
    length-take-le len (drop start bytes) (omega (arith, length-drop start bytes))

-- Whatever the bytes are, they are one of the three.
pub one_answer : (shape : Shape) (bytes : List ℕ) (one other : FrameCut) → IsCut shape bytes one → IsCut shape bytes other → one ≡ other
one_answer shape bytes (Whole start len used) (Whole start' len' used') whole too =
    let same = one_front shape bytes _ _ _ _ whole.begins too.begins in
    let starts : start ≡ start' = whole.from ∙ sym too.from in
    let lens : len ≡ len' = sym (len_of shape bytes start len used whole) ∙ ap length same.0 ∙ len_of shape bytes start' len' used' too in
    let left : length (drop used bytes) ≡ length (drop used' bytes) = ap length same.1 in
    let within = whole.within in
    let within' = too.within in
    let useds : used ≡ used' = omega (arith, length-drop used bytes, length-drop used' bytes) in
    cc
one_answer shape bytes (Whole start len used) Garbled whole garbled = absurd (garbled.no_frame _ _ whole.begins)
one_answer shape bytes (Whole start len used) Unfinished whole (message, missing, front, some) =
    absurd (some (no_longer_frame shape bytes _ _ message missing whole.begins front))
one_answer shape bytes Garbled (Whole start len used) garbled whole = absurd (garbled.no_frame _ _ whole.begins)
one_answer shape bytes Garbled Garbled garbled too = refl
one_answer shape bytes Garbled Unfinished garbled (message, missing, front, some) = absurd (garbled.no_front message missing front)
one_answer shape bytes Unfinished (Whole start len used) (message, missing, front, some) whole =
    absurd (some (no_longer_frame shape bytes _ _ message missing whole.begins front))
one_answer shape bytes Unfinished Garbled (message, missing, front, some) garbled = absurd (garbled.no_front message missing front)
one_answer shape bytes Unfinished Unfinished unfinished too = refl
