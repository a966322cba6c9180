-- The first line of bytes, by the first LF within the limit.
use Rattle.std.proofs.Common.{◌≡◌, ℕ, ◌+◌, ◌<◌, ◌≤◌, min, List, length, take, slice_index, sym, ◌∙◌, subst, arith}
use Rattle.std.proofs.lemmas.Bool.{eq-eqb, eqb-true}
use Rattle.std.proofs.lemmas.List.{get_or-take, length-take}
use Rattle.frame_cut.specs.Frame.{IsGarbled, IsUnfinished, IsWhole}
use Rattle.frame_cut.proofs.LineFrames.{line-garbled, line-unfinished, line-whole}
use Rattle.frame_cut.proofs.Messages.{as_line}
use Rattle.memchr.specs.Find.{NoneBefore, Nowhere, Passes, is_byte}
use Rattle.spec_model.specs.declared.event.Framing.TheVariants.{Line}
use Rattle.spec_model.specs.declared.event.Shape.{Shape}
use Rattle.spec_model.specs.Message.{line_feed}

module _ (shape : Shape) (is : shape.framing ≡ Line) (bytes : List ℕ) (small : (place : ℕ) → slice_index bytes place < 256)
    (room : ℕ) (is_room : room ≡ min (length bytes) (shape.limit + 1)) where
  -- where no LF was found in the room, there is none
  none_there : (len : ℕ) → len ≤ room → Nowhere (Passes (is_byte line_feed) (take room bytes)) 0 len → (place : ℕ) → place < len → slice_index bytes place ≡ line_feed → ⊥
  none_there len within none place below feed =
      none place (omega arith) below (eq-eqb _ _ (get_or-take room bytes place 0 (omega arith) ∙ feed))

  length_room : length (take room bytes) ≡ room
  length_room = omega (arith, length-take room bytes)

  pub line-found : (len : ℕ) → NoneBefore (Passes (is_byte line_feed) (take room bytes)) 0 (length (take room bytes)) len
      → Passes (is_byte line_feed) (take room bytes) len → IsWhole shape bytes 0 len (len + 1)
  line-found len first passes =
      let high = first.high in
      let within : len < room = omega (arith, length_room) in
      let feed : slice_index bytes len ≡ line_feed = sym (get_or-take room bytes len 0 within) ∙ eqb-true _ _ passes in
      subst (λ s. IsWhole s bytes 0 len (len + 1)) (sym (as_line shape is))
      (line-whole shape.limit shape.conns bytes small len (omega arith) (omega arith) feed (none_there len (omega arith) first.before))

  pub line-missing : Nowhere (Passes (is_byte line_feed) (take room bytes)) 0 (length (take room bytes)) → shape.limit < length bytes → IsGarbled shape bytes
  line-missing none long =
      subst (λ s. IsGarbled s bytes) (sym (as_line shape is))
      (line-garbled shape.limit shape.conns bytes small long
      (λ place below. none_there (length (take room bytes)) (omega (arith, length_room)) none place (omega (arith, length_room))))

  pub line-open : Nowhere (Passes (is_byte line_feed) (take room bytes)) 0 (length (take room bytes)) → length bytes ≤ shape.limit → IsUnfinished shape bytes
  line-open none short =
      subst (λ s. IsUnfinished s bytes) (sym (as_line shape is))
      (line-unfinished shape.limit shape.conns bytes small short
      (λ place below. none_there (length (take room bytes)) (omega (arith, length_room)) none place (omega (arith, length_room))))
