-- The first frame of bytes that begin with a length, by what stands at their first two places.
use Rattle.std.proofs.Common.{◌≡◌, ℕ, ◌+◌, ◌*◌, ◌<◌, ◌≤◌, List, [], length, drop, slice_index, sym, subst, arith}
use Rattle.std.proofs.lemmas.List.{get_or-drop}
use Rattle.frame_cut.specs.Frame.{IsGarbled, IsUnfinished, IsWhole}
use Rattle.frame_cut.proofs.LengthFrames.{len16-empty, len16-garbled, len16-garbled_at_one, len16-unfinished, len16-unfinished_at_one, len16-whole, length_of}
use Rattle.frame_cut.proofs.Messages.{as_len16, len16, no_byte, one_byte, two_bytes}
use Rattle.spec_model.specs.declared.event.Framing.TheVariants.{Len16}
use Rattle.spec_model.specs.declared.event.Shape.{Shape}

module _ (shape : Shape) (is : shape.framing ≡ Len16) (bytes : List ℕ) where
  -- what holds of bytes that begin so holds of these
  along : (P : Shape → List ℕ → Type 0) (found : List ℕ) → bytes ≡ found → P (len16 shape.limit shape.conns) found → P shape bytes
  along P found same holds =
      subst (λ s. P s bytes) (sym (as_len16 shape is)) (subst (λ list. P (len16 shape.limit shape.conns) list) (sym same) holds)

  pub cut-empty : length bytes < 1 → IsUnfinished shape bytes
  cut-empty short = along IsUnfinished [] (no_byte bytes short) (len16-empty shape.limit shape.conns)

  pub cut-garbled_at_one : 1 ≤ length bytes → length bytes < 2 → shape.limit < slice_index bytes 0 * 256 → IsGarbled shape bytes
  cut-garbled_at_one long short above =
      along (λ s list. IsGarbled s list) _ (one_byte bytes long short) (len16-garbled_at_one shape.limit shape.conns (slice_index bytes 0) above)

  pub cut-unfinished_at_one : 1 ≤ length bytes → length bytes < 2 → slice_index bytes 0 * 256 ≤ shape.limit → IsUnfinished shape bytes
  cut-unfinished_at_one long short within =
      along IsUnfinished _ (one_byte bytes long short) (len16-unfinished_at_one shape.limit shape.conns (slice_index bytes 0) within)

  module _ (long : 2 ≤ length bytes) (small : (place : ℕ) → slice_index bytes place < 256) where
    behind_small : (place : ℕ) → slice_index (drop 2 bytes) place < 256
    behind_small place = rw (get_or-drop 2 bytes place 0) (small (2 + place))

    pub cut-garbled : shape.limit < length_of (slice_index bytes 0) (slice_index bytes 1) → IsGarbled shape bytes
    cut-garbled above =
        along (λ s list. IsGarbled s list) _ (two_bytes bytes long)
        (len16-garbled shape.limit shape.conns (slice_index bytes 0) (slice_index bytes 1) (drop 2 bytes) (small 1) above)

    pub cut-unfinished : length_of (slice_index bytes 0) (slice_index bytes 1) ≤ shape.limit → length (drop 2 bytes) < length_of (slice_index bytes 0) (slice_index bytes 1)
        → IsUnfinished shape bytes
    cut-unfinished within short =
        along IsUnfinished _ (two_bytes bytes long)
        (len16-unfinished shape.limit shape.conns (slice_index bytes 0) (slice_index bytes 1) (drop 2 bytes) (small 1) within short behind_small)

    pub cut-whole : (len : ℕ) → len ≡ length_of (slice_index bytes 0) (slice_index bytes 1) → len ≤ shape.limit → len ≤ length (drop 2 bytes)
        → IsWhole shape bytes 2 len (2 + len)
    cut-whole len is_length within held =
        along (λ s list. IsWhole s list 2 len (2 + len)) _ (two_bytes bytes long)
        (rw is_length (len16-whole shape.limit shape.conns (slice_index bytes 0) (slice_index bytes 1) (drop 2 bytes) (small 1)
        (omega arith) (omega arith) behind_small (2 + length_of (slice_index bytes 0) (slice_index bytes 1)) (omega arith)))
