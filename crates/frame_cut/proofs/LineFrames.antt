-- Frames of lines.
use Rattle.std.proofs.Common.{◌≡◌, ℕ, suc, ◌+◌, ◌<◌, ◌≤◌, List, [], ◌∷◌, ◌++◌, length, take, drop, slice_index, refl, sym, ◌∙◌, ap, arith, add-one, drop-cons, append-nil, append_assoc}
use Rattle.std.proofs.Math.Seq.{get_or-append_seam}
use Rattle.std.proofs.Math.ListN.{get_or-append}
use Rattle.std.proofs.lemmas.List.{length-take-le, take-append-drop, take_all}
use Rattle.frame_cut.specs.Frame.{IsGarbled, IsUnfinished, IsWhole}
use Rattle.frame_cut.proofs.Messages.{is_message-made, line, line_bytes, message_within}
use Rattle.spec_model.specs.Message.{line_feed}

-- the byte behind a line is LF
feed_behind : (message behind bytes missing : List ℕ) → (message ++ line_feed ∷ []) ++ behind ≡ bytes ++ missing → length message < length bytes
    → slice_index bytes (length message) ≡ line_feed
feed_behind message behind bytes missing same longer =
    sym (get_or-append bytes missing 0 (length message) longer)
    ∙ sym (ap (λ list. slice_index list (length message)) same)
    ∙ ap (λ list. slice_index list (length message)) (append_assoc message (line_feed ∷ []) behind)
    ∙ get_or-append_seam message line_feed behind 0

module _ (limit conns : ℕ) (bytes : List ℕ) (small : (place : ℕ) → slice_index bytes place < 256) where
  -- The first LF within the limit ends a frame.
  pub line-whole : (len : ℕ) → len ≤ limit → len < length bytes → slice_index bytes len ≡ line_feed
      → ((place : ℕ) → place < len → slice_index bytes place ≡ line_feed → ⊥) → IsWhole (line limit conns) bytes 0 len (len + 1)
  line-whole len within held feed none =
      let short : length (take len bytes) ≤ limit = omega (arith, length-take-le len bytes (omega arith)) in
      let at_feed : drop len bytes ≡ line_feed ∷ drop (len + 1) bytes =
      drop-cons bytes len 0 held ∙ rw add-one (ap (λ first. first ∷ drop (suc len) bytes) feed) in
      record {
        begins = record {
          is_message = is_message-made (line limit conns) (take len bytes) short (line_bytes bytes len small none);
          are = sym (append_assoc (take len bytes) (line_feed ∷ []) (drop (len + 1) bytes) ∙ ap (λ rest. take len bytes ++ rest) (sym at_feed) ∙ take-append-drop len bytes);
        };
        from = refl;
        ends = omega arith;
        within = omega arith;
      }

  -- More bytes than a message may have, with no LF among them, are garbled.
  pub line-garbled : limit < length bytes → ((place : ℕ) → place ≤ limit → slice_index bytes place ≡ line_feed → ⊥) → IsGarbled (line limit conns) bytes
  line-garbled long none = record {
    no_frame = λ message behind begins.
        let within = message_within (line limit conns) message begins.is_message in
        none (length message) within (feed_behind message behind bytes [] (sym begins.are ∙ sym (append-nil bytes)) (omega arith));
    no_front = λ message missing front.
        let within = message_within (line limit conns) message front.is_message in
        none (length message) within (feed_behind message [] bytes missing (append-nil _ ∙ front.frame) (omega arith));
  }

  -- Bytes within the limit, with no LF among them, lack at least that.
  pub line-unfinished : length bytes ≤ limit → ((place : ℕ) → place < length bytes → slice_index bytes place ≡ line_feed → ⊥) → IsUnfinished (line limit conns) bytes
  line-unfinished short none = (
    bytes,
    line_feed ∷ [],
    record {
      is_message = is_message-made (line limit conns) bytes short (rw (take_all (length bytes) bytes (omega arith)) at (line_bytes bytes (length bytes) small none));
      frame = refl;
    },
    λ empty. cc,
  )
