-- At most one frame stands at the front of bytes.
use Rattle.std.proofs.Common.{◌≡◌, ◌⊎◌, ℕ, ◌+◌, ◌*◌, ◌/◌, ◌%◌, ◌<◌, ◌≤◌, Bool, true, false, ◌&&◌, ◌==◌, not, nat_eq, nat_lt, List, [], ◌∷◌, ◌++◌, length, take, drop, if◌then◌else◌, refl, sym, ◌∙◌, ap, inl, inr, arith, append-nil, append_assoc, length-append}
use Rattle.std.specs.List.{list_all, starts_with}
use Rattle.std.proofs.Math.Seq.{take-append_seam}
use Rattle.std.proofs.lemmas.Bool.{and_from, and_parts, cases_lt, not-true}
use Rattle.std.proofs.lemmas.List.{append_cancel_left, take-append-drop}
use Rattle.std.proofs.lemmas.Slice.Eq.{bytes_eq-Decides}
use Rattle.frame_cut.specs.Frame.{BeginsWith, IsFrontOf, IsGarbled, IsUnfinished}
use Rattle.frame_cut.proofs.Messages.{message_bytes}
use Rattle.spec_model.specs.declared.event.Framing.{Framing}
use Rattle.spec_model.specs.declared.event.Framing.TheVariants.{Line, Len16}
use Rattle.spec_model.specs.declared.event.Shape.{Shape}
use Rattle.spec_model.specs.Message.{frame_of, is_message, line_feed, may_stand_in_message}
use Rattle.spec_model.proofs.Prefix.{IsPrefixOf-compared}

-- the bytes before the first LF
abbrev pub before_feed : List ℕ → List ℕ
before_feed [] = []
before_feed (byte ∷ bytes) = if byte == line_feed then [] else byte ∷ before_feed bytes

-- the only message that can stand first
abbrev pub front_message : Framing → List ℕ → List ℕ
front_message Line bytes = before_feed bytes
front_message Len16 [] = []
front_message Len16 (greater ∷ []) = []
front_message Len16 (greater ∷ lesser ∷ behind) = take (greater * 256 + lesser) behind

front_message-line : (message behind : List ℕ) → list_all (may_stand_in_message Line) message ≡ true
    → front_message Line ((message ++ line_feed ∷ []) ++ behind) ≡ message
front_message-line [] behind bytes = refl
front_message-line (byte ∷ message) behind bytes =
    let parts = and_parts (may_stand_in_message Line byte) (list_all (may_stand_in_message Line) message) bytes in
    let other : (byte == line_feed) ≡ false = not-true _ (and_parts (nat_lt byte 256) (not (byte == line_feed)) parts.0).1 in
    rw other (ap (λ more. byte ∷ more) (front_message-line message behind parts.1))

front_message-frame : (framing : Framing) (message behind : List ℕ) → list_all (may_stand_in_message framing) message ≡ true
    → front_message framing (frame_of framing message ++ behind) ≡ message
front_message-frame Line message behind bytes = front_message-line message behind bytes
front_message-frame Len16 message behind bytes =
    let whole : length message / 256 * 256 + length message % 256 ≡ length message = omega arith in
    ap (λ n. take n (message ++ behind)) whole ∙ take-append_seam message behind

pub front_is : (shape : Shape) (bytes message behind : List ℕ) → BeginsWith shape bytes message behind → front_message shape.framing bytes ≡ message
front_is shape bytes message behind begins =
    ap (front_message shape.framing) begins.are ∙ front_message-frame shape.framing message behind (message_bytes shape message begins.is_message)

-- Bytes begin with one frame at most.
pub one_front : (shape : Shape) (bytes message other behind left : List ℕ) → BeginsWith shape bytes message behind → BeginsWith shape bytes other left
    → (message ≡ other) × (behind ≡ left)
one_front shape bytes message other behind left begins too =
    let same : message ≡ other = sym (front_is shape bytes message behind begins) ∙ front_is shape bytes other left too in
    let joined : frame_of shape.framing message ++ behind ≡ frame_of shape.framing message ++ left =
    sym begins.are ∙ too.are ∙ ap (λ m. frame_of shape.framing m ++ left) (sym same) in
    (same, append_cancel_left _ _ _ joined)

-- a frame has bytes
pub frame_long : (framing : Framing) (message : List ℕ) → 0 < length (frame_of framing message)
frame_long Line message = omega (arith, length-append message (line_feed ∷ []))
frame_long Len16 message = omega arith

behind_shorter : (shape : Shape) (bytes message behind : List ℕ) → BeginsWith shape bytes message behind → length behind < length bytes
behind_shorter shape bytes message behind begins =
    omega (arith, ap length begins.are, length-append (frame_of shape.framing message) behind, frame_long shape.framing message)

-- what stands at the front of bytes, if a frame does
abbrev pub Front : Shape → List ℕ → Type 0
Front shape bytes = (message : List ℕ) × (behind : List ℕ) × BeginsWith shape bytes message behind × (length behind < length bytes)

abbrev pub NoFront : Shape → List ℕ → Type 0
NoFront shape bytes = (message behind : List ℕ) → BeginsWith shape bytes message behind → ⊥

decided : (shape : Shape) (bytes : List ℕ) (test : Bool)
    → (is_message shape (front_message shape.framing bytes) && starts_with nat_eq bytes (frame_of shape.framing (front_message shape.framing bytes))) ≡ test
    → Front shape bytes ⊎ NoFront shape bytes
decided shape bytes true is =
    let message = front_message shape.framing bytes in
    let frame = frame_of shape.framing message in
    let parts = and_parts _ _ is in
    let stands : frame ≡ take (length frame) bytes = (bytes_eq-Decides frame (take (length frame) bytes)).0 parts.1 in
    let begins : BeginsWith shape bytes message (drop (length frame) bytes) = record {
      is_message = parts.0;
      are = sym (take-append-drop (length frame) bytes) ∙ ap (λ front. front ++ drop (length frame) bytes) (sym stands);
    } in
    inl (message, drop (length frame) bytes, begins, behind_shorter shape bytes message _ begins)
decided shape bytes false is = inr (λ message behind begins.
    let frame = frame_of shape.framing message in
    let first = front_is shape bytes message behind begins in
    let stands : frame ≡ take (length frame) bytes = sym (ap (take (length frame)) begins.are ∙ take-append_seam frame behind) in
    let passes = and_from _ _ begins.is_message ((bytes_eq-Decides frame (take (length frame) bytes)).1 stands) in
    let fails = rw first at is in
    let both : true ≡ false = sym passes ∙ fails in cc)

-- whether a frame stands at the front can be told
pub front_decided : (shape : Shape) (bytes : List ℕ) → Front shape bytes ⊎ NoFront shape bytes
front_decided shape bytes = decided shape bytes _ refl

-- No frame is a proper prefix of another.
pub no_longer_frame : (shape : Shape) (bytes message behind other missing : List ℕ) → BeginsWith shape bytes message behind → IsFrontOf shape bytes other missing
    → missing ≡ []
no_longer_frame shape bytes message behind other missing begins front =
    let longer : BeginsWith shape (bytes ++ missing) message (behind ++ missing) = record {
      is_message = begins.is_message;
      are = ap (λ list. list ++ missing) begins.are ∙ append_assoc (frame_of shape.framing message) behind missing;
    } in
    let itself : BeginsWith shape (bytes ++ missing) other [] = record { is_message = front.is_message; are = sym front.frame ∙ sym (append-nil _) } in
    let none = ap length (one_front shape (bytes ++ missing) message other (behind ++ missing) [] longer itself).1 in
    empty_of missing (omega (arith, none, length-append behind missing))
  where
    empty_of : (list : List ℕ) → length list ≡ 0 → list ≡ []
    empty_of [] none = refl
    empty_of (item ∷ list) none = absurd (omega arith)

-- What is garbled stays so.
pub garbled_longer : (shape : Shape) (bytes more : List ℕ) → IsGarbled shape bytes → IsGarbled shape (bytes ++ more)
garbled_longer shape bytes more garbled = record {
  no_frame = λ message behind begins. first_of message behind begins (cases_lt (length bytes) (length (frame_of shape.framing message)));
  no_front = λ message missing front. garbled.no_front message (more ++ missing) (record {
    is_message = front.is_message;
    frame = front.frame ∙ append_assoc bytes more missing;
  });
}
  where
    first_of : (message behind : List ℕ) → BeginsWith shape (bytes ++ more) message behind
        → (length bytes < length (frame_of shape.framing message)) ⊎ (length (frame_of shape.framing message) ≤ length bytes) → ⊥
    first_of message behind begins (inl shorter) =
        let (missing, is) = IsPrefixOf-compared bytes (frame_of shape.framing message) (bytes ++ more) (more, refl) (behind, begins.are) (omega arith) in
        garbled.no_front message missing (record { is_message = begins.is_message; frame = is })
    first_of message behind begins (inr longer) =
        let (rest, is) = IsPrefixOf-compared (frame_of shape.framing message) bytes (bytes ++ more) (behind, begins.are) (more, refl) longer in
        garbled.no_frame message rest (record { is_message = begins.is_message; are = is })

-- No frame stands at the front of an unfinished one.
pub unfinished_no_front : (shape : Shape) (bytes : List ℕ) → IsUnfinished shape bytes → NoFront shape bytes
unfinished_no_front shape bytes (other, missing, front, some) message behind begins =
    some (no_longer_frame shape bytes message behind other missing begins front)
