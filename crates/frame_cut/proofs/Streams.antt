-- Streams cut into messages.
use Rattle.std.proofs.Common.{◌≡◌, ◌⊎◌, ℕ, zero, suc, ◌≤◌, List, [], ◌∷◌, ◌++◌, length, refl, sym, ◌∙◌, ap, subst, inl, inr, arith, append-nil, append_assoc, length-append}
use Rattle.std.specs.List.{AllByRecursion, concat}
use Rattle.std.proofs.lemmas.Grind.{flat_map-append}
use Rattle.frame_cut.specs.Frame.{BeginsWith}
use Rattle.frame_cut.specs.Stream.{CutsInto, CutsPieces}
use Rattle.frame_cut.proofs.Fronts.{Front, NoFront, frame_long, front_decided, one_front}
use Rattle.spec_model.specs.declared.event.Shape.{Shape}
use Rattle.spec_model.specs.Message.{IsMessage, frame_of, frames_of}

-- where no frame stands at the front, there are no messages
pub cuts_none : (shape : Shape) (bytes : List ℕ) → NoFront shape bytes → CutsInto shape bytes [] bytes
cuts_none shape bytes none = record { are_messages = tt; are = refl; no_frame = none }

-- one frame more at the front
pub cuts_more : (shape : Shape) (bytes message behind : List ℕ) (messages : List (List ℕ)) (rest : List ℕ) → BeginsWith shape bytes message behind
    → CutsInto shape behind messages rest → CutsInto shape bytes (message ∷ messages) rest
cuts_more shape bytes message behind messages rest begins cuts = record {
  are_messages = (begins.is_message, cuts.are_messages);
  are = begins.are ∙ ap (λ later. frame_of shape.framing message ++ later) cuts.are ∙ sym (append_assoc (frame_of shape.framing message) _ rest);
  no_frame = cuts.no_frame;
}

-- some messages and some rest
abbrev pub Cutting : Shape → List ℕ → Type 0
Cutting shape bytes = (messages : List (List ℕ)) × (rest : List ℕ) × CutsInto shape bytes messages rest

cutting_within : (most : ℕ) (shape : Shape) (bytes : List ℕ) → length bytes ≤ most → Front shape bytes ⊎ NoFront shape bytes → Cutting shape bytes
cutting_within most shape bytes within (inr none) = ([], bytes, cuts_none shape bytes none)
cutting_within zero shape bytes within (inl (message, behind, begins, shorter)) = absurd (omega arith)
cutting_within (suc most) shape bytes within (inl (message, behind, begins, shorter)) =
    let (messages, rest, cuts) = cutting_within most shape behind (omega arith) (front_decided shape behind) in
    (message ∷ messages, rest, cuts_more shape bytes message behind messages rest begins cuts)

-- all frames can be cut off any bytes
pub cutting : (shape : Shape) (bytes : List ℕ) → Cutting shape bytes
cutting shape bytes = cutting_within (length bytes) shape bytes (omega arith) (front_decided shape bytes)

-- the first frame of a cutting
first_cut : (shape : Shape) (bytes message : List ℕ) (messages : List (List ℕ)) (rest : List ℕ) → CutsInto shape bytes (message ∷ messages) rest
    → BeginsWith shape bytes message (frames_of shape.framing messages ++ rest)
first_cut shape bytes message messages rest cuts =
    record { is_message = cuts.are_messages.0; are = cuts.are ∙ append_assoc (frame_of shape.framing message) _ rest }

-- Bytes are cut in one way.
pub one_cutting : (shape : Shape) (bytes : List ℕ) (messages others : List (List ℕ)) (rest left : List ℕ)
    → CutsInto shape bytes messages rest → CutsInto shape bytes others left → (messages ≡ others) × (rest ≡ left)
one_cutting shape bytes [] [] rest left cuts too = (refl, sym cuts.are ∙ too.are)
one_cutting shape bytes [] (other ∷ others) rest left cuts too =
    let begins = first_cut shape bytes other others left too in
    absurd (cuts.no_frame other _ (subst (λ list. BeginsWith shape list other (frames_of shape.framing others ++ left)) cuts.are begins))
one_cutting shape bytes (message ∷ messages) [] rest left cuts too =
    let begins = first_cut shape bytes message messages rest cuts in
    absurd (too.no_frame message _ (subst (λ list. BeginsWith shape list message (frames_of shape.framing messages ++ rest)) too.are begins))
one_cutting shape bytes (message ∷ messages) (other ∷ others) rest left cuts too =
    let first = one_front shape bytes message other _ _ (first_cut shape bytes message messages rest cuts) (first_cut shape bytes other others left too) in
    let later = one_cutting shape (frames_of shape.framing messages ++ rest) messages others rest left
    (record { are_messages = cuts.are_messages.1; are = refl; no_frame = cuts.no_frame })
    (record { are_messages = too.are_messages.1; are = first.1; no_frame = too.no_frame }) in
    (cc, later.1)

all_append : (shape : Shape) (messages others : List (List ℕ)) → AllByRecursion (IsMessage shape) messages → AllByRecursion (IsMessage shape) others
    → AllByRecursion (IsMessage shape) (messages ++ others)
all_append shape [] others all more = more
all_append shape (message ∷ messages) others all more = (all.0, all_append shape messages others all.1 more)

-- The rest is cut further when more bytes come.
pub cuts_joined : (shape : Shape) (bytes more : List ℕ) (messages others : List (List ℕ)) (rest left : List ℕ) → CutsInto shape bytes messages rest
    → CutsInto shape (rest ++ more) others left → CutsInto shape (bytes ++ more) (messages ++ others) left
cuts_joined shape bytes more messages others rest left cuts later = record {
  are_messages = all_append shape messages others cuts.are_messages later.are_messages;
  are = ap (λ list. list ++ more) cuts.are ∙ append_assoc (frames_of shape.framing messages) rest more
      ∙ ap (λ list. frames_of shape.framing messages ++ list) later.are ∙ sym (append_assoc (frames_of shape.framing messages) _ left)
      ∙ ap (λ list. list ++ left) (sym (flat_map-append (frame_of shape.framing) messages others));
  no_frame = later.no_frame;
}

pieces_joined : (shape : Shape) (kept : List ℕ) (pieces messages : List (List ℕ)) (rest : List ℕ) → NoFront shape kept → CutsPieces shape kept pieces messages rest
    → CutsInto shape (kept ++ concat pieces) messages rest
pieces_joined shape kept [] messages rest none (no_messages, same) =
    rw (no_messages, same, append-nil kept) (cuts_none shape kept none)
pieces_joined shape kept (piece ∷ pieces) messages rest none (first, between, later, cuts, more, is) =
    let behind = pieces_joined shape between pieces later rest cuts.no_frame more in
    rw (is, ← append_assoc kept piece (concat pieces)) (cuts_joined shape (kept ++ piece) (concat pieces) first later between rest cuts behind)

cut_pieces : (shape : Shape) (kept : List ℕ) (pieces : List (List ℕ)) → (messages : List (List ℕ)) × (rest : List ℕ) × CutsPieces shape kept pieces messages rest
cut_pieces shape kept [] = ([], kept, (refl, refl))
cut_pieces shape kept (piece ∷ pieces) =
    let (first, between, cuts) = cutting shape (kept ++ piece) in
    let (later, rest, more) = cut_pieces shape between pieces in
    (first ++ later, rest, (first, between, later, cuts, more, refl))

nothing_first : (shape : Shape) → NoFront shape []
nothing_first shape message behind begins =
    omega (arith, ap length begins.are, length-append (frame_of shape.framing message) behind, frame_long shape.framing message)

-- the messages and the rest of pieces are those of the whole stream
pub pieces_cut : (shape : Shape) (pieces messages : List (List ℕ)) (rest : List ℕ) → CutsPieces shape [] pieces messages rest → CutsInto shape (concat pieces) messages rest
pieces_cut shape pieces messages rest cuts = pieces_joined shape [] pieces messages rest (nothing_first shape) cuts

pub whole_cut : (shape : Shape) (pieces messages : List (List ℕ)) (rest : List ℕ) → CutsInto shape (concat pieces) messages rest → CutsPieces shape [] pieces messages rest
whole_cut shape pieces messages rest cuts =
    let (others, left, by_pieces) = cut_pieces shape [] pieces in
    let same = one_cutting shape (concat pieces) others messages left rest (pieces_cut shape pieces others left by_pieces) cuts in
    rw (← same.0, ← same.1) by_pieces
