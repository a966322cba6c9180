-- Frames that begin with a length.
use Rattle.std.proofs.Common.{◌≡◌, ℕ, zero, suc, ◌+◌, ◌-◌, ◌*◌, ◌/◌, ◌%◌, ◌<◌, ◌≤◌, List, [], ◌∷◌, ◌++◌, length, take, drop, replicate, slice_index, refl, ◌∙◌, ap, arith, length-append}
use Rattle.std.proofs.lemmas.List.{length-replicate, length-take-le, take-append-drop}
use Rattle.frame_cut.specs.Frame.{IsGarbled, IsUnfinished, IsWhole}
use Rattle.frame_cut.proofs.Messages.{is_message-made, len16, len16_bytes, message_within}

-- a length of two bytes, the greater first
abbrev pub length_of : ℕ → ℕ → ℕ
length_of greater lesser = greater * 256 + lesser

length_of-greater : (greater lesser : ℕ) → lesser < 256 → length_of greater lesser / 256 ≡ greater
length_of-greater greater lesser small = omega arith

length_of-lesser : (greater lesser : ℕ) → lesser < 256 → length_of greater lesser % 256 ≡ lesser
length_of-lesser greater lesser small = omega arith

-- as many zeros are bytes
zeros_small : (count place : ℕ) → slice_index (replicate count 0) place < 256
zeros_small zero place = omega arith
zeros_small (suc count) zero = omega arith
zeros_small (suc count) (suc place) = zeros_small count place

append_small : (bytes more : List ℕ) → ((place : ℕ) → slice_index bytes place < 256) → ((place : ℕ) → slice_index more place < 256)
    → (place : ℕ) → slice_index (bytes ++ more) place < 256
append_small [] more small later place = later place
append_small (byte ∷ bytes) more small later zero = small 0
append_small (byte ∷ bytes) more small later (suc place) = append_small bytes more (λ at. small (suc at)) later place

take_small : (count : ℕ) (bytes : List ℕ) → ((place : ℕ) → slice_index bytes place < 256) → (place : ℕ) → slice_index (take count bytes) place < 256
take_small zero bytes small place = omega arith
take_small (suc count) [] small place = omega arith
take_small (suc count) (byte ∷ bytes) small zero = small 0
take_small (suc count) (byte ∷ bytes) small (suc place) = take_small count bytes (λ at. small (suc at)) place

module _ (limit conns : ℕ) where
  -- no bytes are the front of the empty message's frame
  pub len16-empty : IsUnfinished (len16 limit conns) []
  len16-empty = ([], 0 ∷ 0 ∷ [], record { is_message = is_message-made (len16 limit conns) [] (omega arith) refl; frame = refl }, λ empty. cc)

  -- One byte is garbled where no length within the limit begins with it.
  pub len16-garbled_at_one : (greater : ℕ) → limit < greater * 256 → IsGarbled (len16 limit conns) (greater ∷ [])
  len16-garbled_at_one greater above = record {
    no_frame = λ message behind begins. let are = begins.are in absurd (cc);
    no_front = λ message missing front.
        let within = message_within (len16 limit conns) message front.is_message in
        let frame = front.frame in
        let first : length message / 256 ≡ greater = cc in
        absurd (omega arith);
  }

  pub len16-unfinished_at_one : (greater : ℕ) → greater * 256 ≤ limit → IsUnfinished (len16 limit conns) (greater ∷ [])
  len16-unfinished_at_one greater within =
      let zeros : List ℕ = replicate (greater * 256) 0 in
      let long : length zeros ≡ greater * 256 = length-replicate (greater * 256) 0 in (
        zeros,
        length zeros % 256 ∷ zeros,
        record {
          is_message = is_message-made (len16 limit conns) zeros (omega arith) (len16_bytes zeros (zeros_small (greater * 256)));
          frame = ap (λ first. first ∷ length zeros % 256 ∷ zeros) (omega arith);
        },
        λ empty. let cut : length zeros % 256 ∷ zeros ≡ [] = empty in absurd (cc),
      )

  module _ (greater lesser : ℕ) (behind : List ℕ) (small : lesser < 256) where
    -- Two bytes that are a length above the limit are garbled.
    pub len16-garbled : limit < length_of greater lesser → IsGarbled (len16 limit conns) (greater ∷ lesser ∷ behind)
    len16-garbled above = record {
      no_frame = λ message rest begins.
          let within = message_within (len16 limit conns) message begins.is_message in
          let are = begins.are in
          let first : greater ≡ length message / 256 = cc in
          let second : lesser ≡ length message % 256 = cc in
          absurd (omega arith);
      no_front = λ message missing front.
          let within = message_within (len16 limit conns) message front.is_message in
          let frame = front.frame in
          let first : length message / 256 ≡ greater = cc in
          let second : length message % 256 ≡ lesser = cc in
          absurd (omega arith);
    }

    -- A message lacks bytes where fewer than its length are behind it.
    pub len16-unfinished : length_of greater lesser ≤ limit → length behind < length_of greater lesser → ((place : ℕ) → slice_index behind place < 256)
        → IsUnfinished (len16 limit conns) (greater ∷ lesser ∷ behind)
    len16-unfinished within short bytes =
        let lacks = length_of greater lesser - length behind in
        let zeros : List ℕ = replicate lacks 0 in
        let message : List ℕ = behind ++ zeros in
        let long : length message ≡ length_of greater lesser = length-append behind zeros ∙ ap (λ n. length behind + n) (length-replicate {A = ℕ} lacks 0) ∙ omega arith in
        let first : length message / 256 ≡ greater = ap (λ n. n / 256) long ∙ length_of-greater greater lesser small in
        let second : length message % 256 ≡ lesser = ap (λ n. n % 256) long ∙ length_of-lesser greater lesser small in (
          message,
          zeros,
          record {
            is_message = is_message-made (len16 limit conns) message (omega arith) (len16_bytes message (append_small behind zeros bytes (zeros_small lacks)));
            frame = cc;
          },
          λ empty. let none : length zeros ≡ 0 = ap length empty in absurd (omega (arith, length-replicate {A = ℕ} lacks 0)),
        )

    -- A frame stands at the front where all bytes of the message do.
    pub len16-whole : length_of greater lesser ≤ limit → length_of greater lesser ≤ length behind → ((place : ℕ) → slice_index behind place < 256)
        → (used : ℕ) → used ≡ 2 + length_of greater lesser → IsWhole (len16 limit conns) (greater ∷ lesser ∷ behind) 2 (length_of greater lesser) used
    len16-whole within held bytes used is =
        let len = length_of greater lesser in
        let message : List ℕ = take len behind in
        let long : length message ≡ len = length-take-le len behind held in
        let first : length message / 256 ≡ greater = ap (λ n. n / 256) long ∙ length_of-greater greater lesser small in
        let second : length message % 256 ≡ lesser = ap (λ n. n % 256) long ∙ length_of-lesser greater lesser small in
        let rest : drop used (greater ∷ lesser ∷ behind) ≡ drop len behind =
        ap (λ n. drop n (greater ∷ lesser ∷ behind)) (let twice : used ≡ suc (suc len) = omega arith in twice) in
        let parts : message ++ drop len behind ≡ behind = take-append-drop len behind in
        record {
          begins = record {
            is_message = is_message-made (len16 limit conns) message (omega arith) (len16_bytes message (take_small len behind bytes));
            are = rw (rest, first, second, parts) refl;
          };
          from = refl;
          ends = omega arith;
          within = omega arith;
        }
