-- Texts between quotes, read back.
use Rattle.std.proofs.Common.{◌≡◌, ◌≢◌, ℕ, ◌<◌, ◌≤◌, ◌+◌, ◌-◌, ◌/◌, ◌%◌, Bool, true, false, ◌&&◌, cond, eqb, leb, List, [], ◌∷◌, ◌++◌, flat_map, length, take, refl, ◌∙◌, ap, arith, inl, inr, length-append}
use Rattle.std.specs.List.{list_all}
use Rattle.std.proofs.Math.Seq.{take-append_seam}
use Rattle.std.proofs.lemmas.Bool.{ne_eqb, lt-ltb, le-ltb, cases_lt, cases_eq, leb-true, ltb-true, and_parts}
use Rattle.spec_model.specs.declared.quote.Progress.TheVariants.{Between}
use Rattle.spec_model.specs.declared.event.Framing.{Framing}
use Rattle.spec_model.specs.declared.event.Framing.TheVariants.{Line, Len16}
use Rattle.spec_model.specs.declared.event.Shape.{Shape}
use Rattle.spec_model.specs.Message.{IsMessage, line_feed, may_stand_in_message}
use Rattle.spec_model.specs.Quote.{IsText, hex_digit, quoted_byte, quotation_of}
use Rattle.spec_model.specs.Reading.{read_on}
use Rattle.spec_model.proofs.Unquoted.{read_on-quoted}
use Rattle.exchange_text.specs.LooseReading.{unquoted}
use Rattle.exchange_text.specs.Text.{IsLine}
use Rattle.exchange_text.proofs.Separators.{Lacks-append}

-- Bytes that may stand in a message are bytes.
pub is_text : (framing : Framing) (bytes : List ℕ) → list_all (may_stand_in_message framing) bytes ≡ true → IsText bytes
is_text framing [] may = tt
is_text framing (byte ∷ bytes) may =
    let parts = and_parts _ _ may in
    (below framing byte parts.0, is_text framing bytes parts.1)
  where
    below : (framing : Framing) (byte : ℕ) → may_stand_in_message framing byte ≡ true → byte < 256
    below Line byte may = ltb-true byte 256 (and_parts _ _ may).0
    below Len16 byte may = ltb-true byte 256 may

pub message_is_text : (shape : Shape) (message : List ℕ) → IsMessage shape message → IsText message
message_is_text shape message is_message = is_text shape.framing message (and_parts _ _ is_message).1

-- a quotation is read as the text that it quotes
pub unquoted-quotation_of : (text : List ℕ) → IsText text → unquoted (quotation_of text) ≡ text
unquoted-quotation_of text small =
    let inside = flat_map quoted_byte text in
    let count : length (quotation_of text) - 2 ≡ length inside = omega (arith, length-append inside (34 ∷ [])) in
    ap (λ n. read_on Between (take n (inside ++ 34 ∷ []))) count ∙ ap (read_on Between) (take-append_seam inside (34 ∷ [])) ∙ read_on-quoted text small

-- a byte that is no hexadecimal digit
pub hex_digit_is_not : (byte value : ℕ) → (value < 10 → 48 + value ≢ byte) → (10 ≤ value → 87 + value ≢ byte) → eqb (hex_digit value) byte ≡ false
hex_digit_is_not byte value low high = elim (cases_lt value 10) [
  | inl below ↦ rw (lt-ltb value 10 below) (ne_eqb (48 + value) byte (low below))
  | inr above ↦ rw (le-ltb value 10 above) (ne_eqb (87 + value) byte (high above))
]

hex_digit_no_line_feed : (value : ℕ) → eqb (hex_digit value) line_feed ≡ false
hex_digit_no_line_feed value = hex_digit_is_not line_feed value (λ below same. absurd (omega arith)) (λ above same. absurd (omega arith))

-- no LF stands in a quotation
IsLine-quoted_byte : (byte : ℕ) → IsLine (quoted_byte byte)
IsLine-quoted_byte byte = elim (cases_eq byte 34) [
  | inl quote ↦ rw quote refl
  | inr no_quote ↦ elim (cases_eq byte 92) [
    | inl backslash ↦ rw backslash refl
    | inr no_backslash ↦ rw (ne_eqb byte 34 no_quote, ne_eqb byte 92 no_backslash) (by_print (leb 32 byte && leb byte 126) refl)
  ]
]
  where
    by_print : (printable : Bool) → (leb 32 byte && leb byte 126) ≡ printable
        → IsLine (cond printable (byte ∷ []) (92 ∷ 120 ∷ hex_digit (byte / 16) ∷ hex_digit (byte % 16) ∷ []))
    by_print true test =
        let at_least = leb-true 32 byte (and_parts _ _ test).0 in
        rw (ne_eqb byte line_feed (λ same. absurd (omega arith))) refl
    by_print false test = rw (hex_digit_no_line_feed (byte / 16), hex_digit_no_line_feed (byte % 16)) refl

pub IsLine-quotation_of : (text : List ℕ) → IsLine (quotation_of text)
IsLine-quotation_of text = Lacks-append line_feed (flat_map quoted_byte text) (34 ∷ []) (each text) refl
  where
    each : (bytes : List ℕ) → IsLine (flat_map quoted_byte bytes)
    each [] = refl
    each (byte ∷ bytes) = Lacks-append line_feed (quoted_byte byte) (flat_map quoted_byte bytes) (IsLine-quoted_byte byte) (each bytes)
