-- A quoted text is read back.
use Rattle.std.proofs.Common.{◌≡◌, ℕ, suc, get_or, ◌+◌, ◌*◌, ◌/◌, ◌%◌, ◌<◌, ◌&&◌, ◌==◌, nat_le, if◌then◌else◌, Bool, true, false, List, [], ◌∷◌, ◌++◌, flat_map, refl, sym, ◌∙◌, ap, arith}
use Rattle.std.proofs.lemmas.Bool.{eqb-true}
use Rattle.std.proofs.lemmas.Bool.Decides.{nat_tests}
use Rattle.spec_model.specs.declared.quote.Progress.TheVariants.{Between}
use Rattle.spec_model.specs.Quote.{IsText, backslash, hex_digit, quote_sign, quoted_byte}
use Rattle.spec_model.specs.Reading.{hex_value, read_on}

-- a digit is read back
hex_value-hex_digit : (value : ℕ) → value < 16 → hex_value (hex_digit value) ≡ value
hex_value-hex_digit value small = grind (arith, nat_tests)

-- a byte is read back, whichever of its spellings is chosen by these tests
read_on-chosen : (byte : ℕ) (rest : List ℕ) (is_quote is_backslash is_plain : Bool) → byte < 256 → (byte == quote_sign) ≡ is_quote → (byte == backslash) ≡ is_backslash
    → read_on Between ((if is_quote then backslash ∷ quote_sign ∷ [] else (if is_backslash then backslash ∷ backslash ∷ []
    else (if is_plain then byte ∷ [] else backslash ∷ 120 ∷ hex_digit (byte / 16) ∷ hex_digit (byte % 16) ∷ []))) ++ rest) ≡ byte ∷ read_on Between rest
read_on-chosen byte rest true is_backslash is_plain small quote slash = ap (λ b. b ∷ read_on Between rest) (sym (eqb-true byte quote_sign quote))
read_on-chosen byte rest false true is_plain small quote slash = ap (λ b. b ∷ read_on Between rest) (sym (eqb-true byte backslash slash))
read_on-chosen byte rest false false true small quote slash = rw slash refl
read_on-chosen byte rest false false false small quote slash =
    let high = hex_value-hex_digit (byte / 16) (omega arith) in
    let low = hex_value-hex_digit (byte % 16) (omega arith) in
    let whole : 16 * hex_value (hex_digit (byte / 16)) + hex_value (hex_digit (byte % 16)) ≡ byte = rw (high, low) (omega arith) in
    ap (λ b. b ∷ read_on Between rest) whole

read_on-quoted_byte : (byte : ℕ) (rest : List ℕ) → byte < 256 → read_on Between (quoted_byte byte ++ rest) ≡ byte ∷ read_on Between rest
read_on-quoted_byte byte rest small = read_on-chosen byte rest _ _ (nat_le 32 byte && nat_le byte 126) small refl refl

-- the inside of a quotation is read back to its text
pub read_on-quoted : (text : List ℕ) → IsText text → read_on Between (flat_map quoted_byte text) ≡ text
read_on-quoted [] bytes = refl
read_on-quoted (byte ∷ text) bytes =
    read_on-quoted_byte byte (flat_map quoted_byte text) bytes.0 ∙ ap (λ later. byte ∷ later) (read_on-quoted text bytes.1)

-- a list of bytes is a text
pub text_of_bytes : (text : List ℕ) → ((place : ℕ) → get_or text place 0 < 256) → IsText text
text_of_bytes [] fits = tt
text_of_bytes (byte ∷ text) fits = (fits 0, text_of_bytes text (λ place. fits (suc place)))
