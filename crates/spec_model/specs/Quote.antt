-- How texts are written between quotes.
use Rattle.std.specs.Prelude.{ℕ, ◌<◌, ◌/◌, ◌%◌, false, ◌==◌, ◌&&◌, nat_le, if◌then◌else◌, List, [], ◌∷◌, ◌++◌, flat_map}
use Rattle.std.specs.Fmt.{digit_glyph}
use Rattle.std.specs.List.{AllByRecursion}

abbrev pub quote_sign : ℕ
quote_sign = 34

abbrev pub backslash : ℕ
backslash = 92

-- a digit of hexadecimal numbers: 0-9, and then a-f
abbrev pub hex_digit : ℕ → ℕ
hex_digit value = digit_glyph false value

-- Printable ASCII stands for itself, but `"` and `\` have a `\` before them; every other byte is `\x` and two digits.
abbrev pub quoted_byte : ℕ → List ℕ
quoted_byte byte =
    if byte == quote_sign then backslash ∷ quote_sign ∷ []
    else (if byte == backslash then backslash ∷ backslash ∷ []
    else (if nat_le 32 byte && nat_le byte 126 then byte ∷ []
    else backslash ∷ 120 ∷ hex_digit (byte / 16) ∷ hex_digit (byte % 16) ∷ []))

-- the one spelling of a text between quotes
abbrev pub quotation_of : List ℕ → List ℕ
quotation_of text = quote_sign ∷ (flat_map quoted_byte text ++ quote_sign ∷ [])

-- a text: a list of bytes
abbrev pub IsText : List ℕ → Type 0
IsText text = AllByRecursion (λ byte. byte < 256) text
