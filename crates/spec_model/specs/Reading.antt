-- How quoted bytes are read: what the reading gives of the inside of a quotation is the text. No contract of a public function
-- cites it.
use Rattle.std.specs.Prelude.{ℕ, ◌+◌, ◌-◌, ◌*◌, ◌<◌, ◌&&◌, ◌==◌, nat_le, if◌then◌else◌, List, [], ◌∷◌}
use Rattle.spec_model.specs.declared.quote.Progress.{Progress}
use Rattle.spec_model.specs.declared.quote.Progress.TheVariants.{Between, Escape, FirstDigit, SecondDigit}
use Rattle.spec_model.specs.Quote.{backslash}

-- the value of a hexadecimal digit, and 0 for any other byte
abbrev pub hex_value : ℕ → ℕ
hex_value digit =
    if nat_le 48 digit && nat_le digit 57 then digit - 48
    else (if nat_le 97 digit && nat_le digit 102 then digit - 87 else 0)

-- the bytes of the text that are still to come
abbrev pub read_on : Progress → List ℕ → List ℕ
read_on progress [] = []
read_on Between (byte ∷ bytes) = if byte == backslash then read_on Escape bytes else byte ∷ read_on Between bytes
read_on Escape (byte ∷ bytes) = if byte == 120 then read_on FirstDigit bytes else byte ∷ read_on Between bytes
read_on FirstDigit (byte ∷ bytes) = read_on (SecondDigit (hex_value byte)) bytes
read_on (SecondDigit first) (byte ∷ bytes) = (16 * first + hex_value byte) ∷ read_on Between bytes

-- a digit's value is below 16
abbrev pub IsProgress : Progress → Type 0
IsProgress (SecondDigit first) = first < 16
IsProgress _ = Unit {0}
