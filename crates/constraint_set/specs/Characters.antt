-- The characters of the alphabets in order, and the texts over them.
use Rattle.std.specs.Prelude.{ℕ, zero, suc, ◌+◌, ◌/◌, ◌%◌, ◌^◌, nat_lt, if◌then◌else◌, List, [], ◌∷◌, ◌++◌}
use Rattle.spec_model.specs.declared.event.Framing.{Framing}
use Rattle.spec_model.specs.declared.event.Framing.TheVariants.{Line, Len16}
use Rattle.spec_model.specs.declared.tree.Alphabet.{Alphabet}
use Rattle.spec_model.specs.declared.tree.Alphabet.TheVariants.{Hex, Alnum, Any}

-- the number of characters
abbrev pub size_of : Framing → Alphabet → ℕ
size_of framing Hex = 16
size_of framing Alnum = 62
size_of Line Any = 255
size_of Len16 Any = 256

-- The characters by their number, in the order of their bytes: 0-9 and a-f; 0-9, A-Z and a-z; every byte, and in `line`
-- framing every byte but LF.
abbrev pub character : Framing → Alphabet → ℕ → ℕ
character framing Hex number = if nat_lt number 10 then number + 48 else number + 87
character framing Alnum number = if nat_lt number 10 then number + 48 else (if nat_lt number 36 then number + 55 else number + 61)
character Line Any number = if nat_lt number 10 then number else number + 1
character Len16 Any number = number

-- how many texts of a length there are over an alphabet
abbrev pub texts_count : Framing → Alphabet → ℕ → ℕ
texts_count framing alphabet len = size_of framing alphabet ^ len

-- The texts of a length over an alphabet by their number, in the order of their bytes.
abbrev pub text_numbered : Framing → Alphabet → ℕ → ℕ → List ℕ
text_numbered framing alphabet zero number = []
text_numbered framing alphabet (suc len) number =
    text_numbered framing alphabet len (number / size_of framing alphabet)
    ++ character framing alphabet (number % size_of framing alphabet) ∷ []

-- the alphabet that has no more characters; of two alphabets one has all characters of the other
abbrev pub narrower : Alphabet → Alphabet → Alphabet
narrower Hex b = Hex
narrower Alnum Hex = Hex
narrower Alnum b = Alnum
narrower Any b = b
