-- Numbers that are drawn from the words of a seed. The words are those of ChaCha with 8 rounds. Definition: own.
use Rattle.std.specs.Prelude.{ℕ, ◌%◌, ◌++◌, List, replicate}
use Rattle.std.specs.Int.{w64, to_le_bytes}
use Rattle.rand_chacha.specs.ChaCha.{ChaCha, next_word, of_seed}

-- the key of a seed: its eight bytes, the lowest first, and 24 zero bytes
abbrev pub key_bytes : ℕ → List ℕ
key_bytes seed = to_le_bytes w64 seed ++ replicate 24 0

-- the words of a seed's stream of this number, from the first one on
unfoldable pub words_of : ℕ → ℕ → ChaCha
words_of seed number = record (of_seed (key_bytes seed)) { stream = number }

-- what is drawn from words, and the words that are left behind it
abbrev pub Drawing : Type 0 → Type 0
Drawing A = ChaCha → A × ChaCha

-- a number below the count: the next word modulo the count
unfoldable pub draw : ℕ → Drawing ℕ
draw count = λ words. ((next_word 4 words).0 % count, (next_word 4 words).1)

-- what is given, with nothing drawn
abbrev pub given : {A : Type 0} → A → Drawing A
given a = λ words. (a, words)

infixl 10 ◌>>=◌
-- what is drawn behind a first drawing, by what that gave
abbrev pub ◌>>=◌ : {A B : Type 0} → Drawing A → (A → Drawing B) → Drawing B
drawing >>= more = λ words. more (drawing words).0 (drawing words).1
