-- The places of the tokens ascend in a text that spells them.
use Rattle.std.proofs.Common.{◌≡◌, ℕ, suc, ◌+◌, ◌<◌, ◌≤◌, true, List, [], ◌∷◌, length, arith}
use Rattle.spec_model.specs.declared.token.Keyword.{Keyword}
use Rattle.spec_model.specs.declared.token.Keyword.TheVariants as words
use Rattle.spec_model.specs.declared.token.Placed.{Placed}
use Rattle.spec_model.specs.declared.token.Punctuation.{Punctuation}
use Rattle.spec_model.specs.declared.token.Punctuation.TheVariants as signs
use Rattle.spec_model.specs.declared.token.Token.{Token}
use Rattle.spec_model.specs.Canonical.{keyword_text, sign_text}
use Rattle.spec_model.specs.Spelling as sp
use Rattle.spec_model.specs.Spelling.{IsRun, Spelled}

-- No place is below this one, and each is above the one before it.
abbrev pub Rises : ℕ → List Placed → Type 0
Rises from [] = Unit {0}
Rises from (placed ∷ more) = (from ≤ placed.at) × Rises (suc placed.at) more

-- places that rise from a later one on rise from this one on
sooner : (low high : ℕ) (ts : List Placed) → low ≤ high → Rises high ts → Rises low ts
sooner low high [] le h = tt
sooner low high (placed ∷ more) le h = (omega (arith, h.0), h.1)

-- no token is empty
number_length : (run : List ℕ) → sp.is_number run ≡ true → 0 < length run
number_length [] e = absurd cc
number_length (byte ∷ run) e = omega arith

name_length : (run : List ℕ) → sp.is_word run ≡ true → 0 < length run
name_length [] e = absurd cc
name_length (byte ∷ run) e = omega arith

word_length : (word : Keyword) → 0 < length (keyword_text word)
word_length words.Frame = omega arith
word_length words.Line = omega arith
word_length words.Len16 = omega arith
word_length words.Conns = omega arith
word_length words.Text = omega arith
word_length words.Num = omega arith
word_length words.Conn = omega arith
word_length words.Table = omega arith
word_length words.Start = omega arith
word_length words.Loop = omega arith
word_length words.Recv = omega arith
word_length words.From = omega arith
word_length words.Case = omega arith
word_length words.Other = omega arith
word_length words.Send = omega arith
word_length words.Pick = omega arith
word_length words.Hex = omega arith
word_length words.Alnum = omega arith
word_length words.Any = omega arith
word_length words.Set = omega arith
word_length words.If = omega arith
word_length words.Else = omega arith
word_length words.Either = omega arith
word_length words.Or = omega arith
word_length words.Where = omega arith
word_length words.Put = omega arith
word_length words.Get = omega arith
word_length words.Del = omega arith
word_length words.Word = omega arith
word_length words.Rest = omega arith

run_length : {bytes : List ℕ} {token : Token} → IsRun bytes token → 0 < length bytes
run_length (sp.number {run} e) = number_length run e
run_length (sp.keyword word) = word_length word
run_length (sp.name {run} e f) = name_length run e

sign_length : (mark : Punctuation) → 0 < length (sign_text mark)
sign_length signs.Open = omega arith
sign_length signs.Close = omega arith
sign_length signs.Colon = omega arith
sign_length signs.Becomes = omega arith
sign_length signs.Same = omega arith
sign_length signs.Other = omega arith
sign_length signs.Less = omega arith
sign_length signs.Plus = omega arith
sign_length signs.Minus = omega arith

pub spelled_rises : {place : ℕ} {bytes : List ℕ} {placed : List Placed} → Spelled place bytes placed → Rises place placed
spelled_rises sp.end = tt
spelled_rises (sp.blank {place} {more = more} e h) = sooner place (place + 1) more (omega arith) (spelled_rises h)
spelled_rises (sp.comment {place} {more = more} words e h) = sooner place (place + (length words + 2)) more (omega arith) (spelled_rises h)
spelled_rises (sp.last_comment e) = tt
spelled_rises (sp.run {place} {more = more} bytes r e h) =
    let some = run_length r in (omega arith, sooner (suc place) (place + length bytes) more (omega arith) (spelled_rises h))
spelled_rises (sp.string {place} {more = more} bytes q h) = (omega arith, sooner (suc place) (place + (length bytes + 2)) more (omega arith) (spelled_rises h))
spelled_rises (sp.sign {place} {more = more} mark e h) =
    let some = sign_length mark in (omega arith, sooner (suc place) (place + length (sign_text mark)) more (omega arith) (spelled_rises h))
