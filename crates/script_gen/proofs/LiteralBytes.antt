-- The bytes that literals and fills are made of may stand in messages.
use Rattle.std.proofs.Common.{◌≡◌, ℕ, zero, suc, ◌+◌, ◌<◌, Bool, true, ◌&&◌, List, [], ◌∷◌, take, replicate, refl, arith}
use Rattle.std.specs.List.{list_all}
use Rattle.std.proofs.lemmas.Bool.Decides.{nat_tests}
use Rattle.rand_chacha.specs.ChaCha.{ChaCha}
use Rattle.spec_model.specs.declared.event.Framing.{Framing}
use Rattle.spec_model.specs.declared.event.Framing.TheVariants.{Line, Len16}
use Rattle.spec_model.specs.Message.{may_stand_in_message}
use Rattle.spec_model.proofs.Partial.{both_passed}
use Rattle.script_gen.specs.Parts.{letters}
use Rattle.script_gen.specs.Words.{draw}
use Rattle.script_gen.proofs.Draws.{draw-below}

pub both_pass : (a b : Bool) → a ≡ true → b ≡ true → (a && b) ≡ true
both_pass a b one other = rw (one, other) refl

-- a byte from a space on, and below 128
plain_stands : (framing : Framing) (byte : ℕ) → 31 < byte → byte < 128 → may_stand_in_message framing byte ≡ true
plain_stands Line byte low high = grind (arith, nat_tests)
plain_stands Len16 byte low high = grind (arith, nat_tests)

pub letters_stand : (framing : Framing) (count : ℕ) (words : ChaCha) → list_all (may_stand_in_message framing) (letters count words).0 ≡ true
unfolding letters
letters_stand framing zero words = refl
letters_stand framing (suc count) words =
    let letter = draw-below 26 words (omega arith) in
    both_pass _ _ (plain_stands framing (97 + (draw 26 words).0) (omega arith) (omega arith)) (letters_stand framing count (draw 26 words).1)

pub zeros_stand : (framing : Framing) (count : ℕ) → list_all (may_stand_in_message framing) (replicate count 48) ≡ true
zeros_stand framing zero = refl
zeros_stand framing (suc count) = both_pass _ _ (plain_stands framing 48 (omega arith) (omega arith)) (zeros_stand framing count)

-- what is left of a text that is cut
pub cut_stands : (framing : Framing) (room : ℕ) (text : List ℕ) → list_all (may_stand_in_message framing) text ≡ true
    → list_all (may_stand_in_message framing) (take room text) ≡ true
cut_stands framing zero text all = refl
cut_stands framing (suc room) [] all = refl
cut_stands framing (suc room) (byte ∷ text) all =
    let both = both_passed (may_stand_in_message framing byte) (list_all (may_stand_in_message framing) text) all in
    both_pass _ _ both.0 (cut_stands framing room text both.1)
