-- A layout spells its tokens.
use Rattle.std.proofs.Common.{◌≡◌, ℕ, zero, suc, ◌+◌, ◌-◌, ◌*◌, ◌≤◌, ◌==◌, Bool, true, false, not, if◌then◌else◌, List, [], ◌∷◌, ◌++◌, length, flat_map, refl, ap, sym, subst, arith, append_assoc}
use Rattle.std.specs.Prelude.{decimal, replicate}
use Rattle.std.specs.List.{AllByRecursion}
use Rattle.spec_model.specs.declared.token.Punctuation.TheVariants as signs
use Rattle.spec_model.specs.declared.token.Token.{Token}
use Rattle.spec_model.specs.declared.token.Token.TheVariants as tokens
use Rattle.spec_model.specs.Canonical.{gap, goes_on, new_line, one_space, token_text, keyword_text, sign_text, depth_behind, layout_behind, layout_of}
use Rattle.spec_model.specs.Message.{line_feed}
use Rattle.spec_model.specs.Quote.{quote_sign, quoted_byte}
use Rattle.spec_model.specs.Spelling as sp
use Rattle.spec_model.specs.Spelling.{IsRun, Spelled, begins_with, is_blank, is_run_byte, is_whole}
use Rattle.spec_model.specs.Value.{greatest}
use Rattle.spec_print.specs.Writable.{IsWritable, SpellsTokens}
use Rattle.spec_print.proofs.SpelledTokens.{written_again, decimal_is_number, text_is_quoted}

-- from each place on
record Spells (bytes : List ℕ) (all : List Token) : Type 0 where
  from : (place : ℕ) → SpellsTokens place bytes all

-- ---- gaps

blank_spells : {bytes : List ℕ} {all : List Token} (byte : ℕ) → is_blank byte ≡ true → Spells bytes all → Spells (byte ∷ bytes) all
blank_spells byte e h = record { from = λ place. let s = h.from (place + 1) in record { placed = s.placed; spelled = sp.blank e s.spelled; same = s.same } }

spaces_spell : {bytes : List ℕ} {all : List Token} (n : ℕ) → Spells bytes all → Spells (replicate n 32 ++ bytes) all
spaces_spell zero h = h
spaces_spell (suc n) h = blank_spells 32 refl (spaces_spell n h)

line_spells : {bytes : List ℕ} {all : List Token} (depth : ℕ) → Spells bytes all → Spells (new_line depth ++ bytes) all
line_spells depth h = blank_spells line_feed refl (spaces_spell (2 * depth) h)

word_gap_spells : {bytes : List ℕ} {all : List Token} (depth : ℕ) (t : Bool) → Spells bytes all → Spells ((if t then one_space else new_line depth) ++ bytes) all
word_gap_spells depth true h = blank_spells 32 refl h
word_gap_spells depth false h = line_spells depth h

gap_spells : {bytes : List ℕ} {all : List Token} (depth : ℕ) (before token : Token) → Spells bytes all → Spells (gap depth before token ++ bytes) all
gap_spells depth (tokens.Sign signs.Colon) token h = h
gap_spells depth _ (tokens.Sign signs.Colon) h = h
gap_spells depth _ (tokens.Sign signs.Close) h = line_spells (depth - 1) h
gap_spells depth (tokens.Sign signs.Open) token h = line_spells depth h
gap_spells depth _ (tokens.Keyword keyword) h = word_gap_spells depth (goes_on keyword) h
gap_spells depth _ _ h = blank_spells 32 refl h

-- ---- what stands behind a token does not lengthen it

abbrev Ends : Token → List ℕ → Type 0
Ends (tokens.Keyword keyword) rest = begins_with is_run_byte rest ≡ false
Ends (tokens.Name name) rest = begins_with is_run_byte rest ≡ false
Ends (tokens.Number number) rest = begins_with is_run_byte rest ≡ false
Ends (tokens.Text text) rest = Unit {0}
Ends (tokens.Sign sign) rest = is_whole sign rest ≡ true

run_word_ends : (depth : ℕ) (t : Bool) (rest : List ℕ) → begins_with is_run_byte ((if t then one_space else new_line depth) ++ rest) ≡ false
run_word_ends depth true rest = refl
run_word_ends depth false rest = refl

sign_word_ends : (depth : ℕ) (t : Bool) (rest : List ℕ) → not (begins_with (λ byte. byte == 61) ((if t then one_space else new_line depth) ++ rest)) ≡ true
sign_word_ends depth true rest = refl
sign_word_ends depth false rest = refl

gap_ends : (depth : ℕ) (before token : Token) (more : List ℕ) → Ends before (gap depth before token ++ (token_text token ++ more))
gap_ends depth (tokens.Text text) token more = tt
gap_ends depth (tokens.Sign signs.Becomes) (tokens.Keyword keyword) more = sign_word_ends depth (goes_on keyword) (keyword_text keyword ++ more)
gap_ends depth (tokens.Sign signs.Becomes) (tokens.Sign signs.Colon) more = refl
gap_ends depth (tokens.Sign signs.Becomes) (tokens.Sign signs.Close) more = refl
gap_ends depth (tokens.Sign signs.Becomes) _ more = refl
gap_ends depth (tokens.Sign _) token more = refl
gap_ends depth _ (tokens.Sign signs.Colon) more = refl
gap_ends depth _ (tokens.Sign signs.Close) more = refl
gap_ends depth _ (tokens.Keyword keyword) more = run_word_ends depth (goes_on keyword) (keyword_text keyword ++ more)
gap_ends depth _ _ more = refl

last_ends : (token : Token) → Ends token (line_feed ∷ [])
last_ends (tokens.Keyword keyword) = refl
last_ends (tokens.Name name) = refl
last_ends (tokens.Number number) = refl
last_ends (tokens.Text text) = tt
last_ends (tokens.Sign signs.Becomes) = refl
last_ends (tokens.Sign _) = refl

layout_ends : (depth : ℕ) (token : Token) (all : List Token) → Ends token (layout_behind depth token all)
layout_ends depth token [] = last_ends token
layout_ends depth token (next ∷ more) = gap_ends depth token next (layout_behind (depth_behind depth next) next more)

-- ---- tokens

run_spells : {bytes rest : List ℕ} {token : Token} {all : List Token} → IsRun bytes token → begins_with is_run_byte rest ≡ false → Spells rest all
    → Spells (bytes ++ rest) (token ∷ all)
run_spells {bytes = bytes} {token = token} r e h = record {
  from = λ place. let s = h.from (place + length bytes) in record {
    placed = record { at = place; token = token } ∷ s.placed;
    spelled = sp.run bytes r e s.spelled;
    same = ap (λ t. token ∷ t) s.same;
  };
}

number_run : (n : ℕ) → n ≤ greatest → IsRun (decimal n) (tokens.Number n)
number_run n fits = subst (λ m. IsRun (decimal n) (tokens.Number m)) (written_again n (omega arith)) (sp.number (decimal_is_number n fits))

token_spells : {rest : List ℕ} {all : List Token} (token : Token) → IsWritable token → Ends token rest → Spells rest all → Spells (token_text token ++ rest) (token ∷ all)
token_spells (tokens.Keyword keyword) w e h = run_spells (sp.keyword keyword) e h
token_spells (tokens.Name name) w e h = run_spells w e h
token_spells (tokens.Number number) w e h = run_spells (number_run number w) e h
token_spells {rest} {all} (tokens.Text text) w e h =
    let inside = flat_map quoted_byte text in
    subst (λ bytes. Spells (quote_sign ∷ bytes) (tokens.Text text ∷ all)) (sym (append_assoc inside (quote_sign ∷ []) rest)) (record {
      from = λ place. let s = h.from (place + (length inside + 2)) in record {
        placed = record { at = place; token = tokens.Text text } ∷ s.placed;
        spelled = sp.string inside (text_is_quoted text w) s.spelled;
        same = ap (λ t. tokens.Text text ∷ t) s.same;
      };
    })
token_spells (tokens.Sign sign) w e h = record {
  from = λ place. let s = h.from (place + length (sign_text sign)) in record {
    placed = record { at = place; token = tokens.Sign sign } ∷ s.placed;
    spelled = sp.sign sign e s.spelled;
    same = ap (λ t. tokens.Sign sign ∷ t) s.same;
  };
}

behind_spells : (depth : ℕ) (before : Token) (all : List Token) → AllByRecursion IsWritable all → Spells (layout_behind depth before all) all
behind_spells depth before [] w = blank_spells line_feed refl (record { from = λ place. record { placed = []; spelled = sp.end; same = refl } })
behind_spells depth before (token ∷ more) w =
    gap_spells depth before token (token_spells token w.0 (layout_ends (depth_behind depth token) token more) (behind_spells (depth_behind depth token) token more w.1))

pub layout_spells : (all : List Token) → AllByRecursion IsWritable all → SpellsTokens 0 (layout_of all) all
layout_spells [] w =
    let h = blank_spells line_feed refl (record { from = λ place. record { placed = []; spelled = sp.end; same = refl } }) in h.from 0
layout_spells (token ∷ more) w =
    let h = token_spells token w.0 (layout_ends (depth_behind 0 token) token more) (behind_spells (depth_behind 0 token) token more w.1) in h.from 0
