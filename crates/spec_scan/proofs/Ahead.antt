-- From every place there are bytes that spell what any goals read.
use Rattle.std.proofs.Common.{◌≡◌, ℕ, ◌+◌, ◌<◌, ◌≤◌, true, false, List, [], ◌∷◌, ◌++◌, length, Some, refl, sym, ap, subst, arith, lit≤}
use Rattle.spec_model.specs.declared.token.Keyword.{Keyword}
use Rattle.spec_model.specs.declared.token.Keyword.TheVariants as words
use Rattle.spec_model.specs.declared.token.Placed.{Placed}
use Rattle.spec_model.specs.declared.token.Punctuation.{Punctuation}
use Rattle.spec_model.specs.declared.token.Punctuation.TheVariants as signs
use Rattle.spec_model.specs.declared.token.Token.{Token}
use Rattle.spec_model.specs.declared.token.Token.TheVariants as tokens
use Rattle.spec_model.specs.Canonical.{keyword_text, sign_text}
use Rattle.spec_model.specs.Spelling.{Spelled, end, blank, run, string, sign, IsRun, number, keyword, name, nothing, is_run_byte, is_whole, begins_with}
use Rattle.spec_scan.specs.declared.goal.Class.TheVariants as classes
use Rattle.spec_scan.specs.declared.goal.Goal.{Goal}
use Rattle.spec_scan.specs.declared.goal.Goal.TheVariants as goals
use Rattle.spec_scan.specs.Table.{class_of, may_end, shift}
use Rattle.spec_scan.proofs.Rest.{Rest}
use Rattle.spec_scan.proofs.Back.{LeftBehind, back, rest-le, skip}

-- Bytes from a place on, which begin with a blank where there are any, spell what the goals read.
pub record Ahead (place : ℕ) (below : List Goal) : Type 0 where
  pub bytes : List ℕ
  pub placed : List Placed
  pub spelled : Spelled place bytes placed
  pub rest : Rest place below placed
  pub apart : begins_with is_run_byte bytes ≡ false
  pub whole : (mark : Punctuation) → is_whole mark bytes ≡ true

abbrev Later : List Goal → Type 0
Later below = (place : ℕ) → Ahead place below

pub keyword_is_long : (word : Keyword) → 2 ≤ length (keyword_text word)
keyword_is_long words.Frame = lit≤ tt
keyword_is_long _ = lit≤ tt

whole_space : (mark : Punctuation) (bytes : List ℕ) → is_whole mark (32 ∷ bytes) ≡ true
whole_space signs.Becomes bytes = refl
whole_space _ bytes = refl

whole_end : (mark : Punctuation) → is_whole mark [] ≡ true
whole_end signs.Becomes = refl
whole_end _ = refl

nothing_ahead : Later []
nothing_ahead place = record {
  bytes = [];
  placed = [];
  spelled = end;
  rest = record { vals = tt; fits = tt; from = tt };
  apart = refl;
  whole = whole_end;
}

-- the rest before a token
pub before_token : (below : List Goal) (token : Token) {after : List Goal} {place early late : ℕ} {ts : List Placed}
    → shift below (class_of token) ≡ Some after
    → place ≤ early → early < late → Rest late after ts → Rest place below (record { at = early; token = token } ∷ ts)
before_token below token {after} {place} {early} {late} {ts} moves sooner later r =
    rest-le sooner (back below token later (subst (λ found. LeftBehind found late ts) (sym moves) r))

run_then : (bytes : List ℕ) (token : Token) {below after : List Goal} → IsRun bytes token → 0 < length bytes
    → shift below (class_of token) ≡ Some after
    → Later after → Later below
run_then bytes token {below} {after} is long moves later place =
    let r = later (place + 1 + length bytes) in record {
      bytes = 32 ∷ (bytes ++ r.bytes);
      placed = record { at = place + 1; token = token } ∷ r.placed;
      spelled = blank refl (run bytes is r.apart r.spelled);
      rest = before_token below token moves (omega arith) (omega arith) r.rest;
      apart = refl;
      whole = λ mark. whole_space mark (bytes ++ r.bytes);
    }

word_then : (word : Keyword) {below after : List Goal} → shift below (classes.Keyword word) ≡ Some after → Later after
    → Later below
word_then word moves later =
    run_then (keyword_text word) (tokens.Keyword word) (keyword word) (omega (arith, keyword_is_long word)) moves later

short_name : (word : Keyword) → 97 ∷ [] ≡ keyword_text word → ⊥
short_name word same = omega (arith, keyword_is_long word, ap length same)

name_then : {below after : List Goal} → shift below classes.Name ≡ Some after → Later after → Later below
name_then moves later = run_then (97 ∷ []) (tokens.Name (97 ∷ [])) (name refl short_name) (omega arith) moves later

number_then : {below after : List Goal} → shift below classes.Number ≡ Some after → Later after → Later below
number_then moves later = run_then (48 ∷ []) (tokens.Number 0) (number {run = 48 ∷ []} refl) (omega arith) moves later

sign_then : (mark : Punctuation) {below after : List Goal} → 0 < length (sign_text mark)
    → shift below (classes.Sign mark) ≡ Some after → Later after → Later below
sign_then mark {below} {after} long moves later place =
    let r = later (place + 1 + length (sign_text mark)) in record {
      bytes = 32 ∷ (sign_text mark ++ r.bytes);
      placed = record { at = place + 1; token = tokens.Sign mark } ∷ r.placed;
      spelled = blank refl (sign mark (r.whole mark) r.spelled);
      rest = before_token below (tokens.Sign mark) moves (omega arith) (omega arith) r.rest;
      apart = refl;
      whole = λ other. whole_space other (sign_text mark ++ r.bytes);
    }

text_then : {below after : List Goal} → shift below classes.Text ≡ Some after → Later after → Later below
text_then {below} {after} moves later place =
    let r = later (place + 1 + (length {A = ℕ} [] + 2)) in record {
      bytes = 32 ∷ 34 ∷ 34 ∷ r.bytes;
      placed = record { at = place + 1; token = tokens.Text [] } ∷ r.placed;
      spelled = blank refl (string [] nothing r.spelled);
      rest = before_token below (tokens.Text []) moves (omega arith) (omega arith) r.rest;
      apart = refl;
      whole = λ mark. whole_space mark (34 ∷ 34 ∷ r.bytes);
    }

skip_then : (goal : Goal) {below : List Goal} → may_end goal ≡ true → Later below → Later (goal ∷ below)
skip_then goal ends later place = let r = later place in record {
  bytes = r.bytes;
  placed = r.placed;
  spelled = r.spelled;
  rest = skip goal ends r.rest;
  apart = r.apart;
  whole = r.whole;
}

-- an empty block, behind its first token
close_then : {below : List Goal} → Later below → Later (goals.Stmts ∷ goals.Close ∷ below)
close_then later = skip_then goals.Stmts refl (sign_then signs.Close (omega arith) refl later)

open_then : {below : List Goal} → Later below → Later (goals.Open ∷ goals.Stmts ∷ goals.Close ∷ below)
open_then later = sign_then signs.Open (omega arith) refl (close_then later)

block_then : {below : List Goal} → Later below → Later (goals.Block ∷ below)
block_then later = sign_then signs.Open (omega arith) refl (close_then later)

loop_then : {below : List Goal} → Later below → Later (goals.Loop ∷ below)
loop_then later = word_then words.Loop refl (open_then later)

conns_then : {below : List Goal} → Later below → Later (goals.Conns ∷ below)
conns_then later = word_then words.Conns refl (number_then refl later)

goal_then : (goal : Goal) {below : List Goal} → Later below → Later (goal ∷ below)
goal_then goals.Spec later = word_then words.Frame refl (word_then words.Line refl (number_then refl (conns_then
    (skip_then goals.Decls refl (skip_then goals.Start refl (loop_then later))))))
goal_then goals.Framing later = word_then words.Line refl later
goal_then goals.HeaderNumber later = number_then refl later
goal_then goals.Conns later = conns_then later
goal_then goals.Decls later = skip_then goals.Decls refl later
goal_then goals.Start later = skip_then goals.Start refl later
goal_then goals.Loop later = loop_then later
goal_then goals.Block later = block_then later
goal_then goals.Stmts later = skip_then goals.Stmts refl later
goal_then goals.Chan later = name_then refl later
goal_then goals.Conn later = name_then refl later
goal_then goals.Cases later = skip_then goals.Cases refl later
goal_then goals.Other later = word_then words.Other refl (name_then refl (block_then later))
goal_then goals.Item later = text_then refl later
goal_then goals.Items later = skip_then goals.Items refl later
goal_then goals.HoleKind later = word_then words.Word refl later
goal_then goals.SendPart later = text_then refl later
goal_then goals.SendParts later = skip_then goals.SendParts refl later
goal_then goals.Alphabet later = word_then words.Hex refl later
goal_then goals.Atom later = text_then refl later
goal_then goals.Comparison later = sign_then signs.Less (omega arith) refl later
goal_then goals.Tail later = skip_then goals.Tail refl later
goal_then goals.Arm later = word_then words.Or refl (block_then later)
goal_then goals.Arms later = skip_then goals.Arms refl later
goal_then goals.Else later = skip_then goals.Else refl later
goal_then goals.Name later = name_then refl later
goal_then goals.Number later = number_then refl later
goal_then goals.Text later = text_then refl later
goal_then goals.Open later = sign_then signs.Open (omega arith) refl later
goal_then goals.Close later = sign_then signs.Close (omega arith) refl later
goal_then goals.Colon later = sign_then signs.Colon (omega arith) refl later
goal_then goals.Becomes later = sign_then signs.Becomes (omega arith) refl later

pub ahead : (below : List Goal) (place : ℕ) → Ahead place below
ahead [] place = nothing_ahead place
ahead (goal ∷ below) place = goal_then goal (λ later. ahead below later) place
