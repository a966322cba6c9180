-- A token that takes the place of goals, and then what these read, is what the goals in whose place they came read.
use Rattle.std.proofs.Common.{◌≡◌, ℕ, ◌+◌, ◌<◌, ◌≤◌, Bool, true, false, ◌==◌, List, [], ◌∷◌, ◌++◌, Option, Some, None, option_and_then, refl, sym, subst, arith}
use Rattle.std.proofs.lemmas.Bool.Decides.{nat_tests}
use Rattle.spec_model.specs.declared.event.Framing.TheVariants as framings
use Rattle.spec_model.specs.declared.token.Keyword.{Keyword}
use Rattle.spec_model.specs.declared.token.Keyword.TheVariants as words
use Rattle.spec_model.specs.declared.token.Placed.{Placed}
use Rattle.spec_model.specs.declared.token.Punctuation.{Punctuation}
use Rattle.spec_model.specs.declared.token.Punctuation.TheVariants as signs
use Rattle.spec_model.specs.declared.token.Token.{Token}
use Rattle.spec_model.specs.declared.token.Token.TheVariants as tokens
use Rattle.spec_model.specs.declared.tree.Alphabet.TheVariants as alphabets
use Rattle.spec_model.specs.declared.tree.Block.{Block, Block'}
use Rattle.spec_model.specs.declared.tree.Case.{Case'}
use Rattle.spec_model.specs.declared.tree.Chan.TheVariants.{Bind, From}
use Rattle.spec_model.specs.declared.tree.Expr.TheVariants as exprs
use Rattle.spec_model.specs.declared.tree.First.TheVariants as firsts
use Rattle.spec_model.specs.declared.tree.HoleKind.TheVariants as holes
use Rattle.spec_model.specs.declared.tree.Item.TheVariants.{Lit, Hole}
use Rattle.spec_model.specs.declared.tree.Kind.{Kind}
use Rattle.spec_model.specs.declared.tree.Kind.TheVariants.{Recv', Send, Pick, Assign, If, Either', Assume, Put, Lookup, Delete}
use Rattle.spec_model.specs.declared.tree.Kind.TheBlock.{more_of-Block, end_of-Block, more_of-Case, end_of-Case, more_of-Stmt, end_of-Stmt}
use Rattle.spec_model.specs.declared.tree.Op.TheVariants as ops
use Rattle.spec_model.specs.declared.tree.Sign.TheVariants.{Plus, Minus}
use Rattle.spec_model.specs.Grammar as grammar
use Rattle.spec_model.specs.Grammar.{Piece, Fits, place_of}
use Rattle.spec_model.specs.Spelling.{is_left_out}
use Rattle.spec_scan.specs.declared.goal.Goal.{Goal}
use Rattle.spec_scan.specs.declared.goal.Goal.TheVariants as goals
use Rattle.spec_scan.specs.Table.{class_of, word_rule, name_rule, number_rule, text_rule, sign_rule, rule, may_end, pushed, shift, shifts}
use Rattle.spec_scan.proofs.Rest.{Val, ValFrom, block, written_else, spell, Rest, from-le}

-- what a token leaves to be read
abbrev After : Option (List Goal) → List Goal → ℕ → List Placed → Type 0
After None below place placed = ⊥
After (Some first) below place placed = Rest place (first ++ below) placed

abbrev placed_at : ℕ → Token → Placed
placed_at place token = record { at = place; token = token }

abbrev with_stmt : ℕ → Kind → Val goals.Stmts → Val goals.Stmts
with_stmt place kind stmts = (tt ∷ stmts.0, more_of-Stmt place kind stmts.1)

abbrev else_block : ℕ → Option Block → Block
else_block place None = Block' place [] end_of-Stmt
else_block place (Some b) = b

-- an `else` that is left out, and one that has a brace behind its statement
else_same : (place late : ℕ) (b : Option Block) (next : List Piece) → place < late → ValFrom late goals.Else b
    → written_else b next ≡ grammar.else_part is_left_out place (else_block place b) next
else_same place late None next later from = let same : (place == place) ≡ true = grind (arith, nat_tests) in rw same refl
else_same place late (Some (Block' other shape row)) next later from =
    let differs : (place == other) ≡ false = grind (arith, nat_tests) in rw differs refl

spec_word : (mark : Keyword) {early late : ℕ} {below : List Goal} {ts : List Placed} → early < late
    → After (word_rule goals.Spec mark) below late ts
    → Rest early (goals.Spec ∷ below) (placed_at early (tokens.Keyword mark) ∷ ts)
spec_word words.Frame {early} {late} {below} {ts} later r =
    record { vals = (record { shape = record { framing = r.vals.0; limit = r.vals.1.0; conns = r.vals.1.1.0.1 }; frame_at = early; conns_at = r.vals.1.1.0.0; decls = r.vals.1.1.1.0; start = r.vals.1.1.1.1.0; body = r.vals.1.1.1.1.1.0 }, r.vals.1.1.1.1.1.1); fits = (refl, refl, r.fits); from = (tt, from-le below r.vals.1.1.1.1.1.1 (omega arith) r.from.1.1.1.1.1.1) }
spec_word _ later r = absurd r

framing_word : (mark : Keyword) {early late : ℕ} {below : List Goal} {ts : List Placed} → early < late
    → After (word_rule goals.Framing mark) below late ts
    → Rest early (goals.Framing ∷ below) (placed_at early (tokens.Keyword mark) ∷ ts)
framing_word words.Line {early} {late} {below} {ts} later r =
    record { vals = (framings.Line, r.vals); fits = (refl, r.fits); from = (tt, from-le below r.vals (omega arith) r.from) }
framing_word words.Len16 {early} {late} {below} {ts} later r =
    record { vals = (framings.Len16, r.vals); fits = (refl, r.fits); from = (tt, from-le below r.vals (omega arith) r.from) }
framing_word _ later r = absurd r

conns_word : (mark : Keyword) {early late : ℕ} {below : List Goal} {ts : List Placed} → early < late
    → After (word_rule goals.Conns mark) below late ts
    → Rest early (goals.Conns ∷ below) (placed_at early (tokens.Keyword mark) ∷ ts)
conns_word words.Conns {early} {late} {below} {ts} later r =
    record { vals = ((early, r.vals.0), r.vals.1); fits = (refl, refl, r.fits); from = (tt, from-le below r.vals.1 (omega arith) r.from.1) }
conns_word _ later r = absurd r

decls_word : (mark : Keyword) {early late : ℕ} {below : List Goal} {ts : List Placed} → early < late
    → After (word_rule goals.Decls mark) below late ts
    → Rest early (goals.Decls ∷ below) (placed_at early (tokens.Keyword mark) ∷ ts)
decls_word words.Text {early} {late} {below} {ts} later r =
    record { vals = (record { at = early; name = r.vals.0; first = firsts.Text r.vals.1.1.0 } ∷ r.vals.1.1.1.0, r.vals.1.1.1.1); fits = (refl, refl, r.fits); from = (tt, from-le below r.vals.1.1.1.1 (omega arith) r.from.1.1.1.1) }
decls_word words.Num {early} {late} {below} {ts} later r =
    record { vals = (record { at = early; name = r.vals.0; first = firsts.Num r.vals.1.1.0 } ∷ r.vals.1.1.1.0, r.vals.1.1.1.1); fits = (refl, refl, r.fits); from = (tt, from-le below r.vals.1.1.1.1 (omega arith) r.from.1.1.1.1) }
decls_word words.Conn {early} {late} {below} {ts} later r =
    record { vals = (record { at = early; name = r.vals.0; first = firsts.Conn r.vals.1.1.0 } ∷ r.vals.1.1.1.0, r.vals.1.1.1.1); fits = (refl, refl, r.fits); from = (tt, from-le below r.vals.1.1.1.1 (omega arith) r.from.1.1.1.1) }
decls_word words.Table {early} {late} {below} {ts} later r =
    record { vals = (record { at = early; name = r.vals.0; first = firsts.Table } ∷ r.vals.1.0, r.vals.1.1); fits = (refl, refl, r.fits); from = (tt, from-le below r.vals.1.1 (omega arith) r.from.1.1) }
decls_word _ later r = absurd r

start_word : (mark : Keyword) {early late : ℕ} {below : List Goal} {ts : List Placed} → early < late
    → After (word_rule goals.Start mark) below late ts
    → Rest early (goals.Start ∷ below) (placed_at early (tokens.Keyword mark) ∷ ts)
start_word words.Start {early} {late} {below} {ts} later r =
    record { vals = (Some (Block' early r.vals.1.0.0 r.vals.1.0.1), r.vals.1.1.1); fits = (refl, refl, r.fits); from = (tt, from-le below r.vals.1.1.1 (omega arith) r.from.1.1.1) }
start_word _ later r = absurd r

loop_word : (mark : Keyword) {early late : ℕ} {below : List Goal} {ts : List Placed} → early < late
    → After (word_rule goals.Loop mark) below late ts
    → Rest early (goals.Loop ∷ below) (placed_at early (tokens.Keyword mark) ∷ ts)
loop_word words.Loop {early} {late} {below} {ts} later r =
    record { vals = (Block' early r.vals.1.0.0 r.vals.1.0.1, r.vals.1.1.1); fits = (refl, refl, r.fits); from = (tt, from-le below r.vals.1.1.1 (omega arith) r.from.1.1.1) }
loop_word _ later r = absurd r

stmts_word : (mark : Keyword) {early late : ℕ} {below : List Goal} {ts : List Placed} → early < late
    → After (word_rule goals.Stmts mark) below late ts
    → Rest early (goals.Stmts ∷ below) (placed_at early (tokens.Keyword mark) ∷ ts)
stmts_word words.Recv {early} {late} {below} {ts} later r =
    record { vals = (with_stmt early (Recv' r.vals.0 r.vals.1.1.0.0 r.vals.1.1.0.1 r.vals.1.1.1.0.0 r.vals.1.1.1.0.1) r.vals.1.1.1.1.1.0, r.vals.1.1.1.1.1.1); fits = (refl, refl, r.fits); from = (tt, from-le below r.vals.1.1.1.1.1.1 (omega arith) r.from.1.1.1.1.1.1) }
stmts_word words.Send {early} {late} {below} {ts} later r =
    record { vals = (with_stmt early (Send r.vals.0 (r.vals.1.0 ∷ r.vals.1.1.0)) r.vals.1.1.1.0, r.vals.1.1.1.1); fits = (refl, refl, r.fits); from = (tt, from-le below r.vals.1.1.1.1 (omega arith) r.from.1.1.1.1) }
stmts_word words.Pick {early} {late} {below} {ts} later r =
    record { vals = (with_stmt early (Pick r.vals.0 r.vals.1.0 r.vals.1.1.0) r.vals.1.1.1.0, r.vals.1.1.1.1); fits = (refl, refl, r.fits); from = (tt, from-le below r.vals.1.1.1.1 (omega arith) r.from.1.1.1.1) }
stmts_word words.Set {early} {late} {below} {ts} later r =
    record { vals = (with_stmt early (Assign r.vals.0 r.vals.1.0 r.vals.1.1.0) r.vals.1.1.1.0, r.vals.1.1.1.1); fits = (refl, refl, r.fits); from = (tt, from-le below r.vals.1.1.1.1 (omega arith) r.from.1.1.1.1) }
stmts_word words.If {early} {late} {below} {ts} later r =
    record { vals = (with_stmt early (If (record { left = r.vals.0; op = r.vals.1.0; right = r.vals.1.1.0 }) r.vals.1.1.1.0 (else_block early r.vals.1.1.1.1.0)) r.vals.1.1.1.1.1.0, r.vals.1.1.1.1.1.1); fits = (refl, refl, subst (λ next. Fits (grammar.cond (record { left = r.vals.0; op = r.vals.1.0; right = r.vals.1.1.0 }) (block r.vals.1.1.1.0 next)) ts) (else_same early late r.vals.1.1.1.1.0 (grammar.stmts is_left_out r.vals.1.1.1.1.1.0.1 (spell below r.vals.1.1.1.1.1.1)) later r.from.1.1.1.1.0) r.fits); from = (tt, from-le below r.vals.1.1.1.1.1.1 (omega arith) r.from.1.1.1.1.1.1) }
stmts_word words.Either {early} {late} {below} {ts} later r =
    record { vals = (with_stmt early (Either' (tt ∷ tt ∷ r.vals.1.1.0.0) (more_of-Block r.vals.0 (more_of-Block r.vals.1.0 r.vals.1.1.0.1))) r.vals.1.1.1.0, r.vals.1.1.1.1); fits = (refl, refl, r.fits); from = (tt, from-le below r.vals.1.1.1.1 (omega arith) r.from.1.1.1.1) }
stmts_word words.Where {early} {late} {below} {ts} later r =
    record { vals = (with_stmt early (Assume (record { left = r.vals.0; op = r.vals.1.0; right = r.vals.1.1.0 })) r.vals.1.1.1.0, r.vals.1.1.1.1); fits = (refl, refl, r.fits); from = (tt, from-le below r.vals.1.1.1.1 (omega arith) r.from.1.1.1.1) }
stmts_word words.Put {early} {late} {below} {ts} later r =
    record { vals = (with_stmt early (Put r.vals.0 r.vals.1.0 r.vals.1.1.0) r.vals.1.1.1.0, r.vals.1.1.1.1); fits = (refl, refl, r.fits); from = (tt, from-le below r.vals.1.1.1.1 (omega arith) r.from.1.1.1.1) }
stmts_word words.Get {early} {late} {below} {ts} later r =
    record { vals = (with_stmt early (Lookup r.vals.0 r.vals.1.0 r.vals.1.1.0 r.vals.1.1.1.0 (else_block early r.vals.1.1.1.1.0)) r.vals.1.1.1.1.1.0, r.vals.1.1.1.1.1.1); fits = (refl, refl, subst (λ next. Fits (grammar.name r.vals.0 ∷ grammar.atom r.vals.1.0 ∷ grammar.name r.vals.1.1.0 ∷ block r.vals.1.1.1.0 next) ts) (else_same early late r.vals.1.1.1.1.0 (grammar.stmts is_left_out r.vals.1.1.1.1.1.0.1 (spell below r.vals.1.1.1.1.1.1)) later r.from.1.1.1.1.0) r.fits); from = (tt, from-le below r.vals.1.1.1.1.1.1 (omega arith) r.from.1.1.1.1.1.1) }
stmts_word words.Del {early} {late} {below} {ts} later r =
    record { vals = (with_stmt early (Delete r.vals.0 r.vals.1.0) r.vals.1.1.0, r.vals.1.1.1); fits = (refl, refl, r.fits); from = (tt, from-le below r.vals.1.1.1 (omega arith) r.from.1.1.1) }
stmts_word _ later r = absurd r

chan_word : (mark : Keyword) {early late : ℕ} {below : List Goal} {ts : List Placed} → early < late
    → After (word_rule goals.Chan mark) below late ts
    → Rest early (goals.Chan ∷ below) (placed_at early (tokens.Keyword mark) ∷ ts)
chan_word words.From {early} {late} {below} {ts} later r =
    record { vals = (From r.vals.0, r.vals.1); fits = (refl, r.fits); from = (tt, from-le below r.vals.1 (omega arith) r.from.1) }
chan_word _ later r = absurd r

cases_word : (mark : Keyword) {early late : ℕ} {below : List Goal} {ts : List Placed} → early < late
    → After (word_rule goals.Cases mark) below late ts
    → Rest early (goals.Cases ∷ below) (placed_at early (tokens.Keyword mark) ∷ ts)
cases_word words.Case {early} {late} {below} {ts} later r =
    record { vals = ((tt ∷ r.vals.1.1.1.0.0, more_of-Case (Case' (r.vals.0 ∷ r.vals.1.0) r.vals.1.1.0) r.vals.1.1.1.0.1), r.vals.1.1.1.1); fits = (refl, r.fits); from = (tt, from-le below r.vals.1.1.1.1 (omega arith) r.from.1.1.1.1) }
cases_word _ later r = absurd r

other_word : (mark : Keyword) {early late : ℕ} {below : List Goal} {ts : List Placed} → early < late
    → After (word_rule goals.Other mark) below late ts
    → Rest early (goals.Other ∷ below) (placed_at early (tokens.Keyword mark) ∷ ts)
other_word words.Other {early} {late} {below} {ts} later r =
    record { vals = ((r.vals.0, r.vals.1.0), r.vals.1.1); fits = (refl, r.fits); from = (tt, from-le below r.vals.1.1 (omega arith) r.from.1.1) }
other_word _ later r = absurd r

holekind_word : (mark : Keyword) {early late : ℕ} {below : List Goal} {ts : List Placed} → early < late
    → After (word_rule goals.HoleKind mark) below late ts
    → Rest early (goals.HoleKind ∷ below) (placed_at early (tokens.Keyword mark) ∷ ts)
holekind_word words.Word {early} {late} {below} {ts} later r =
    record { vals = (holes.Word, r.vals); fits = (refl, r.fits); from = (tt, from-le below r.vals (omega arith) r.from) }
holekind_word words.Num {early} {late} {below} {ts} later r =
    record { vals = (holes.Num, r.vals); fits = (refl, r.fits); from = (tt, from-le below r.vals (omega arith) r.from) }
holekind_word words.Rest {early} {late} {below} {ts} later r =
    record { vals = (holes.Rest, r.vals); fits = (refl, r.fits); from = (tt, from-le below r.vals (omega arith) r.from) }
holekind_word _ later r = absurd r

alphabet_word : (mark : Keyword) {early late : ℕ} {below : List Goal} {ts : List Placed} → early < late
    → After (word_rule goals.Alphabet mark) below late ts
    → Rest early (goals.Alphabet ∷ below) (placed_at early (tokens.Keyword mark) ∷ ts)
alphabet_word words.Hex {early} {late} {below} {ts} later r =
    record { vals = (alphabets.Hex, r.vals); fits = (refl, r.fits); from = (tt, from-le below r.vals (omega arith) r.from) }
alphabet_word words.Alnum {early} {late} {below} {ts} later r =
    record { vals = (alphabets.Alnum, r.vals); fits = (refl, r.fits); from = (tt, from-le below r.vals (omega arith) r.from) }
alphabet_word words.Any {early} {late} {below} {ts} later r =
    record { vals = (alphabets.Any, r.vals); fits = (refl, r.fits); from = (tt, from-le below r.vals (omega arith) r.from) }
alphabet_word _ later r = absurd r

arm_word : (mark : Keyword) {early late : ℕ} {below : List Goal} {ts : List Placed} → early < late
    → After (word_rule goals.Arm mark) below late ts
    → Rest early (goals.Arm ∷ below) (placed_at early (tokens.Keyword mark) ∷ ts)
arm_word words.Or {early} {late} {below} {ts} later r =
    record { vals = (r.vals.0, r.vals.1); fits = (refl, r.fits); from = (tt, from-le below r.vals.1 (omega arith) r.from.1) }
arm_word _ later r = absurd r

arms_word : (mark : Keyword) {early late : ℕ} {below : List Goal} {ts : List Placed} → early < late
    → After (word_rule goals.Arms mark) below late ts
    → Rest early (goals.Arms ∷ below) (placed_at early (tokens.Keyword mark) ∷ ts)
arms_word words.Or {early} {late} {below} {ts} later r =
    record { vals = ((tt ∷ r.vals.1.0.0, more_of-Block r.vals.0 r.vals.1.0.1), r.vals.1.1); fits = (refl, r.fits); from = (tt, from-le below r.vals.1.1 (omega arith) r.from.1.1) }
arms_word _ later r = absurd r

else_word : (mark : Keyword) {early late : ℕ} {below : List Goal} {ts : List Placed} → early < late
    → After (word_rule goals.Else mark) below late ts
    → Rest early (goals.Else ∷ below) (placed_at early (tokens.Keyword mark) ∷ ts)
else_word words.Else {early} {late} {below} {ts} later r =
    record { vals = (Some r.vals.0, r.vals.1); fits = (refl, r.fits); from = (omega (arith, r.from.0), from-le below r.vals.1 (omega arith) r.from.1) }
else_word _ later r = absurd r

block_sign : (mark : Punctuation) {early late : ℕ} {below : List Goal} {ts : List Placed} → early < late
    → After (sign_rule goals.Block mark) below late ts
    → Rest early (goals.Block ∷ below) (placed_at early (tokens.Sign mark) ∷ ts)
block_sign signs.Open {early} {late} {below} {ts} later r =
    record { vals = (Block' early r.vals.0.0 r.vals.0.1, r.vals.1.1); fits = (refl, refl, r.fits); from = (omega arith, from-le below r.vals.1.1 (omega arith) r.from.1.1) }
block_sign _ later r = absurd r

open_sign : (mark : Punctuation) {early late : ℕ} {below : List Goal} {ts : List Placed} → early < late
    → After (sign_rule goals.Open mark) below late ts
    → Rest early (goals.Open ∷ below) (placed_at early (tokens.Sign mark) ∷ ts)
open_sign signs.Open {early} {late} {below} {ts} later r =
    record { vals = (tt, r.vals); fits = (refl, r.fits); from = (tt, from-le below r.vals (omega arith) r.from) }
open_sign _ later r = absurd r

close_sign : (mark : Punctuation) {early late : ℕ} {below : List Goal} {ts : List Placed} → early < late
    → After (sign_rule goals.Close mark) below late ts
    → Rest early (goals.Close ∷ below) (placed_at early (tokens.Sign mark) ∷ ts)
close_sign signs.Close {early} {late} {below} {ts} later r =
    record { vals = (tt, r.vals); fits = (refl, r.fits); from = (tt, from-le below r.vals (omega arith) r.from) }
close_sign _ later r = absurd r

colon_sign : (mark : Punctuation) {early late : ℕ} {below : List Goal} {ts : List Placed} → early < late
    → After (sign_rule goals.Colon mark) below late ts
    → Rest early (goals.Colon ∷ below) (placed_at early (tokens.Sign mark) ∷ ts)
colon_sign signs.Colon {early} {late} {below} {ts} later r =
    record { vals = (tt, r.vals); fits = (refl, r.fits); from = (tt, from-le below r.vals (omega arith) r.from) }
colon_sign _ later r = absurd r

becomes_sign : (mark : Punctuation) {early late : ℕ} {below : List Goal} {ts : List Placed} → early < late
    → After (sign_rule goals.Becomes mark) below late ts
    → Rest early (goals.Becomes ∷ below) (placed_at early (tokens.Sign mark) ∷ ts)
becomes_sign signs.Becomes {early} {late} {below} {ts} later r =
    record { vals = (tt, r.vals); fits = (refl, r.fits); from = (tt, from-le below r.vals (omega arith) r.from) }
becomes_sign _ later r = absurd r

comparison_sign : (mark : Punctuation) {early late : ℕ} {below : List Goal} {ts : List Placed} → early < late
    → After (sign_rule goals.Comparison mark) below late ts
    → Rest early (goals.Comparison ∷ below) (placed_at early (tokens.Sign mark) ∷ ts)
comparison_sign signs.Same {early} {late} {below} {ts} later r =
    record { vals = (ops.Same, r.vals); fits = (refl, r.fits); from = (tt, from-le below r.vals (omega arith) r.from) }
comparison_sign signs.Other {early} {late} {below} {ts} later r =
    record { vals = (ops.Other, r.vals); fits = (refl, r.fits); from = (tt, from-le below r.vals (omega arith) r.from) }
comparison_sign signs.Less {early} {late} {below} {ts} later r =
    record { vals = (ops.Less, r.vals); fits = (refl, r.fits); from = (tt, from-le below r.vals (omega arith) r.from) }
comparison_sign _ later r = absurd r

tail_sign : (mark : Punctuation) {early late : ℕ} {below : List Goal} {ts : List Placed} → early < late
    → After (sign_rule goals.Tail mark) below late ts
    → Rest early (goals.Tail ∷ below) (placed_at early (tokens.Sign mark) ∷ ts)
tail_sign signs.Plus {early} {late} {below} {ts} later r =
    record { vals = (Some (Plus, r.vals.0), r.vals.1); fits = (refl, r.fits); from = (tt, from-le below r.vals.1 (omega arith) r.from.1) }
tail_sign signs.Minus {early} {late} {below} {ts} later r =
    record { vals = (Some (Minus, r.vals.0), r.vals.1); fits = (refl, r.fits); from = (tt, from-le below r.vals.1 (omega arith) r.from.1) }
tail_sign _ later r = absurd r

word_row : (goal : Goal) (mark : Keyword) {early late : ℕ} {below : List Goal} {ts : List Placed} → early < late
    → After (word_rule goal mark) below late ts
    → Rest early (goal ∷ below) (placed_at early (tokens.Keyword mark) ∷ ts)
word_row goals.Spec mark later r = spec_word mark later r
word_row goals.Framing mark later r = framing_word mark later r
word_row goals.Conns mark later r = conns_word mark later r
word_row goals.Decls mark later r = decls_word mark later r
word_row goals.Start mark later r = start_word mark later r
word_row goals.Loop mark later r = loop_word mark later r
word_row goals.Stmts mark later r = stmts_word mark later r
word_row goals.Chan mark later r = chan_word mark later r
word_row goals.Cases mark later r = cases_word mark later r
word_row goals.Other mark later r = other_word mark later r
word_row goals.HoleKind mark later r = holekind_word mark later r
word_row goals.Alphabet mark later r = alphabet_word mark later r
word_row goals.Arm mark later r = arm_word mark later r
word_row goals.Arms mark later r = arms_word mark later r
word_row goals.Else mark later r = else_word mark later r
word_row _ mark later r = absurd r

sign_row : (goal : Goal) (mark : Punctuation) {early late : ℕ} {below : List Goal} {ts : List Placed} → early < late
    → After (sign_rule goal mark) below late ts
    → Rest early (goal ∷ below) (placed_at early (tokens.Sign mark) ∷ ts)
sign_row goals.Block mark later r = block_sign mark later r
sign_row goals.Open mark later r = open_sign mark later r
sign_row goals.Close mark later r = close_sign mark later r
sign_row goals.Colon mark later r = colon_sign mark later r
sign_row goals.Becomes mark later r = becomes_sign mark later r
sign_row goals.Comparison mark later r = comparison_sign mark later r
sign_row goals.Tail mark later r = tail_sign mark later r
sign_row _ mark later r = absurd r

name_row : (goal : Goal) (value : List ℕ) {early late : ℕ} {below : List Goal} {ts : List Placed} → early < late
    → After (name_rule goal) below late ts
    → Rest early (goal ∷ below) (placed_at early (tokens.Name value) ∷ ts)
name_row goals.Chan value {below = below} later r =
    record { vals = (Bind value, r.vals); fits = (refl, r.fits); from = (tt, from-le below r.vals (omega arith) r.from) }
name_row goals.Conn value {below = below} later r =
    record { vals = (exprs.Name value, r.vals); fits = (refl, r.fits); from = (tt, from-le below r.vals (omega arith) r.from) }
name_row goals.Item value {below = below} later r =
    record { vals = (Hole value r.vals.1.0, r.vals.1.1); fits = (refl, r.fits); from = (tt, from-le below r.vals.1.1 (omega arith) r.from.1.1) }
name_row goals.Items value {below = below} later r =
    record { vals = (Hole value r.vals.1.0 ∷ r.vals.1.1.0, r.vals.1.1.1); fits = (refl, r.fits); from = (tt, from-le below r.vals.1.1.1 (omega arith) r.from.1.1.1) }
name_row goals.SendPart value {below = below} later r =
    record { vals = (exprs.Name value, r.vals); fits = (refl, r.fits); from = (tt, from-le below r.vals (omega arith) r.from) }
name_row goals.SendParts value {below = below} later r =
    record { vals = (exprs.Name value ∷ r.vals.0, r.vals.1); fits = (refl, r.fits); from = (tt, from-le below r.vals.1 (omega arith) r.from.1) }
name_row goals.Atom value {below = below} later r =
    record { vals = (exprs.Name value, r.vals); fits = (refl, r.fits); from = (tt, from-le below r.vals (omega arith) r.from) }
name_row goals.Name value {below = below} later r =
    record { vals = (value, r.vals); fits = (refl, r.fits); from = (tt, from-le below r.vals (omega arith) r.from) }
name_row _ value later r = absurd r

number_row : (goal : Goal) (value : ℕ) {early late : ℕ} {below : List Goal} {ts : List Placed} → early < late
    → After (number_rule goal) below late ts
    → Rest early (goal ∷ below) (placed_at early (tokens.Number value) ∷ ts)
number_row goals.HeaderNumber value {below = below} later r =
    record { vals = (grammar.kept_number value, r.vals); fits = (value, refl, refl, r.fits); from = (tt, from-le below r.vals (omega arith) r.from) }
number_row goals.Conn value {below = below} later r =
    record { vals = (exprs.Num value, r.vals); fits = (refl, r.fits); from = (tt, from-le below r.vals (omega arith) r.from) }
number_row goals.Atom value {below = below} later r =
    record { vals = (exprs.Num value, r.vals); fits = (refl, r.fits); from = (tt, from-le below r.vals (omega arith) r.from) }
number_row goals.Number value {below = below} later r =
    record { vals = (value, r.vals); fits = (refl, r.fits); from = (tt, from-le below r.vals (omega arith) r.from) }
number_row _ value later r = absurd r

text_row : (goal : Goal) (value : List ℕ) {early late : ℕ} {below : List Goal} {ts : List Placed} → early < late
    → After (text_rule goal) below late ts
    → Rest early (goal ∷ below) (placed_at early (tokens.Text value) ∷ ts)
text_row goals.Item value {below = below} later r =
    record { vals = (Lit value, r.vals); fits = (refl, r.fits); from = (tt, from-le below r.vals (omega arith) r.from) }
text_row goals.Items value {below = below} later r =
    record { vals = (Lit value ∷ r.vals.0, r.vals.1); fits = (refl, r.fits); from = (tt, from-le below r.vals.1 (omega arith) r.from.1) }
text_row goals.SendPart value {below = below} later r =
    record { vals = (exprs.Text value, r.vals); fits = (refl, r.fits); from = (tt, from-le below r.vals (omega arith) r.from) }
text_row goals.SendParts value {below = below} later r =
    record { vals = (exprs.Text value ∷ r.vals.0, r.vals.1); fits = (refl, r.fits); from = (tt, from-le below r.vals.1 (omega arith) r.from.1) }
text_row goals.Atom value {below = below} later r =
    record { vals = (exprs.Text value, r.vals); fits = (refl, r.fits); from = (tt, from-le below r.vals (omega arith) r.from) }
text_row goals.Text value {below = below} later r =
    record { vals = (value, r.vals); fits = (refl, r.fits); from = (tt, from-le below r.vals (omega arith) r.from) }
text_row _ value later r = absurd r

row : (goal : Goal) (token : Token) {early late : ℕ} {below : List Goal} {ts : List Placed} → early < late
    → After (rule goal (class_of token)) below late ts
    → Rest early (goal ∷ below) (placed_at early token ∷ ts)
row goal (tokens.Keyword word) later r = word_row goal word later r
row goal (tokens.Name text) later r = name_row goal text later r
row goal (tokens.Number number) later r = number_row goal number later r
row goal (tokens.Text text) later r = text_row goal text later r
row goal (tokens.Sign sign) later r = sign_row goal sign later r

-- nothing is what these read
pub skip : (goal : Goal) {early : ℕ} {below : List Goal} {ts : List Placed} → may_end goal ≡ true → Rest early below ts
    → Rest early (goal ∷ below) ts
skip goals.Decls ends r = record { vals = ([], r.vals); fits = r.fits; from = (tt, r.from) }
skip goals.Start ends r = record { vals = (None, r.vals); fits = r.fits; from = (tt, r.from) }
skip goals.Stmts ends r = record { vals = (([], end_of-Stmt), r.vals); fits = r.fits; from = (tt, r.from) }
skip goals.Cases ends r = record { vals = (([], end_of-Case), r.vals); fits = r.fits; from = (tt, r.from) }
skip goals.Items ends r = record { vals = ([], r.vals); fits = r.fits; from = (tt, r.from) }
skip goals.SendParts ends r = record { vals = ([], r.vals); fits = r.fits; from = (tt, r.from) }
skip goals.Tail ends r = record { vals = (None, r.vals); fits = r.fits; from = (tt, r.from) }
skip goals.Arms ends r = record { vals = (([], end_of-Block), r.vals); fits = r.fits; from = (tt, r.from) }
skip goals.Else ends r = record { vals = (None, r.vals); fits = r.fits; from = (tt, r.from) }
skip _ ends r = absurd cc

-- what is left of goals behind a token
abbrev pub LeftBehind : Option (List Goal) → ℕ → List Placed → Type 0
LeftBehind None late ts = ⊥
LeftBehind (Some goals) late ts = Rest late goals ts

tried : (goal : Goal) (token : Token) {early late : ℕ} {below : List Goal} {ts : List Placed} (found : Option (List Goal)) (ends : Bool) → early < late
    → rule goal (class_of token) ≡ found → may_end goal ≡ ends
    → (LeftBehind (shift below (class_of token)) late ts → Rest early below (placed_at early token ∷ ts))
    → LeftBehind (pushed found ends below (shift below (class_of token))) late ts
    → Rest early (goal ∷ below) (placed_at early token ∷ ts)
tried goal token {early} {late} {below} {ts} (Some first) ends later is may later_goals r =
    row goal token later (subst (λ found. After found below late ts) (sym is) r)
tried goal token None true later is may later_goals r = skip goal may (later_goals r)
tried goal token None false later is may later_goals r = absurd r

pub back : (below : List Goal) (token : Token) {early late : ℕ} {ts : List Placed} → early < late
    → LeftBehind (shift below (class_of token)) late ts
    → Rest early below (placed_at early token ∷ ts)
back [] token later r = absurd r
back (goal ∷ below) token later r =
    tried goal token (rule goal (class_of token)) (may_end goal) later refl refl (λ left. back below token later left) r

-- The tokens stand behind one another, from a place on, and before another place.
abbrev pub Rising : ℕ → ℕ → List Placed → Type 0
Rising early late [] = early ≤ late
Rising early late (placed ∷ more) = (early ≤ placed.at) × Rising (placed.at + 1) late more

pub rest-le : {early late : ℕ} {below : List Goal} {ts : List Placed} → early ≤ late → Rest late below ts → Rest early below ts
rest-le {below = below} sooner r = record { vals = r.vals; fits = r.fits; from = from-le below r.vals sooner r.from }

pub shifted_on : (found : Option (List Goal)) (more : List Placed) {after : List Goal}
    → option_and_then (shifts more) found ≡ Some after
    → (first : List Goal) × (found ≡ Some first) × (shifts more first ≡ Some after)
shifted_on None more is = absurd cc
shifted_on (Some first) more is = (first, refl, is)

-- Tokens that leave goals, and then what these read, are what the goals before them read.
pub rest_of : (ts : List Placed) (below : List Goal) {after : List Goal} (early late : ℕ) (more : List Placed)
    → shifts ts below ≡ Some after → Rising early late ts
    → Rest late after more → Rest early below (ts ++ more)
rest_of [] below early late more is rising r =
    let same : below ≡ _ = cc in subst (λ goals. Rest early goals more) (sym same) (rest-le rising r)
rest_of (placed ∷ ts) below {after} early late more is rising r =
    let split = shifted_on (shift below (class_of placed.token)) ts is in
    let later = rest_of ts split.0 (placed.at + 1) late more split.2 rising.1 r in
    rest-le rising.0 (back below placed.token (omega arith) (subst (λ found. LeftBehind found (placed.at + 1) (ts ++ more)) (sym split.1) later))
