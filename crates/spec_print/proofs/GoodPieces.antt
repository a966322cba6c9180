-- Where a tree is spelled by some text, each token of its canonical spelling is one that bytes spell.
use Rattle.std.proofs.Common.{◌≡◌, ℕ, ◌<◌, ◌≤◌, ◌==◌, ◌&&◌, nat_le, Bool, true, false, if◌then◌else◌, Option, Some, None, List, [], ◌∷◌, subst, arith}
use Rattle.std.specs.List.{AllByRecursion}
use Rattle.std.proofs.lemmas.Bool.Decides.{nat_tests}
use Rattle.spec_model.specs.declared.token.Keyword.{Keyword}
use Rattle.spec_model.specs.declared.token.Keyword.TheVariants as words
use Rattle.spec_model.specs.declared.token.Placed.{Placed}
use Rattle.spec_model.specs.declared.token.Punctuation.TheVariants as signs
use Rattle.spec_model.specs.declared.token.Token.{Token}
use Rattle.spec_model.specs.declared.tree.Block.{Block, Block'}
use Rattle.spec_model.specs.declared.tree.Case.{Case'}
use Rattle.spec_model.specs.declared.tree.Chan.{Chan}
use Rattle.spec_model.specs.declared.tree.Chan.TheVariants.{Bind, From}
use Rattle.spec_model.specs.declared.tree.Decl.{Decl}
use Rattle.spec_model.specs.declared.tree.Expr.{Expr}
use Rattle.spec_model.specs.declared.tree.First.{First}
use Rattle.spec_model.specs.declared.tree.First.TheVariants as firsts
use Rattle.spec_model.specs.declared.tree.Item.{Item}
use Rattle.spec_model.specs.declared.tree.Item.TheVariants.{Lit, Hole}
use Rattle.spec_model.specs.declared.tree.Kind.{Kind}
use Rattle.spec_model.specs.declared.tree.Kind.TheVariants.{Recv', Send, Pick, Assign, If, Either', Assume, Put, Lookup, Delete}
use Rattle.spec_model.specs.declared.tree.Kind.TheBlock.{Row_of-Block, end_of-Block, more_of-Block, Row_of-Case, end_of-Case, more_of-Case, Row_of-Stmt, end_of-Stmt, more_of-Stmt}
use Rattle.spec_model.specs.declared.tree.Sign.{Sign}
use Rattle.spec_model.specs.declared.tree.Sign.TheVariants.{Plus, Minus}
use Rattle.spec_model.specs.declared.tree.Spec.{Spec}
use Rattle.spec_model.specs.Canonical.{canonical, tokens_of}
use Rattle.spec_model.specs.Grammar as gr
use Rattle.spec_model.specs.Grammar.{Piece, some, at, capped, never, Fits, kept_number, pieces_of_spec}
use Rattle.spec_model.specs.Pattern.{number_written}
use Rattle.spec_model.specs.Quote.{IsText, backslash, quote_sign}
use Rattle.spec_model.specs.Spelling as sp
use Rattle.spec_model.specs.Spelling.{IsRun, IsQuoted, Spelled, Spells, is_left_out, is_number, stands_for_itself, escaped_byte}
use Rattle.spec_model.specs.Value.{greatest}
use Rattle.spec_print.specs.Listed as li
use Rattle.spec_print.specs.Writable.{IsWritable, SpellsTokens}
use Rattle.spec_print.proofs.SpelledLayouts.{layout_spells}

abbrev pub Good : Piece → Type 0
Good (some token) = IsWritable token
Good (at place token) = IsWritable token
Good (capped number) = number ≤ 65535
Good never = ⊥

abbrev pub AllGood : List Piece → Type 0
AllGood [] = Unit {0}
AllGood (piece ∷ pieces) = Good piece × AllGood pieces

-- ---- the tokens of a text are writable

last_passed : (a b : Bool) → a && b ≡ true → b ≡ true
last_passed true b e = e
last_passed false b e = absurd cc

run_writable : {bytes : List ℕ} {token : Token} → IsRun bytes token → IsWritable token
run_writable (sp.number {run} e) = small (number_written run) (last_passed _ _ e)
  where
    small : (n : ℕ) → nat_le n greatest ≡ true → n ≤ greatest
    small n h = grind (arith, nat_tests)
run_writable (sp.keyword word) = tt
run_writable (sp.name e f) = sp.name e f

itself_is_byte : (byte : ℕ) → stands_for_itself byte ≡ true → byte < 256
itself_is_byte byte e = grind (arith, nat_tests)

escape_is_byte : (letter byte : ℕ) → escaped_byte letter ≡ Some byte → byte < 256
escape_is_byte letter byte e = chosen (letter == quote_sign) (letter == backslash) (letter == 110) (letter == 114) (letter == 116) e
  where
    chosen : (a b c d f : Bool) → (if a then Some quote_sign else (if b then Some backslash else (if c then Some 10 else (if d then Some 13 else (if f then Some 9 else None))))) ≡ Some byte → byte < 256
    chosen true b c d f e = let s : quote_sign ≡ byte = cc in omega arith
    chosen false true c d f e = let s : backslash ≡ byte = cc in omega arith
    chosen false false true d f e = let s : 10 ≡ byte = cc in omega arith
    chosen false false false true f e = let s : 13 ≡ byte = cc in omega arith
    chosen false false false false true e = let s : 9 ≡ byte = cc in omega arith
    chosen false false false false false e = absurd cc

quoted_is_text : {bytes text : List ℕ} → IsQuoted bytes text → IsText text
quoted_is_text sp.nothing = tt
quoted_is_text (sp.plain {byte} e h) = (itself_is_byte byte e, quoted_is_text h)
quoted_is_text (sp.escape {letter} {byte} e h) = (escape_is_byte letter byte e, quoted_is_text h)
quoted_is_text (sp.hexadecimal {high} {low} a b h) = (omega arith, quoted_is_text h)

abbrev pub AllWritable : List Placed → Type 0
AllWritable [] = Unit {0}
AllWritable (placed ∷ more) = IsWritable placed.token × AllWritable more

pub spelled_writable : {place : ℕ} {bytes : List ℕ} {placed : List Placed} → Spelled place bytes placed → AllWritable placed
spelled_writable sp.end = tt
spelled_writable (sp.blank e h) = spelled_writable h
spelled_writable (sp.comment words e h) = spelled_writable h
spelled_writable (sp.last_comment e) = tt
spelled_writable (sp.run bytes r e h) = (run_writable r, spelled_writable h)
spelled_writable (sp.string bytes q h) = (quoted_is_text q, spelled_writable h)
spelled_writable (sp.sign mark e h) = (tt, spelled_writable h)

pub fits_good : (pieces : List Piece) (placed : List Placed) → Fits pieces placed → AllWritable placed → AllGood pieces
fits_good [] placed h w = tt
fits_good (some token ∷ pieces) [] h w = absurd h
fits_good (some token ∷ pieces) (placed ∷ more) h w = (subst IsWritable h.0 w.0, fits_good pieces more h.1 w.1)
fits_good (at place token ∷ pieces) [] h w = absurd h
fits_good (at place token ∷ pieces) (placed ∷ more) h w = (subst IsWritable h.1 w.0, fits_good pieces more h.2 w.1)
fits_good (capped number ∷ pieces) [] h w = absurd h
fits_good (capped number ∷ pieces) (placed ∷ more) h w = (small h.0 h.2, fits_good pieces more h.3 w.1)
  where
    small : (read : ℕ) → kept_number read ≡ number → number ≤ 65535
    small read e = omega arith
fits_good (never ∷ pieces) [] h w = absurd h
fits_good (never ∷ pieces) (placed ∷ more) h w = absurd h

-- ---- an empty `else` may be left out

-- the pieces are good where those behind them are, and those behind them are
record Kept (pieces : List Piece → List Piece) (next : List Piece) : Type 0 where
  good : (other : List Piece) → AllGood other → AllGood (pieces other)
  behind : AllGood next

parts_kept : (es : List Expr) (next : List Piece) → AllGood (gr.parts es next) → Kept (gr.parts es) next
parts_kept [] next h = record { good = λ n g. g; behind = h }
parts_kept (e ∷ es) next h = let k = parts_kept es next h.1 in record { good = λ n g. (h.0, k.good n g); behind = k.behind }

item_kept : (i : Item) (next : List Piece) → AllGood (gr.item i next) → Kept (gr.item i) next
item_kept (Lit text) next h = record { good = λ n g. (h.0, g); behind = h.1 }
item_kept (Hole text kind) next h = record { good = λ n g. (h.0, (tt, (h.1.1.0, g))); behind = h.1.1.1 }

items_kept : (is : List Item) (next : List Piece) → AllGood (gr.items is next) → Kept (gr.items is) next
items_kept [] next h = record { good = λ n g. g; behind = h }
items_kept (i ∷ is) next h =
    let first = item_kept i (gr.items is next) h in
    let k = items_kept is next first.behind in
    record { good = λ n g. first.good (gr.items is n) (k.good n g); behind = k.behind }

some_good : {A : Type 0} (xs : List A) (pieces : List Piece) → AllGood (gr.one_at_least xs pieces) → AllGood pieces
some_good [] pieces h = absurd h.0
some_good (x ∷ xs) pieces h = h

some_again : {A : Type 0} (xs : List A) (pieces other : List Piece) → AllGood (gr.one_at_least xs pieces) → AllGood other → AllGood (gr.one_at_least xs other)
some_again [] pieces other h g = absurd h.0
some_again (x ∷ xs) pieces other h g = g

tail_kept : (t : Option (Sign × Expr)) (next : List Piece) → AllGood (gr.tail t next) → Kept (gr.tail t) next
tail_kept None next h = record { good = λ n g. g; behind = h }
tail_kept (Some (Plus, e)) next h = record { good = λ n g. (tt, (h.1.0, g)); behind = h.1.1 }
tail_kept (Some (Minus, e)) next h = record { good = λ n g. (tt, (h.1.0, g)); behind = h.1.1 }

chan_kept : (c : Chan) (next : List Piece) → AllGood (gr.chan c next) → Kept (gr.chan c) next
chan_kept (Bind text) next h = record { good = λ n g. (h.0, g); behind = h.1 }
chan_kept (From e) next h = record { good = λ n g. (tt, (h.1.0, g)); behind = h.1.1 }

else_of_row : {m : _} (t : Bool) (row : Row_of-Stmt m) (b : Block) (next : List Piece)
    → (AllGood (gr.block is_left_out b next) → Kept (gr.block li.leaves_out b) next)
    → AllGood (if t then gr.empty_else row next else gr.word words.Else ∷ gr.block is_left_out b next)
    → Kept (λ n. if gr.has_none row then gr.empty_else row n else gr.word words.Else ∷ gr.block li.leaves_out b n) next
else_of_row true end_of-Stmt b next kept h = record { good = λ n g. g; behind = h }
else_of_row true (more_of-Stmt place kind row) b next kept h = absurd h.0
else_of_row false end_of-Stmt b next kept h = let k = kept h.1 in record { good = λ n g. g; behind = k.behind }
else_of_row false (more_of-Stmt place kind row) b next kept h = let k = kept h.1 in record { good = λ n g. (tt, k.good n g); behind = k.behind }

else_kept : (place : ℕ) (b : Block) (next : List Piece) → (AllGood (gr.block is_left_out b next) → Kept (gr.block li.leaves_out b) next)
    → AllGood (gr.else_part is_left_out place b next) → Kept (gr.else_part li.leaves_out place b) next
else_kept place (Block' there shape row) next kept h = else_of_row (place == there) row (Block' there shape row) next kept h

mutual
  block_kept : (b : Block) (next : List Piece) → AllGood (gr.block is_left_out b next) → Kept (gr.block li.leaves_out b) next
  block_kept (Block' place shape row) next h =
      let k = stmts_kept row (gr.sign signs.Close ∷ next) h.1 in
      record { good = λ n g. (tt, k.good (gr.sign signs.Close ∷ n) (tt, g)); behind = k.behind.1 }

  stmts_kept : {m : _} (row : Row_of-Stmt m) (next : List Piece) → AllGood (gr.stmts is_left_out row next) → Kept (gr.stmts li.leaves_out row) next
  stmts_kept end_of-Stmt next h = record { good = λ n g. g; behind = h }
  stmts_kept (more_of-Stmt place kind row) next h =
      let first = kind_kept place kind (gr.stmts is_left_out row next) h in
      let k = stmts_kept row next first.behind in
      record { good = λ n g. first.good (gr.stmts li.leaves_out row n) (k.good n g); behind = k.behind }

  cases_kept : {m : _} (row : Row_of-Case m) (next : List Piece) → AllGood (gr.cases is_left_out row next) → Kept (gr.cases li.leaves_out row) next
  cases_kept end_of-Case next h = record { good = λ n g. g; behind = h }
  cases_kept (more_of-Case (Case' pattern b) row) next h =
      let behind = gr.block is_left_out b (gr.cases is_left_out row next) in
      let items = items_kept pattern behind (some_good pattern (gr.items pattern behind) h.1) in
      let inside = block_kept b (gr.cases is_left_out row next) items.behind in
      let k = cases_kept row next inside.behind in
      record {
        good = λ n g. (
          tt,
          some_again pattern (gr.items pattern behind) (gr.items pattern (gr.block li.leaves_out b (gr.cases li.leaves_out row n))) h.1
              (items.good (gr.block li.leaves_out b (gr.cases li.leaves_out row n)) (inside.good (gr.cases li.leaves_out row n) (k.good n g))),
        );
        behind = k.behind;
      }

  other_arms_kept : {m : _} (row : Row_of-Block m) (next : List Piece) → AllGood (gr.other_arms is_left_out row next) → Kept (gr.other_arms li.leaves_out row) next
  other_arms_kept end_of-Block next h = record { good = λ n g. g; behind = h }
  other_arms_kept (more_of-Block b row) next h =
      let first = block_kept b (gr.other_arms is_left_out row next) h.1 in
      let k = other_arms_kept row next first.behind in
      record { good = λ n g. (tt, first.good (gr.other_arms li.leaves_out row n) (k.good n g)); behind = k.behind }

  arms_kept : {m : _} (row : Row_of-Block m) (next : List Piece) → AllGood (gr.arms is_left_out row next) → Kept (gr.arms li.leaves_out row) next
  arms_kept end_of-Block next h = absurd h.0
  arms_kept (more_of-Block b end_of-Block) next h = let first = block_kept b (never ∷ next) h in absurd first.behind.0
  arms_kept (more_of-Block b (more_of-Block c row)) next h =
      let first = block_kept b (gr.word words.Or ∷ gr.block is_left_out c (gr.other_arms is_left_out row next)) h in
      let second = block_kept c (gr.other_arms is_left_out row next) first.behind.1 in
      let k = other_arms_kept row next second.behind in
      record {
        good = λ n g. first.good (gr.word words.Or ∷ gr.block li.leaves_out c (gr.other_arms li.leaves_out row n)) (tt, second.good (gr.other_arms li.leaves_out row n) (k.good n g));
        behind = k.behind;
      }

  kind_kept : (place : ℕ) (kind : Kind) (next : List Piece) → AllGood (gr.stmt is_left_out place kind next) → Kept (gr.stmt li.leaves_out place kind) next
  kind_kept place (Recv' c shape row text b) next h =
      let rest = gr.block is_left_out b (gr.sign signs.Close ∷ next) in
      let from = chan_kept c (gr.sign signs.Open ∷ gr.cases is_left_out row (gr.word words.Other ∷ gr.name text ∷ rest)) h.1 in
      let cases = cases_kept row (gr.word words.Other ∷ gr.name text ∷ rest) from.behind.1 in
      let inside = block_kept b (gr.sign signs.Close ∷ next) cases.behind.1.1 in
      record {
        good = λ n g. let last = gr.block li.leaves_out b (gr.sign signs.Close ∷ n) in (
          tt,
          from.good (gr.sign signs.Open ∷ gr.cases li.leaves_out row (gr.word words.Other ∷ gr.name text ∷ last)) (
            tt,
            cases.good (gr.word words.Other ∷ gr.name text ∷ last) (tt, (cases.behind.1.0, inside.good (gr.sign signs.Close ∷ n) (tt, g))),
          ),
        );
        behind = inside.behind.1;
      }
  kind_kept place (Send e es) next h =
      let k = parts_kept es next (some_good es (gr.parts es next) h.1.1) in
      record { good = λ n g. (tt, (h.1.0, some_again es (gr.parts es next) (gr.parts es n) h.1.1 (k.good n g))); behind = k.behind }
  kind_kept place (Pick text len alphabet) next h = record { good = λ n g. (tt, (h.1.0, (h.1.1.0, (h.1.1.1.0, g)))); behind = h.1.1.1.1 }
  kind_kept place (Assign text e t) next h =
      let k = tail_kept t next h.1.1.1 in record { good = λ n g. (tt, (h.1.0, (h.1.1.0, k.good n g))); behind = k.behind }
  kind_kept place (If c holds fails) next h =
      let first = block_kept holds (gr.else_part is_left_out place fails next) h.1.1.1.1 in
      let k = else_kept place fails next (block_kept fails next) first.behind in
      record { good = λ n g. (tt, (h.1.0, (h.1.1.0, (h.1.1.1.0, first.good (gr.else_part li.leaves_out place fails n) (k.good n g))))); behind = k.behind }
  kind_kept place (Either' shape row) next h = let k = arms_kept row next h.1 in record { good = λ n g. (tt, k.good n g); behind = k.behind }
  kind_kept place (Assume c) next h = record { good = λ n g. (tt, (h.1.0, (h.1.1.0, (h.1.1.1.0, g)))); behind = h.1.1.1.1 }
  kind_kept place (Put table key value) next h = record { good = λ n g. (tt, (h.1.0, (h.1.1.0, (h.1.1.1.0, g)))); behind = h.1.1.1.1 }
  kind_kept place (Lookup table key text found missing) next h =
      let first = block_kept found (gr.else_part is_left_out place missing next) h.1.1.1.1 in
      let k = else_kept place missing next (block_kept missing next) first.behind in
      record { good = λ n g. (tt, (h.1.0, (h.1.1.0, (h.1.1.1.0, first.good (gr.else_part li.leaves_out place missing n) (k.good n g))))); behind = k.behind }
  kind_kept place (Delete table key) next h = record { good = λ n g. (tt, (h.1.0, (h.1.1.0, g))); behind = h.1.1.1 }

after_kept : (keyword : Keyword) (b : Block) (next : List Piece) → AllGood (gr.block_after is_left_out keyword b next) → Kept (gr.block_after li.leaves_out keyword b) next
after_kept keyword (Block' place shape row) next h =
    let k = stmts_kept row (gr.sign signs.Close ∷ next) h.1.1 in
    record { good = λ n g. (tt, (tt, k.good (gr.sign signs.Close ∷ n) (tt, g))); behind = k.behind.1 }

start_kept : (begin : Option Block) (next : List Piece) → AllGood (gr.start is_left_out begin next) → Kept (gr.start li.leaves_out begin) next
start_kept None next h = record { good = λ n g. g; behind = h }
start_kept (Some b) next h = after_kept words.Start b next h

decl_kept : (place : ℕ) (text : List ℕ) (first : First) (next : List Piece) → AllGood (gr.declaration place text first next) → Kept (gr.declaration place text first) next
decl_kept place text (firsts.Text v) next h = record { good = λ n g. (tt, (h.1.0, (tt, (h.1.1.1.0, g)))); behind = h.1.1.1.1 }
decl_kept place text (firsts.Num v) next h = record { good = λ n g. (tt, (h.1.0, (tt, (h.1.1.1.0, g)))); behind = h.1.1.1.1 }
decl_kept place text (firsts.Conn v) next h = record { good = λ n g. (tt, (h.1.0, (tt, (h.1.1.1.0, g)))); behind = h.1.1.1.1 }
decl_kept place text firsts.Table next h = record { good = λ n g. (tt, (h.1.0, g)); behind = h.1.1 }

decls_kept : (ds : List Decl) (next : List Piece) → AllGood (gr.decls ds next) → Kept (gr.decls ds) next
decls_kept [] next h = record { good = λ n g. g; behind = h }
decls_kept (d ∷ ds) next h =
    let first = decl_kept d.at d.name d.first (gr.decls ds next) h in
    let k = decls_kept ds next first.behind in
    record { good = λ n g. first.good (gr.decls ds n) (k.good n g); behind = k.behind }

pub spec_good : (spec : Spec) → AllGood (pieces_of_spec is_left_out spec) → AllGood (pieces_of_spec li.leaves_out spec)
spec_good spec h =
    let decls = decls_kept spec.decls (gr.start is_left_out spec.start (gr.block_after is_left_out words.Loop spec.body [])) h.1.1.1.1.1 in
    let begin = start_kept spec.start (gr.block_after is_left_out words.Loop spec.body []) decls.behind in
    let body = after_kept words.Loop spec.body [] begin.behind in (
      h.0,
      (
        h.1.0,
        (
          h.1.1.0,
          (
            h.1.1.1.0,
            (
              h.1.1.1.1.0,
              decls.good (gr.start li.leaves_out spec.start (gr.block_after li.leaves_out words.Loop spec.body []))
                  (begin.good (gr.block_after li.leaves_out words.Loop spec.body []) (body.good [] tt)),
            ),
          ),
        ),
      ),
    )

good_tokens : (pieces : List Piece) → AllGood pieces → AllByRecursion IsWritable (tokens_of pieces)
good_tokens [] h = tt
good_tokens (some token ∷ pieces) h = (h.0, good_tokens pieces h.1)
good_tokens (at place token ∷ pieces) h = (h.0, good_tokens pieces h.1)
good_tokens (capped number ∷ pieces) h = (within number h.0, good_tokens pieces h.1)
  where
    within : (n : ℕ) → n ≤ 65535 → n ≤ greatest
    within n e = omega arith
good_tokens (never ∷ pieces) h = absurd h.0

pub canonical_spells_tokens : (text : List ℕ) (spec : Spec) → Spells text spec → SpellsTokens 0 (canonical spec) (tokens_of (pieces_of_spec li.leaves_out spec))
unfolding canonical
canonical_spells_tokens text spec h =
    let all = spec_good spec (fits_good (pieces_of_spec is_left_out spec) h.tokens h.fits (spelled_writable h.spelled)) in
    layout_spells (tokens_of (pieces_of_spec li.leaves_out spec)) (good_tokens (pieces_of_spec li.leaves_out spec) all)
