-- A tree takes its places from tokens that are laid out as its canonical spelling.
use Rattle.std.proofs.Common.{◌≡◌, ℕ, suc, ◌<◌, ◌≤◌, ◌==◌, true, false, if◌then◌else◌, Option, Some, None, List, [], ◌∷◌, refl, ap, sym, subst, ◌∙◌, arith}
use Rattle.std.proofs.lemmas.Bool.Decides.{nat_tests}
use Rattle.spec_model.specs.declared.event.Framing.{Framing}
use Rattle.spec_model.specs.declared.event.Framing.TheVariants as framings
use Rattle.spec_model.specs.declared.token.Keyword.{Keyword}
use Rattle.spec_model.specs.declared.token.Keyword.TheVariants as words
use Rattle.spec_model.specs.declared.token.Placed.{Placed}
use Rattle.spec_model.specs.declared.token.Punctuation.TheVariants as signs
use Rattle.spec_model.specs.declared.token.Token.{Token}
use Rattle.spec_model.specs.declared.token.Token.TheVariants as tokens
use Rattle.spec_model.specs.declared.tree.Alphabet.{Alphabet}
use Rattle.spec_model.specs.declared.tree.Alphabet.TheVariants as alphabets
use Rattle.spec_model.specs.declared.tree.Block.{Block, Block'}
use Rattle.spec_model.specs.declared.tree.Case.{Case'}
use Rattle.spec_model.specs.declared.tree.Chan.{Chan}
use Rattle.spec_model.specs.declared.tree.Chan.TheVariants.{Bind, From}
use Rattle.spec_model.specs.declared.tree.Cond.{Cond}
use Rattle.spec_model.specs.declared.tree.Decl.{Decl}
use Rattle.spec_model.specs.declared.tree.Expr.{Expr}
use Rattle.spec_model.specs.declared.tree.Expr.TheVariants.{Text, Num, Name}
use Rattle.spec_model.specs.declared.tree.First.{First}
use Rattle.spec_model.specs.declared.tree.First.TheVariants as firsts
use Rattle.spec_model.specs.declared.tree.HoleKind.{HoleKind}
use Rattle.spec_model.specs.declared.tree.HoleKind.TheVariants as holes
use Rattle.spec_model.specs.declared.tree.Item.{Item}
use Rattle.spec_model.specs.declared.tree.Item.TheVariants.{Lit, Hole}
use Rattle.spec_model.specs.declared.tree.Kind.{Kind}
use Rattle.spec_model.specs.declared.tree.Kind.TheVariants.{Recv', Send, Pick, Assign, If, Either', Assume, Put, Lookup, Delete}
use Rattle.spec_model.specs.declared.tree.Kind.TheBlock.{Row_of-Block, end_of-Block, more_of-Block, Row_of-Case, end_of-Case, more_of-Case, Row_of-Stmt, end_of-Stmt, more_of-Stmt}
use Rattle.spec_model.specs.declared.tree.Op.{Op}
use Rattle.spec_model.specs.declared.tree.Op.TheVariants as ops
use Rattle.spec_model.specs.declared.tree.Sign.{Sign}
use Rattle.spec_model.specs.declared.tree.Sign.TheVariants.{Plus, Minus}
use Rattle.spec_model.specs.declared.tree.Spec.{Spec}
use Rattle.spec_model.specs.Canonical.{canonical, tokens_of}
use Rattle.spec_model.specs.Grammar as gr
use Rattle.spec_model.specs.Grammar.{Piece, some, at, capped, never, Fits, kept_number}
use Rattle.spec_model.specs.Spelling as sp
use Rattle.spec_model.specs.Spelling.{IsRun, Spelled, begins_with, is_left_out}
use Rattle.spec_model.proofs.RisingPlaces.{Rises, spelled_rises}
use Rattle.spec_print.specs.Listed as li
use Rattle.spec_print.specs.Unplaced as un
use Rattle.spec_print.specs.Writable.{tokens_in}
use Rattle.spec_print.proofs.FewerBraces.{canonical_within}
use Rattle.spec_print.proofs.GoodPieces.{Good, AllGood, fits_good, spec_good, spelled_writable, canonical_spells_tokens}

-- ---- tokens that are those of pieces, at rising places

pub record State (pieces : List Piece) (from : ℕ) (ts : List Placed) : Type 0 where
  pub same : tokens_in ts ≡ tokens_of pieces
  pub good : AllGood pieces
  pub rises : Rises from ts

record Cut (token : Token) (next : List Piece) (from : ℕ) (ts : List Placed) : Type 0 where
  place : ℕ
  more : List Placed
  is : ts ≡ record { at = place; token = token } ∷ more
  le : from ≤ place
  state : State next (suc place) more

cut : (token : Token) (next : List Piece) (from : ℕ) (ts : List Placed) → tokens_in ts ≡ token ∷ tokens_of next → AllGood next → Rises from ts → Cut token next from ts
cut token next from [] e good rises = absurd cc
cut token next from (placed ∷ more) e good rises =
    let first : placed.token ≡ token = cc in
    let others : tokens_in more ≡ tokens_of next = cc in
    record {
      place = placed.at;
      more = more;
      is = ap (λ u. record { at = placed.at; token = u } ∷ more) first;
      le = rises.0;
      state = record { same = others; good = good; rises = rises.1 };
    }

-- pieces without places fit the tokens too
record Passed (pieces : List Piece → List Piece) (next : List Piece) (from : ℕ) (ts : List Placed) : Type 0 where
  rest : List Placed
  on : ℕ
  le : from ≤ on
  state : State next on rest
  fits : (other : List Piece) → Fits other rest → Fits (pieces other) ts

pass_some : (token : Token) (next : List Piece) (from : ℕ) (ts : List Placed) → State (some token ∷ next) from ts → Passed (λ n. some token ∷ n) next from ts
pass_some token next from ts h =
    let c = cut token next from ts h.same h.good.1 h.rises in
    record { rest = c.more; on = suc c.place; le = omega (arith, c.le); state = c.state; fits = λ n g. subst (λ u. Fits (some token ∷ n) u) (sym c.is) (refl, g) }

pass_capped : (number : ℕ) (next : List Piece) (from : ℕ) (ts : List Placed) → State (capped number ∷ next) from ts → Passed (λ n. capped number ∷ n) next from ts
pass_capped number next from ts h =
    let c = cut (tokens.Number number) next from ts h.same h.good.1 h.rises in
    let small : number ≤ 65535 = h.good.0 in
    let kept : kept_number number ≡ number = omega arith in
    record { rest = c.more; on = suc c.place; le = omega (arith, c.le); state = c.state; fits = λ n g. subst (λ u. Fits (capped number ∷ n) u) (sym c.is) (number, refl, kept, g) }

record IsSome (piece : Piece) : Type 0 where
  token : Token
  is : piece ≡ some token

pass : (piece : Piece) → IsSome piece → (next : List Piece) (from : ℕ) (ts : List Placed) → State (piece ∷ next) from ts → Passed (λ n. piece ∷ n) next from ts
pass piece s next from ts h =
    subst (λ p. Passed (λ n. p ∷ n) next from ts) (sym s.is) (pass_some s.token next from ts (subst (λ p. State (p ∷ next) from ts) s.is h))

pass_on : (first second : List Piece → List Piece) (next : List Piece) (from : ℕ) (ts : List Placed) → Passed first (second next) from ts
    → ((on : ℕ) (rest : List Placed) → State (second next) on rest → Passed second next on rest) → Passed (λ n. first (second n)) next from ts
pass_on first second next from ts a k =
    let b = k a.on a.rest a.state in
    record { rest = b.rest; on = b.on; le = omega (arith, a.le, b.le); state = b.state; fits = λ n g. a.fits (second n) (b.fits n g) }

pass_none : (next : List Piece) (from : ℕ) (ts : List Placed) → State next from ts → Passed (λ n. n) next from ts
pass_none next from ts h = record { rest = ts; on = from; le = omega arith; state = h; fits = λ n g. g }

atom_some : (e : Expr) → IsSome (gr.atom e)
atom_some (Text v) = record { token = tokens.Text v; is = refl }
atom_some (Num v) = record { token = tokens.Number v; is = refl }
atom_some (Name v) = record { token = tokens.Name v; is = refl }

conn_some : (e : Expr) → Good (gr.conn_of e) → IsSome (gr.conn_of e)
conn_some (Text v) h = absurd h
conn_some (Num v) h = record { token = tokens.Number v; is = refl }
conn_some (Name v) h = record { token = tokens.Name v; is = refl }

part_some : (e : Expr) → Good (gr.part e) → IsSome (gr.part e)
part_some (Text v) h = record { token = tokens.Text v; is = refl }
part_some (Num v) h = absurd h
part_some (Name v) h = record { token = tokens.Name v; is = refl }

hole_some : (k : HoleKind) → IsSome (gr.hole_kind k)
hole_some holes.Word = record { token = tokens.Keyword words.Word; is = refl }
hole_some holes.Num = record { token = tokens.Keyword words.Num; is = refl }
hole_some holes.Rest = record { token = tokens.Keyword words.Rest; is = refl }

op_some : (o : Op) → IsSome (gr.comparison o)
op_some ops.Same = record { token = tokens.Sign signs.Same; is = refl }
op_some ops.Other = record { token = tokens.Sign signs.Other; is = refl }
op_some ops.Less = record { token = tokens.Sign signs.Less; is = refl }

alphabet_some : (a : Alphabet) → IsSome (gr.alphabet_word a)
alphabet_some alphabets.Hex = record { token = tokens.Keyword words.Hex; is = refl }
alphabet_some alphabets.Alnum = record { token = tokens.Keyword words.Alnum; is = refl }
alphabet_some alphabets.Any = record { token = tokens.Keyword words.Any; is = refl }

framing_some : (f : Framing) → IsSome (gr.framing f)
framing_some framings.Line = record { token = tokens.Keyword words.Line; is = refl }
framing_some framings.Len16 = record { token = tokens.Keyword words.Len16; is = refl }

pass_parts : (es : List Expr) (next : List Piece) (from : ℕ) (ts : List Placed) → State (gr.parts es next) from ts → Passed (gr.parts es) next from ts
pass_parts [] next from ts h = pass_none next from ts h
pass_parts (e ∷ es) next from ts h =
    pass_on (λ n. gr.part e ∷ n) (gr.parts es) next from ts (pass (gr.part e) (part_some e h.good.0) (gr.parts es next) from ts h) (λ on rest s. pass_parts es next on rest s)

pass_one_at_least : {A : Type 0} (xs : List A) (pieces : List Piece → List Piece) (next : List Piece) (from : ℕ) (ts : List Placed)
    → State (gr.one_at_least xs (pieces next)) from ts → (State (pieces next) from ts → Passed pieces next from ts) → Passed (λ n. gr.one_at_least xs (pieces n)) next from ts
pass_one_at_least [] pieces next from ts h k = absurd h.good.0
pass_one_at_least (x ∷ xs) pieces next from ts h k = k h

pass_item : (i : Item) (next : List Piece) (from : ℕ) (ts : List Placed) → State (gr.item i next) from ts → Passed (gr.item i) next from ts
pass_item (Lit v) next from ts h = pass_some (tokens.Text v) next from ts h
pass_item (Hole v k) next from ts h =
    pass_on (λ n. gr.name v ∷ n) (λ n. gr.sign signs.Colon ∷ gr.hole_kind k ∷ n) next from ts (pass_some (tokens.Name v) (gr.sign signs.Colon ∷ gr.hole_kind k ∷ next) from ts h) (λ on rest s.
    pass_on (λ n. gr.sign signs.Colon ∷ n) (λ n. gr.hole_kind k ∷ n) next on rest (pass_some (tokens.Sign signs.Colon) (gr.hole_kind k ∷ next) on rest s) (λ on rest s.
    pass (gr.hole_kind k) (hole_some k) next on rest s))

pass_items : (is : List Item) (next : List Piece) (from : ℕ) (ts : List Placed) → State (gr.items is next) from ts → Passed (gr.items is) next from ts
pass_items [] next from ts h = pass_none next from ts h
pass_items (i ∷ is) next from ts h =
    pass_on (gr.item i) (gr.items is) next from ts (pass_item i (gr.items is next) from ts h) (λ on rest s. pass_items is next on rest s)

pass_cond : (c : Cond) (next : List Piece) (from : ℕ) (ts : List Placed) → State (gr.cond c next) from ts → Passed (gr.cond c) next from ts
pass_cond c next from ts h =
    pass_on (λ n. gr.atom c.left ∷ n) (λ n. gr.comparison c.op ∷ gr.atom c.right ∷ n) next from ts (pass (gr.atom c.left) (atom_some c.left) (gr.comparison c.op ∷ gr.atom c.right ∷ next) from ts h) (λ on rest s.
    pass_on (λ n. gr.comparison c.op ∷ n) (λ n. gr.atom c.right ∷ n) next on rest (pass (gr.comparison c.op) (op_some c.op) (gr.atom c.right ∷ next) on rest s) (λ on rest s.
    pass (gr.atom c.right) (atom_some c.right) next on rest s))

pass_tail : (t : Option (Sign × Expr)) (next : List Piece) (from : ℕ) (ts : List Placed) → State (gr.tail t next) from ts → Passed (gr.tail t) next from ts
pass_tail None next from ts h = pass_none next from ts h
pass_tail (Some (Plus, e)) next from ts h =
    pass_on (λ n. gr.sign signs.Plus ∷ n) (λ n. gr.atom e ∷ n) next from ts (pass_some (tokens.Sign signs.Plus) (gr.atom e ∷ next) from ts h) (λ on rest s. pass (gr.atom e) (atom_some e) next on rest s)
pass_tail (Some (Minus, e)) next from ts h =
    pass_on (λ n. gr.sign signs.Minus ∷ n) (λ n. gr.atom e ∷ n) next from ts (pass_some (tokens.Sign signs.Minus) (gr.atom e ∷ next) from ts h) (λ on rest s. pass (gr.atom e) (atom_some e) next on rest s)

pass_chan : (c : Chan) (next : List Piece) (from : ℕ) (ts : List Placed) → State (gr.chan c next) from ts → Passed (gr.chan c) next from ts
pass_chan (Bind v) next from ts h = pass_some (tokens.Name v) next from ts h
pass_chan (From e) next from ts h =
    pass_on (λ n. gr.word words.From ∷ n) (λ n. gr.conn_of e ∷ n) next from ts (pass_some (tokens.Keyword words.From) (gr.conn_of e ∷ next) from ts h) (λ on rest s.
    pass (gr.conn_of e) (conn_some e s.good.0) next on rest s)

-- ---- blocks and statements

pub record PutBlock (b : Block) (next : List Piece) (from : ℕ) (ts : List Placed) : Type 0 where
  pub tree : Block
  pub rest : List Placed
  pub on : ℕ
  pub le : from ≤ on
  pub state : State next on rest
  pub fits : (other : List Piece) → Fits other rest → Fits (gr.block is_left_out tree other) ts
  pub unplaced : un.block tree ≡ un.block b

record PutStmts {m : _} (row : Row_of-Stmt m) (next : List Piece) (from : ℕ) (ts : List Placed) : Type 0 where
  tree : Row_of-Stmt m
  rest : List Placed
  on : ℕ
  le : from ≤ on
  state : State next on rest
  fits : (other : List Piece) → Fits other rest → Fits (gr.stmts is_left_out tree other) ts
  unplaced : un.stmts tree ≡ un.stmts row

record PutCases {m : _} (row : Row_of-Case m) (next : List Piece) (from : ℕ) (ts : List Placed) : Type 0 where
  tree : Row_of-Case m
  rest : List Placed
  on : ℕ
  le : from ≤ on
  state : State next on rest
  fits : (other : List Piece) → Fits other rest → Fits (gr.cases is_left_out tree other) ts
  unplaced : un.cases tree ≡ un.cases row

record PutBlocks {m : _} (pieces : Row_of-Block m → List Piece → List Piece) (row : Row_of-Block m) (next : List Piece) (from : ℕ) (ts : List Placed) : Type 0 where
  tree : Row_of-Block m
  rest : List Placed
  on : ℕ
  le : from ≤ on
  state : State next on rest
  fits : (other : List Piece) → Fits other rest → Fits (pieces tree other) ts
  unplaced : un.blocks tree ≡ un.blocks row

record PutKind (kind : Kind) (next : List Piece) (from : ℕ) (ts : List Placed) : Type 0 where
  place : ℕ
  tree : Kind
  rest : List Placed
  on : ℕ
  le : from ≤ on
  state : State next on rest
  fits : (other : List Piece) → Fits other rest → Fits (gr.stmt is_left_out place tree other) ts
  unplaced : un.kind tree ≡ un.kind kind

-- a statement without blocks
plain_kind : (kind : Kind) (word : Keyword) (pieces : List Piece → List Piece) (next : List Piece) (from : ℕ) (ts : List Placed)
    → ((place : ℕ) (n : List Piece) → gr.stmt is_left_out place kind n ≡ at place (tokens.Keyword word) ∷ pieces n)
    → tokens_in ts ≡ tokens.Keyword word ∷ tokens_of (pieces next) → AllGood (pieces next) → Rises from ts
    → ((on : ℕ) (rest : List Placed) → State (pieces next) on rest → Passed pieces next on rest) → PutKind kind next from ts
plain_kind kind word pieces next from ts is same good rises passes =
    let c = cut (tokens.Keyword word) (pieces next) from ts same good rises in
    let p = passes (suc c.place) c.more c.state in
    record {
      place = c.place;
      tree = kind;
      rest = p.rest;
      on = p.on;
      le = omega (arith, c.le, p.le);
      state = p.state;
      fits = λ n g. subst (λ u. Fits (gr.stmt is_left_out c.place kind n) u) (sym c.is) (subst (λ ps. Fits ps (record { at = c.place; token = tokens.Keyword word } ∷ c.more)) (sym (is c.place n)) (refl, refl, p.fits n g));
      unplaced = refl;
    }

-- the block behind `else`, of a statement at this place
record PutElse (place : ℕ) {m : _} (row : Row_of-Stmt m) (next : List Piece) (from : ℕ) (ts : List Placed) : Type 0 where
  there : ℕ
  tree : Row_of-Stmt m
  rest : List Placed
  on : ℕ
  le : from ≤ on
  state : State next on rest
  fits : (other : List Piece) → Fits other rest
      → Fits (if place == there then gr.empty_else tree other else gr.word words.Else ∷ at there (tokens.Sign signs.Open) ∷ gr.stmts is_left_out tree (gr.sign signs.Close ∷ other)) ts
  unplaced : un.stmts tree ≡ un.stmts row

same_place : (place : ℕ) → (place == place) ≡ true
same_place place = grind (arith, nat_tests)

other_place : (place there : ℕ) → place < there → (place == there) ≡ false
other_place place there h = grind (arith, nat_tests)

mutual
  put_block : (b : Block) (next : List Piece) (from : ℕ) (ts : List Placed) → State (gr.block li.leaves_out b next) from ts → PutBlock b next from ts
  put_block (Block' place shape row) next from ts h =
      let behind = gr.sign signs.Close ∷ next in
      let c = cut (tokens.Sign signs.Open) (gr.stmts li.leaves_out row behind) from ts h.same h.good.1 h.rises in
      let r = put_stmts row behind (suc c.place) c.more c.state in
      let close = pass_some (tokens.Sign signs.Close) next r.on r.rest r.state in
      record {
        tree = Block' c.place shape r.tree;
        rest = close.rest;
        on = close.on;
        le = omega (arith, c.le, r.le, close.le);
        state = close.state;
        fits = λ n g. subst (λ u. Fits (gr.block is_left_out (Block' c.place shape r.tree) n) u) (sym c.is) (refl, refl, r.fits (gr.sign signs.Close ∷ n) (close.fits n g));
        unplaced = ap (λ x. Block' 0 shape x) r.unplaced;
      }

  put_stmts : {m : _} (row : Row_of-Stmt m) (next : List Piece) (from : ℕ) (ts : List Placed) → State (gr.stmts li.leaves_out row next) from ts → PutStmts row next from ts
  put_stmts end_of-Stmt next from ts h = record { tree = end_of-Stmt; rest = ts; on = from; le = omega arith; state = h; fits = λ n g. g; unplaced = refl }
  put_stmts (more_of-Stmt place kind row) next from ts h =
      let k = put_kind place kind (gr.stmts li.leaves_out row next) from ts h in
      let r = put_stmts row next k.on k.rest k.state in
      record {
        tree = more_of-Stmt k.place k.tree r.tree;
        rest = r.rest;
        on = r.on;
        le = omega (arith, k.le, r.le);
        state = r.state;
        fits = λ n g. k.fits (gr.stmts is_left_out r.tree n) (r.fits n g);
        unplaced = ap (λ x. more_of-Stmt 0 x (un.stmts r.tree)) k.unplaced ∙ ap (λ x. more_of-Stmt 0 (un.kind kind) x) r.unplaced;
      }

  put_cases : {m : _} (row : Row_of-Case m) (next : List Piece) (from : ℕ) (ts : List Placed) → State (gr.cases li.leaves_out row next) from ts → PutCases row next from ts
  put_cases end_of-Case next from ts h = record { tree = end_of-Case; rest = ts; on = from; le = omega arith; state = h; fits = λ n g. g; unplaced = refl }
  put_cases (more_of-Case (Case' pattern b) row) next from ts h =
      let others = gr.cases li.leaves_out row next in
      let inside = gr.block li.leaves_out b others in
      let word = pass_some (tokens.Keyword words.Case) (gr.one_at_least pattern (gr.items pattern inside)) from ts h in
      let items = pass_one_at_least pattern (gr.items pattern) inside word.on word.rest word.state (λ s. pass_items pattern inside word.on word.rest s) in
      let k = put_block b others items.on items.rest items.state in
      let r = put_cases row next k.on k.rest k.state in
      record {
        tree = more_of-Case (Case' pattern k.tree) r.tree;
        rest = r.rest;
        on = r.on;
        le = omega (arith, word.le, items.le, k.le, r.le);
        state = r.state;
        fits = λ n g. let ins = gr.block is_left_out k.tree (gr.cases is_left_out r.tree n) in
            word.fits (gr.one_at_least pattern (gr.items pattern ins)) (items.fits ins (k.fits (gr.cases is_left_out r.tree n) (r.fits n g)));
        unplaced = ap (λ x. more_of-Case (Case' pattern x) (un.cases r.tree)) k.unplaced ∙ ap (λ x. more_of-Case (Case' pattern (un.block b)) x) r.unplaced;
      }

  put_other_arms : {m : _} (row : Row_of-Block m) (next : List Piece) (from : ℕ) (ts : List Placed) → State (gr.other_arms li.leaves_out row next) from ts
      → PutBlocks (gr.other_arms is_left_out) row next from ts
  put_other_arms end_of-Block next from ts h = record { tree = end_of-Block; rest = ts; on = from; le = omega arith; state = h; fits = λ n g. g; unplaced = refl }
  put_other_arms (more_of-Block b row) next from ts h =
      let others = gr.other_arms li.leaves_out row next in
      let word = pass_some (tokens.Keyword words.Or) (gr.block li.leaves_out b others) from ts h in
      let k = put_block b others word.on word.rest word.state in
      let r = put_other_arms row next k.on k.rest k.state in
      record {
        tree = more_of-Block k.tree r.tree;
        rest = r.rest;
        on = r.on;
        le = omega (arith, word.le, k.le, r.le);
        state = r.state;
        fits = λ n g. let more = gr.other_arms is_left_out r.tree n in word.fits (gr.block is_left_out k.tree more) (k.fits more (r.fits n g));
        unplaced = ap (λ x. more_of-Block x (un.blocks r.tree)) k.unplaced ∙ ap (λ x. more_of-Block (un.block b) x) r.unplaced;
      }

  put_arms : {m : _} (row : Row_of-Block m) (next : List Piece) (from : ℕ) (ts : List Placed) → State (gr.arms li.leaves_out row next) from ts
      → PutBlocks (gr.arms is_left_out) row next from ts
  put_arms end_of-Block next from ts h = absurd h.good.0
  put_arms (more_of-Block b end_of-Block) next from ts h = let k = put_block b (never ∷ next) from ts h in absurd k.state.good.0
  put_arms (more_of-Block b (more_of-Block d row)) next from ts h =
      let others = gr.other_arms li.leaves_out row next in
      let k = put_block b (gr.word words.Or ∷ gr.block li.leaves_out d others) from ts h in
      let word = pass_some (tokens.Keyword words.Or) (gr.block li.leaves_out d others) k.on k.rest k.state in
      let l = put_block d others word.on word.rest word.state in
      let r = put_other_arms row next l.on l.rest l.state in
      record {
        tree = more_of-Block k.tree (more_of-Block l.tree r.tree);
        rest = r.rest;
        on = r.on;
        le = omega (arith, word.le, k.le, l.le, r.le);
        state = r.state;
        fits = λ n g. let more = gr.other_arms is_left_out r.tree n in
            k.fits (gr.word words.Or ∷ gr.block is_left_out l.tree more) (word.fits (gr.block is_left_out l.tree more) (l.fits more (r.fits n g)));
        unplaced = ap (λ x. more_of-Block x (more_of-Block (un.block l.tree) (un.blocks r.tree))) k.unplaced
            ∙ (ap (λ x. more_of-Block (un.block b) (more_of-Block x (un.blocks r.tree))) l.unplaced ∙ ap (λ x. more_of-Block (un.block b) (more_of-Block (un.block d) x)) r.unplaced);
      }

  put_else : {m : _} (place at_else : ℕ) (row : Row_of-Stmt m) (next : List Piece) (from : ℕ) (ts : List Placed) → place < from
      → State (if gr.has_none row then gr.empty_else row next else gr.word words.Else ∷ at at_else (tokens.Sign signs.Open) ∷ gr.stmts li.leaves_out row (gr.sign signs.Close ∷ next)) from ts
      → PutElse place row next from ts
  put_else place at_else end_of-Stmt next from ts before h = record {
    there = place;
    tree = end_of-Stmt;
    rest = ts;
    on = from;
    le = omega arith;
    state = h;
    fits = λ n g. rw (same_place place) g;
    unplaced = refl;
  }
  put_else place at_else (more_of-Stmt p kind row) next from ts before h =
      let all = more_of-Stmt p kind row in
      let behind = gr.sign signs.Close ∷ next in
      let word = pass_some (tokens.Keyword words.Else) (at at_else (tokens.Sign signs.Open) ∷ gr.stmts li.leaves_out all behind) from ts h in
      let c = cut (tokens.Sign signs.Open) (gr.stmts li.leaves_out all behind) word.on word.rest word.state.same word.state.good.1 word.state.rises in
      let k = put_kind p kind (gr.stmts li.leaves_out row behind) (suc c.place) c.more c.state in
      let r = put_stmts row behind k.on k.rest k.state in
      let close = pass_some (tokens.Sign signs.Close) next r.on r.rest r.state in
      let tree = more_of-Stmt k.place k.tree r.tree in
      let later = other_place place c.place (omega (arith, word.le, c.le)) in
      record {
        there = c.place;
        tree = tree;
        rest = close.rest;
        on = close.on;
        le = omega (arith, word.le, c.le, k.le, r.le, close.le);
        state = close.state;
        fits = λ n g. rw later (word.fits (at c.place (tokens.Sign signs.Open) ∷ gr.stmts is_left_out tree (gr.sign signs.Close ∷ n))
            (subst (λ u. Fits (at c.place (tokens.Sign signs.Open) ∷ gr.stmts is_left_out tree (gr.sign signs.Close ∷ n)) u) (sym c.is)
            (refl, refl, k.fits (gr.stmts is_left_out r.tree (gr.sign signs.Close ∷ n)) (r.fits (gr.sign signs.Close ∷ n) (close.fits n g)))));
        unplaced = ap (λ x. more_of-Stmt 0 x (un.stmts r.tree)) k.unplaced ∙ ap (λ x. more_of-Stmt 0 (un.kind kind) x) r.unplaced;
      }

  put_kind : (place : ℕ) (kind : Kind) (next : List Piece) (from : ℕ) (ts : List Placed) → State (gr.stmt li.leaves_out place kind next) from ts → PutKind kind next from ts
  put_kind place (Send e es) next from ts h =
      plain_kind (Send e es) words.Send (λ n. gr.conn_of e ∷ gr.one_at_least es (gr.parts es n)) next from ts (λ p n. refl) h.same h.good.1 h.rises (λ on rest s.
      pass_on (λ n. gr.conn_of e ∷ n) (λ n. gr.one_at_least es (gr.parts es n)) next on rest (pass (gr.conn_of e) (conn_some e s.good.0) (gr.one_at_least es (gr.parts es next)) on rest s) (λ on rest s.
      pass_one_at_least es (gr.parts es) next on rest s (λ s. pass_parts es next on rest s)))
  put_kind place (Pick text len a) next from ts h =
      plain_kind (Pick text len a) words.Pick (λ n. gr.name text ∷ some (tokens.Number len) ∷ gr.alphabet_word a ∷ n) next from ts (λ p n. refl) h.same h.good.1 h.rises (λ on rest s.
      pass_on (λ n. gr.name text ∷ n) (λ n. some (tokens.Number len) ∷ gr.alphabet_word a ∷ n) next on rest (pass_some (tokens.Name text) (some (tokens.Number len) ∷ gr.alphabet_word a ∷ next) on rest s) (λ on rest s.
      pass_on (λ n. some (tokens.Number len) ∷ n) (λ n. gr.alphabet_word a ∷ n) next on rest (pass_some (tokens.Number len) (gr.alphabet_word a ∷ next) on rest s) (λ on rest s.
      pass (gr.alphabet_word a) (alphabet_some a) next on rest s)))
  put_kind place (Assign text e t) next from ts h =
      plain_kind (Assign text e t) words.Set (λ n. gr.name text ∷ gr.atom e ∷ gr.tail t n) next from ts (λ p n. refl) h.same h.good.1 h.rises (λ on rest s.
      pass_on (λ n. gr.name text ∷ n) (λ n. gr.atom e ∷ gr.tail t n) next on rest (pass_some (tokens.Name text) (gr.atom e ∷ gr.tail t next) on rest s) (λ on rest s.
      pass_on (λ n. gr.atom e ∷ n) (gr.tail t) next on rest (pass (gr.atom e) (atom_some e) (gr.tail t next) on rest s) (λ on rest s.
      pass_tail t next on rest s)))
  put_kind place (Assume c) next from ts h =
      plain_kind (Assume c) words.Where (gr.cond c) next from ts (λ p n. refl) h.same h.good.1 h.rises (λ on rest s. pass_cond c next on rest s)
  put_kind place (Put table key value) next from ts h =
      plain_kind (Put table key value) words.Put (λ n. gr.name table ∷ gr.atom key ∷ gr.atom value ∷ n) next from ts (λ p n. refl) h.same h.good.1 h.rises (λ on rest s.
      pass_on (λ n. gr.name table ∷ n) (λ n. gr.atom key ∷ gr.atom value ∷ n) next on rest (pass_some (tokens.Name table) (gr.atom key ∷ gr.atom value ∷ next) on rest s) (λ on rest s.
      pass_on (λ n. gr.atom key ∷ n) (λ n. gr.atom value ∷ n) next on rest (pass (gr.atom key) (atom_some key) (gr.atom value ∷ next) on rest s) (λ on rest s.
      pass (gr.atom value) (atom_some value) next on rest s)))
  put_kind place (Delete table key) next from ts h =
      plain_kind (Delete table key) words.Del (λ n. gr.name table ∷ gr.atom key ∷ n) next from ts (λ p n. refl) h.same h.good.1 h.rises (λ on rest s.
      pass_on (λ n. gr.name table ∷ n) (λ n. gr.atom key ∷ n) next on rest (pass_some (tokens.Name table) (gr.atom key ∷ next) on rest s) (λ on rest s.
      pass (gr.atom key) (atom_some key) next on rest s))
  put_kind place (Recv' ch shape row text b) next from ts h =
      let last = gr.block li.leaves_out b (gr.sign signs.Close ∷ next) in
      let behind = gr.word words.Other ∷ gr.name text ∷ last in
      let c = cut (tokens.Keyword words.Recv) (gr.chan ch (gr.sign signs.Open ∷ gr.cases li.leaves_out row behind)) from ts h.same h.good.1 h.rises in
      let from_ = pass_chan ch (gr.sign signs.Open ∷ gr.cases li.leaves_out row behind) (suc c.place) c.more c.state in
      let opened = pass_some (tokens.Sign signs.Open) (gr.cases li.leaves_out row behind) from_.on from_.rest from_.state in
      let r = put_cases row behind opened.on opened.rest opened.state in
      let other = pass_some (tokens.Keyword words.Other) (gr.name text ∷ last) r.on r.rest r.state in
      let name = pass_some (tokens.Name text) last other.on other.rest other.state in
      let k = put_block b (gr.sign signs.Close ∷ next) name.on name.rest name.state in
      let close = pass_some (tokens.Sign signs.Close) next k.on k.rest k.state in
      record {
        place = c.place;
        tree = Recv' ch shape r.tree text k.tree;
        rest = close.rest;
        on = close.on;
        le = omega (arith, c.le, from_.le, opened.le, r.le, other.le, name.le, k.le, close.le);
        state = close.state;
        fits = λ n g. let ends = gr.block is_left_out k.tree (gr.sign signs.Close ∷ n) in
            let others = gr.word words.Other ∷ gr.name text ∷ ends in
            subst (λ u. Fits (gr.stmt is_left_out c.place (Recv' ch shape r.tree text k.tree) n) u) (sym c.is) (
              refl,
              refl,
              from_.fits (gr.sign signs.Open ∷ gr.cases is_left_out r.tree others) (opened.fits (gr.cases is_left_out r.tree others)
                  (r.fits others (other.fits (gr.name text ∷ ends) (name.fits ends (k.fits (gr.sign signs.Close ∷ n) (close.fits n g)))))),
            );
        unplaced = ap (λ x. Recv' ch shape x text (un.block k.tree)) r.unplaced ∙ ap (λ x. Recv' ch shape (un.cases row) text x) k.unplaced;
      }
  put_kind place (If test holds (Block' at_else shape row)) next from ts h =
      let otherwise = gr.else_part li.leaves_out place (Block' at_else shape row) next in
      let c = cut (tokens.Keyword words.If) (gr.cond test (gr.block li.leaves_out holds otherwise)) from ts h.same h.good.1 h.rises in
      let tested = pass_cond test (gr.block li.leaves_out holds otherwise) (suc c.place) c.more c.state in
      let k = put_block holds otherwise tested.on tested.rest tested.state in
      let e = put_else c.place at_else row next k.on k.rest (omega (arith, tested.le, k.le)) k.state in
      let fails = Block' e.there shape e.tree in
      record {
        place = c.place;
        tree = If test k.tree fails;
        rest = e.rest;
        on = e.on;
        le = omega (arith, c.le, tested.le, k.le, e.le);
        state = e.state;
        fits = λ n g. let ends = gr.else_part is_left_out c.place fails n in
            subst (λ u. Fits (gr.stmt is_left_out c.place (If test k.tree fails) n) u) (sym c.is)
            (refl, refl, tested.fits (gr.block is_left_out k.tree ends) (k.fits ends (e.fits n g)));
        unplaced = ap (λ x. If test x (Block' 0 shape (un.stmts e.tree))) k.unplaced ∙ ap (λ x. If test (un.block holds) (Block' 0 shape x)) e.unplaced;
      }
  put_kind place (Either' shape row) next from ts h =
      let c = cut (tokens.Keyword words.Either) (gr.arms li.leaves_out row next) from ts h.same h.good.1 h.rises in
      let r = put_arms row next (suc c.place) c.more c.state in
      record {
        place = c.place;
        tree = Either' shape r.tree;
        rest = r.rest;
        on = r.on;
        le = omega (arith, c.le, r.le);
        state = r.state;
        fits = λ n g. subst (λ u. Fits (gr.stmt is_left_out c.place (Either' shape r.tree) n) u) (sym c.is) (refl, refl, r.fits n g);
        unplaced = ap (λ x. Either' shape x) r.unplaced;
      }
  put_kind place (Lookup table key text found (Block' at_else shape row)) next from ts h =
      let otherwise = gr.else_part li.leaves_out place (Block' at_else shape row) next in
      let inside = gr.block li.leaves_out found otherwise in
      let c = cut (tokens.Keyword words.Get) (gr.name table ∷ gr.atom key ∷ gr.name text ∷ inside) from ts h.same h.good.1 h.rises in
      let one = pass_some (tokens.Name table) (gr.atom key ∷ gr.name text ∷ inside) (suc c.place) c.more c.state in
      let two = pass (gr.atom key) (atom_some key) (gr.name text ∷ inside) one.on one.rest one.state in
      let three = pass_some (tokens.Name text) inside two.on two.rest two.state in
      let k = put_block found otherwise three.on three.rest three.state in
      let e = put_else c.place at_else row next k.on k.rest (omega (arith, one.le, two.le, three.le, k.le)) k.state in
      let missing = Block' e.there shape e.tree in
      record {
        place = c.place;
        tree = Lookup table key text k.tree missing;
        rest = e.rest;
        on = e.on;
        le = omega (arith, c.le, one.le, two.le, three.le, k.le, e.le);
        state = e.state;
        fits = λ n g. let ends = gr.else_part is_left_out c.place missing n in
            let ins = gr.block is_left_out k.tree ends in
            subst (λ u. Fits (gr.stmt is_left_out c.place (Lookup table key text k.tree missing) n) u) (sym c.is)
            (refl, refl, one.fits (gr.atom key ∷ gr.name text ∷ ins) (two.fits (gr.name text ∷ ins) (three.fits ins (k.fits ends (e.fits n g)))));
        unplaced = ap (λ x. Lookup table key text x (Block' 0 shape (un.stmts e.tree))) k.unplaced ∙ ap (λ x. Lookup table key text (un.block found) (Block' 0 shape x)) e.unplaced;
      }

-- ---- declarations, `start` and the loop

record PutAfter (keyword : Keyword) (b : Block) (next : List Piece) (from : ℕ) (ts : List Placed) : Type 0 where
  tree : Block
  rest : List Placed
  on : ℕ
  le : from ≤ on
  state : State next on rest
  fits : (other : List Piece) → Fits other rest → Fits (gr.block_after is_left_out keyword tree other) ts
  unplaced : un.block tree ≡ un.block b

put_after : (keyword : Keyword) (b : Block) (next : List Piece) (from : ℕ) (ts : List Placed) → State (gr.block_after li.leaves_out keyword b next) from ts → PutAfter keyword b next from ts
put_after keyword (Block' place shape row) next from ts h =
    let behind = gr.sign signs.Close ∷ next in
    let c = cut (tokens.Keyword keyword) (gr.sign signs.Open ∷ gr.stmts li.leaves_out row behind) from ts h.same h.good.1 h.rises in
    let opened = pass_some (tokens.Sign signs.Open) (gr.stmts li.leaves_out row behind) (suc c.place) c.more c.state in
    let r = put_stmts row behind opened.on opened.rest opened.state in
    let close = pass_some (tokens.Sign signs.Close) next r.on r.rest r.state in
    record {
      tree = Block' c.place shape r.tree;
      rest = close.rest;
      on = close.on;
      le = omega (arith, c.le, opened.le, r.le, close.le);
      state = close.state;
      fits = λ n g. subst (λ u. Fits (gr.block_after is_left_out keyword (Block' c.place shape r.tree) n) u) (sym c.is)
          (refl, refl, opened.fits (gr.stmts is_left_out r.tree (gr.sign signs.Close ∷ n)) (r.fits (gr.sign signs.Close ∷ n) (close.fits n g)));
      unplaced = ap (λ x. Block' 0 shape x) r.unplaced;
    }

record PutStart (begin : Option Block) (next : List Piece) (from : ℕ) (ts : List Placed) : Type 0 where
  tree : Option Block
  rest : List Placed
  on : ℕ
  state : State next on rest
  fits : (other : List Piece) → Fits other rest → Fits (gr.start is_left_out tree other) ts
  unplaced : un.start tree ≡ un.start begin

put_start : (begin : Option Block) (next : List Piece) (from : ℕ) (ts : List Placed) → State (gr.start li.leaves_out begin next) from ts → PutStart begin next from ts
put_start None next from ts h = record { tree = None; rest = ts; on = from; state = h; fits = λ n g. g; unplaced = refl }
put_start (Some b) next from ts h =
    let k = put_after words.Start b next from ts h in
    record { tree = Some k.tree; rest = k.rest; on = k.on; state = k.state; fits = k.fits; unplaced = ap (λ x. Some x) k.unplaced }

record PutDecl (text : List ℕ) (first : First) (next : List Piece) (from : ℕ) (ts : List Placed) : Type 0 where
  place : ℕ
  rest : List Placed
  on : ℕ
  state : State next on rest
  fits : (other : List Piece) → Fits other rest → Fits (gr.declaration place text first other) ts

register : (word : Keyword) (text : List ℕ) (first : First) (value : Token) (next : List Piece) (from : ℕ) (ts : List Placed)
    → ((place : ℕ) (n : List Piece) → gr.declaration place text first n ≡ at place (tokens.Keyword word) ∷ gr.name text ∷ gr.sign signs.Becomes ∷ some value ∷ n)
    → State (at 0 (tokens.Keyword word) ∷ gr.name text ∷ gr.sign signs.Becomes ∷ some value ∷ next) from ts → PutDecl text first next from ts
register word text first value next from ts is h =
    let c = cut (tokens.Keyword word) (gr.name text ∷ gr.sign signs.Becomes ∷ some value ∷ next) from ts h.same h.good.1 h.rises in
    let one = pass_some (tokens.Name text) (gr.sign signs.Becomes ∷ some value ∷ next) (suc c.place) c.more c.state in
    let two = pass_some (tokens.Sign signs.Becomes) (some value ∷ next) one.on one.rest one.state in
    let three = pass_some value next two.on two.rest two.state in
    record {
      place = c.place;
      rest = three.rest;
      on = three.on;
      state = three.state;
      fits = λ n g. subst (λ u. Fits (gr.declaration c.place text first n) u) (sym c.is)
          (subst (λ ps. Fits ps (record { at = c.place; token = tokens.Keyword word } ∷ c.more)) (sym (is c.place n))
          (refl, refl, one.fits (gr.sign signs.Becomes ∷ some value ∷ n) (two.fits (some value ∷ n) (three.fits n g))));
    }

put_decl : (place : ℕ) (text : List ℕ) (first : First) (next : List Piece) (from : ℕ) (ts : List Placed) → State (gr.declaration place text first next) from ts → PutDecl text first next from ts
put_decl place text (firsts.Text v) next from ts h = register words.Text text (firsts.Text v) (tokens.Text v) next from ts (λ p n. refl) (record { same = h.same; good = h.good; rises = h.rises })
put_decl place text (firsts.Num v) next from ts h = register words.Num text (firsts.Num v) (tokens.Number v) next from ts (λ p n. refl) (record { same = h.same; good = h.good; rises = h.rises })
put_decl place text (firsts.Conn v) next from ts h = register words.Conn text (firsts.Conn v) (tokens.Number v) next from ts (λ p n. refl) (record { same = h.same; good = h.good; rises = h.rises })
put_decl place text firsts.Table next from ts h =
    let c = cut (tokens.Keyword words.Table) (gr.name text ∷ next) from ts h.same h.good.1 h.rises in
    let one = pass_some (tokens.Name text) next (suc c.place) c.more c.state in
    record {
      place = c.place;
      rest = one.rest;
      on = one.on;
      state = one.state;
      fits = λ n g. subst (λ u. Fits (gr.declaration c.place text firsts.Table n) u) (sym c.is) (refl, refl, one.fits n g);
    }

record PutDecls (ds : List Decl) (next : List Piece) (from : ℕ) (ts : List Placed) : Type 0 where
  tree : List Decl
  rest : List Placed
  on : ℕ
  state : State next on rest
  fits : (other : List Piece) → Fits other rest → Fits (gr.decls tree other) ts
  unplaced : un.decls tree ≡ un.decls ds

put_decls : (ds : List Decl) (next : List Piece) (from : ℕ) (ts : List Placed) → State (gr.decls ds next) from ts → PutDecls ds next from ts
put_decls [] next from ts h = record { tree = []; rest = ts; on = from; state = h; fits = λ n g. g; unplaced = refl }
put_decls (d ∷ ds) next from ts h =
    let k = put_decl d.at d.name d.first (gr.decls ds next) from ts h in
    let r = put_decls ds next k.on k.rest k.state in
    record {
      tree = record { at = k.place; name = d.name; first = d.first } ∷ r.tree;
      rest = r.rest;
      on = r.on;
      state = r.state;
      fits = λ n g. k.fits (gr.decls r.tree n) (r.fits n g);
      unplaced = ap (λ x. record { at = 0; name = d.name; first = d.first } ∷ x) r.unplaced;
    }

no_token_left : (rest : List Placed) → tokens_in rest ≡ [] → Fits [] rest
no_token_left [] e = tt
no_token_left (placed ∷ more) e = absurd cc

pub put_spec : (spec : Spec) (ts : List Placed) → State (gr.pieces_of_spec li.leaves_out spec) 0 ts
    → (tree : Spec) × Fits (gr.pieces_of_spec is_left_out tree) ts × (un.unplaced tree ≡ un.unplaced spec)
put_spec spec ts h =
    let body = gr.block_after li.leaves_out words.Loop spec.body [] in
    let begins = gr.start li.leaves_out spec.start body in
    let clauses = gr.decls spec.decls begins in
    let conns = at spec.conns_at (tokens.Keyword words.Conns) ∷ capped spec.shape.conns ∷ clauses in
    let c = cut (tokens.Keyword words.Frame) (gr.framing spec.shape.framing ∷ capped spec.shape.limit ∷ conns) 0 ts h.same h.good.1 h.rises in
    let one = pass (gr.framing spec.shape.framing) (framing_some spec.shape.framing) (capped spec.shape.limit ∷ conns) (suc c.place) c.more c.state in
    let two = pass_capped spec.shape.limit conns one.on one.rest one.state in
    let d = cut (tokens.Keyword words.Conns) (capped spec.shape.conns ∷ clauses) two.on two.rest two.state.same two.state.good.1 two.state.rises in
    let three = pass_capped spec.shape.conns clauses (suc d.place) d.more d.state in
    let decls = put_decls spec.decls begins three.on three.rest three.state in
    let begin = put_start spec.start body decls.on decls.rest decls.state in
    let loop = put_after words.Loop spec.body [] begin.on begin.rest begin.state in
    let tree : Spec = record { shape = spec.shape; frame_at = c.place; conns_at = d.place; decls = decls.tree; start = begin.tree; body = loop.tree } in
    let last = gr.block_after is_left_out words.Loop loop.tree [] in
    let middle = gr.start is_left_out begin.tree last in
    let all = gr.decls decls.tree middle in
    let conns_ = at d.place (tokens.Keyword words.Conns) ∷ capped spec.shape.conns ∷ all in
    let ends = decls.fits middle (begin.fits last (loop.fits [] (no_token_left loop.rest loop.state.same))) in
    let from_conns : Fits conns_ two.rest = subst (λ u. Fits conns_ u) (sym d.is) (refl, refl, three.fits all ends) in (
      tree,
      subst (λ u. Fits (gr.pieces_of_spec is_left_out tree) u) (sym c.is) (refl, refl, one.fits (capped spec.shape.limit ∷ conns_) (two.fits conns_ from_conns)),
      ap (λ x. record { shape = spec.shape; frame_at = 0; conns_at = 0; decls = x; start = un.start begin.tree; body = un.block loop.tree }) decls.unplaced
          ∙ (ap (λ x. record { shape = spec.shape; frame_at = 0; conns_at = 0; decls = un.decls spec.decls; start = x; body = un.block loop.tree }) begin.unplaced
          ∙ ap (λ x. record { shape = spec.shape; frame_at = 0; conns_at = 0; decls = un.decls spec.decls; start = un.start spec.start; body = x }) loop.unplaced),
    )

-- the canonical spelling of a tree that some text spells is one of a tree that is the same but for its places, and keeps to the
-- limit of braces where that text does
pub canonical_spells : (text : List ℕ) (spec : Spec) → (spells : sp.Spells text spec)
    → (tree : Spec) × (again : sp.Spells (canonical spec) tree) × (un.unplaced tree ≡ un.unplaced spec)
    × (sp.IsWithinBraces 0 spells.tokens → sp.IsWithinBraces 0 again.tokens)
canonical_spells text spec h =
    let s = canonical_spells_tokens text spec h in
    let good = spec_good spec (fits_good (gr.pieces_of_spec is_left_out spec) h.tokens h.fits (spelled_writable h.spelled)) in
    let put = put_spec spec s.placed (record { same = s.same; good = good; rises = spelled_rises s.spelled }) in
    (put.0, record { tokens = s.placed; spelled = s.spelled; fits = put.1 }, put.2, λ within. canonical_within spec h.tokens s.placed h.fits within s.same)
