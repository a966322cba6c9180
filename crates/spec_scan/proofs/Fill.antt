-- The tokens of every tree run through the table.
use Rattle.std.proofs.Common.{◌≡◌, ℕ, Bool, true, false, if◌then◌else◌, List, [], ◌∷◌, ◌++◌, Option, Some, None, option_and_then, refl, ap, ◌∙◌}
use Rattle.spec_model.specs.declared.event.Framing.{Framing}
use Rattle.spec_model.specs.declared.event.Framing.TheVariants as framings
use Rattle.spec_model.specs.declared.token.Keyword.{Keyword}
use Rattle.spec_model.specs.declared.token.Keyword.TheVariants as words
use Rattle.spec_model.specs.declared.token.Placed.{Placed}
use Rattle.spec_model.specs.declared.token.Punctuation.TheVariants as signs
use Rattle.spec_model.specs.declared.token.Token.{Token}
use Rattle.spec_model.specs.declared.token.Token.TheVariants as tokens
use Rattle.spec_model.specs.declared.tree.Alphabet.{Alphabet}
use Rattle.spec_model.specs.declared.tree.Alphabet.TheVariants as alphabets
use Rattle.spec_model.specs.declared.tree.Block.{Block, Block'}
use Rattle.spec_model.specs.declared.tree.Case.{Case, Case'}
use Rattle.spec_model.specs.declared.tree.Chan.{Chan}
use Rattle.spec_model.specs.declared.tree.Chan.TheVariants.{Bind, From}
use Rattle.spec_model.specs.declared.tree.Cond.{Cond}
use Rattle.spec_model.specs.declared.tree.Decl.{Decl}
use Rattle.spec_model.specs.declared.tree.Expr.{Expr}
use Rattle.spec_model.specs.declared.tree.Expr.TheVariants.{Text, Num, Name}
use Rattle.spec_model.specs.declared.tree.First.{First}
use Rattle.spec_model.specs.declared.tree.First.TheVariants as firsts
use Rattle.spec_model.specs.declared.tree.HoleKind.{HoleKind}
use Rattle.spec_model.specs.declared.tree.HoleKind.TheVariants as holes
use Rattle.spec_model.specs.declared.tree.Item.{Item}
use Rattle.spec_model.specs.declared.tree.Item.TheVariants.{Lit, Hole}
use Rattle.spec_model.specs.declared.tree.Kind.{Kind}
use Rattle.spec_model.specs.declared.tree.Kind.TheVariants.{Recv', Send, Pick, Assign, If, Either', Assume, Put, Lookup, Delete}
use Rattle.spec_model.specs.declared.tree.Kind.TheBlock.{Row_of-Block, end_of-Block, more_of-Block, Row_of-Case, end_of-Case, more_of-Case, Row_of-Stmt, end_of-Stmt, more_of-Stmt}
use Rattle.spec_model.specs.declared.tree.Op.{Op}
use Rattle.spec_model.specs.declared.tree.Op.TheVariants as ops
use Rattle.spec_model.specs.declared.tree.Sign.{Sign}
use Rattle.spec_model.specs.declared.tree.Sign.TheVariants.{Plus, Minus}
use Rattle.spec_model.specs.declared.tree.Spec.{Spec}
use Rattle.spec_model.specs.Grammar as gr
use Rattle.spec_model.specs.Grammar.{Piece, some, at, capped, never, Fits, empty_else, pieces_of_spec}
use Rattle.spec_scan.specs.declared.goal.Class.TheVariants as classes
use Rattle.spec_scan.specs.declared.goal.Goal.{Goal}
use Rattle.spec_scan.specs.declared.goal.Goal.TheVariants as goals
use Rattle.spec_scan.specs.Table.{class_of, word_rule, shift, shifts}

-- Tokens that fit the pieces leave nothing of the goals.
pub record Fill (below : List Goal) (pieces : List Piece) : Type 0 where
  pub run : (ts : List Placed) → Fits pieces ts → shifts ts below ≡ Some []

run_on : (below after : List Goal) (token other : Token) (next : List Piece) (ts : List Placed)
    → shift below (class_of token) ≡ Some after → Fill after next
    → other ≡ token → Fits next ts → option_and_then (shifts ts) (shift below (class_of other)) ≡ Some []
run_on below after token other next ts moves fill same fits =
    ap (λ token. option_and_then (shifts ts) (shift below (class_of token))) same ∙ ap (option_and_then (shifts ts)) moves
    ∙ fill.run ts fits

take_some : {below after : List Goal} {next : List Piece} (token : Token) → shift below (class_of token) ≡ Some after
    → Fill after next → Fill below (some token ∷ next)
take_some {below} {after} {next} token moves fill = record { run = go }
  where
    go : (ts : List Placed) → Fits (some token ∷ next) ts → shifts ts below ≡ Some []
    go [] fits = absurd fits
    go (placed ∷ ts) fits = run_on below after token placed.token next ts moves fill fits.0 fits.1

take_at : {below after : List Goal} {next : List Piece} (place : ℕ) (token : Token) → shift below (class_of token) ≡ Some after
    → Fill after next
    → Fill below (at place token ∷ next)
take_at {below} {after} {next} place token moves fill = record { run = go }
  where
    go : (ts : List Placed) → Fits (at place token ∷ next) ts → shifts ts below ≡ Some []
    go [] fits = absurd fits
    go (placed ∷ ts) fits = run_on below after token placed.token next ts moves fill fits.1 fits.2

take_capped : {below after : List Goal} {next : List Piece} {number : ℕ} → shift below classes.Number ≡ Some after
    → Fill after next
    → Fill below (capped number ∷ next)
take_capped {below} {after} {next} {number} moves fill = record { run = go }
  where
    go : (ts : List Placed) → Fits (capped number ∷ next) ts → shifts ts below ≡ Some []
    go [] fits = absurd fits
    go (placed ∷ ts) fits = run_on below after (tokens.Number fits.0) placed.token next ts moves fill fits.1 fits.3

take_never : {below : List Goal} {next : List Piece} → Fill below (never ∷ next)
take_never {below} {next} = record { run = go }
  where
    go : (ts : List Placed) → Fits (never ∷ next) ts → shifts ts below ≡ Some []
    go [] fits = absurd fits
    go (placed ∷ ts) fits = absurd fits

take_end : Fill [] []
take_end = record { run = go }
  where
    go : (ts : List Placed) → Fits [] ts → shifts ts [] ≡ Some []
    go [] fits = refl
    go (placed ∷ ts) fits = absurd fits

atom_fill : (e : Expr) {below : List Goal} {next : List Piece} → Fill below next → Fill (goals.Atom ∷ below) (gr.atom e ∷ next)
atom_fill (Text text) fill = take_some (tokens.Text text) refl fill
atom_fill (Num number) fill = take_some (tokens.Number number) refl fill
atom_fill (Name text) fill = take_some (tokens.Name text) refl fill

conn_fill : (e : Expr) {below : List Goal} {next : List Piece} → Fill below next → Fill (goals.Conn ∷ below) (gr.conn_of e ∷ next)
conn_fill (Text text) fill = take_never
conn_fill (Num number) fill = take_some (tokens.Number number) refl fill
conn_fill (Name text) fill = take_some (tokens.Name text) refl fill

part_fill : (e : Expr) {below : List Goal} {next : List Piece} → Fill below next
    → Fill (goals.SendPart ∷ below) (gr.part e ∷ next)
part_fill (Text text) fill = take_some (tokens.Text text) refl fill
part_fill (Num number) fill = take_never
part_fill (Name text) fill = take_some (tokens.Name text) refl fill

parts_fill : (es : List Expr) {below : List Goal} {next : List Piece} → Fill (goals.SendParts ∷ below) next
    → Fill (goals.SendParts ∷ below) (gr.parts es next)
parts_fill [] fill = fill
parts_fill (Text text ∷ es) fill = take_some (tokens.Text text) refl (parts_fill es fill)
parts_fill (Num number ∷ es) fill = take_never
parts_fill (Name text ∷ es) fill = take_some (tokens.Name text) refl (parts_fill es fill)

some_parts_fill : (es : List Expr) {below : List Goal} {next : List Piece} → Fill (goals.SendParts ∷ below) next
    → Fill (goals.SendPart ∷ goals.SendParts ∷ below) (gr.one_at_least es (gr.parts es next))
some_parts_fill [] fill = take_never
some_parts_fill (e ∷ es) fill = part_fill e (parts_fill es fill)

hole_fill : (kind : HoleKind) {below : List Goal} {next : List Piece} → Fill below next
    → Fill (goals.HoleKind ∷ below) (gr.hole_kind kind ∷ next)
hole_fill holes.Word fill = take_some (tokens.Keyword words.Word) refl fill
hole_fill holes.Num fill = take_some (tokens.Keyword words.Num) refl fill
hole_fill holes.Rest fill = take_some (tokens.Keyword words.Rest) refl fill

item_fill : (i : Item) {below : List Goal} {next : List Piece} → Fill below next → Fill (goals.Item ∷ below) (gr.item i next)
item_fill (Lit text) fill = take_some (tokens.Text text) refl fill
item_fill (Hole text kind) fill =
    take_some (tokens.Name text) refl (take_some (tokens.Sign signs.Colon) refl (hole_fill kind fill))

items_fill : (is : List Item) {below : List Goal} {next : List Piece} → Fill (goals.Items ∷ below) next
    → Fill (goals.Items ∷ below) (gr.items is next)
items_fill [] fill = fill
items_fill (Lit text ∷ is) fill = take_some (tokens.Text text) refl (items_fill is fill)
items_fill (Hole text kind ∷ is) fill =
    take_some (tokens.Name text) refl (take_some (tokens.Sign signs.Colon) refl (hole_fill kind (items_fill is fill)))

some_items_fill : (is : List Item) {below : List Goal} {next : List Piece} → Fill (goals.Items ∷ below) next
    → Fill (goals.Item ∷ goals.Items ∷ below) (gr.one_at_least is (gr.items is next))
some_items_fill [] fill = take_never
some_items_fill (i ∷ is) fill = item_fill i (items_fill is fill)

comparison_fill : (op : Op) {below : List Goal} {next : List Piece} → Fill below next
    → Fill (goals.Comparison ∷ below) (gr.comparison op ∷ next)
comparison_fill ops.Same fill = take_some (tokens.Sign signs.Same) refl fill
comparison_fill ops.Other fill = take_some (tokens.Sign signs.Other) refl fill
comparison_fill ops.Less fill = take_some (tokens.Sign signs.Less) refl fill

cond_fill : (c : Cond) {below : List Goal} {next : List Piece} → Fill below next
    → Fill (goals.Atom ∷ goals.Comparison ∷ goals.Atom ∷ below) (gr.cond c next)
cond_fill c fill = atom_fill c.left (comparison_fill c.op (atom_fill c.right fill))

alphabet_fill : (alphabet : Alphabet) {below : List Goal} {next : List Piece} → Fill below next
    → Fill (goals.Alphabet ∷ below) (gr.alphabet_word alphabet ∷ next)
alphabet_fill alphabets.Hex fill = take_some (tokens.Keyword words.Hex) refl fill
alphabet_fill alphabets.Alnum fill = take_some (tokens.Keyword words.Alnum) refl fill
alphabet_fill alphabets.Any fill = take_some (tokens.Keyword words.Any) refl fill

chan_fill : (c : Chan) {below : List Goal} {next : List Piece} → Fill below next → Fill (goals.Chan ∷ below) (gr.chan c next)
chan_fill (Bind text) fill = take_some (tokens.Name text) refl fill
chan_fill (From e) fill = take_some (tokens.Keyword words.From) refl (conn_fill e fill)

framing_fill : (f : Framing) {below : List Goal} {next : List Piece} → Fill below next
    → Fill (goals.Framing ∷ below) (gr.framing f ∷ next)
framing_fill framings.Line fill = take_some (tokens.Keyword words.Line) refl fill
framing_fill framings.Len16 fill = take_some (tokens.Keyword words.Len16) refl fill

declaration_fill : (f : First) (place : ℕ) (name : List ℕ) {below : List Goal} {next : List Piece}
    → Fill (goals.Decls ∷ below) next
    → Fill (goals.Decls ∷ below) (gr.declaration place name f next)
declaration_fill (firsts.Text value) place name fill =
    take_at place (tokens.Keyword words.Text) refl (take_some (tokens.Name name) refl (take_some (tokens.Sign signs.Becomes) refl (take_some (tokens.Text value) refl fill)))
declaration_fill (firsts.Num value) place name fill =
    take_at place (tokens.Keyword words.Num) refl (take_some (tokens.Name name) refl (take_some (tokens.Sign signs.Becomes) refl (take_some (tokens.Number value) refl fill)))
declaration_fill (firsts.Conn value) place name fill =
    take_at place (tokens.Keyword words.Conn) refl (take_some (tokens.Name name) refl (take_some (tokens.Sign signs.Becomes) refl (take_some (tokens.Number value) refl fill)))
declaration_fill firsts.Table place name fill =
    take_at place (tokens.Keyword words.Table) refl (take_some (tokens.Name name) refl fill)

decls_fill : (ds : List Decl) {below : List Goal} {next : List Piece} → Fill (goals.Decls ∷ below) next
    → Fill (goals.Decls ∷ below) (gr.decls ds next)
decls_fill [] fill = fill
decls_fill (d ∷ ds) fill = declaration_fill d.first d.at d.name (decls_fill ds fill)

-- the goals that may be passed over in front of the next statement
data Soft : Type 0 where
  none_left : Soft
  parts_left : Soft
  tail_left : Soft
  else_left : Soft
  arms_left : Soft

abbrev front : Soft → List Goal → List Goal
front none_left below = goals.Stmts ∷ below
front parts_left below = goals.SendParts ∷ goals.Stmts ∷ below
front tail_left below = goals.Tail ∷ goals.Stmts ∷ below
front else_left below = goals.Else ∷ goals.Stmts ∷ below
front arms_left below = goals.Arms ∷ goals.Stmts ∷ below

stmt_word : (soft : Soft) (keyword : Keyword) (below : List Goal) {first : List Goal} → word_rule goals.Stmts keyword ≡ Some first
    → word_rule goals.Else keyword ≡ None → word_rule goals.Arms keyword ≡ None
    → shift (front soft below) (classes.Keyword keyword) ≡ Some (first ++ below)
stmt_word none_left keyword below is other arms = rw is refl
stmt_word parts_left keyword below is other arms = rw is refl
stmt_word tail_left keyword below is other arms = rw is refl
stmt_word else_left keyword below is other arms = rw (other, is) refl
stmt_word arms_left keyword below is other arms = rw (arms, is) refl

close_fill : (soft : Soft) {below : List Goal} {next : List Piece} → Fill below next
    → Fill (front soft (goals.Close ∷ below)) (gr.sign signs.Close ∷ next)
close_fill none_left fill = take_some (tokens.Sign signs.Close) refl fill
close_fill parts_left fill = take_some (tokens.Sign signs.Close) refl fill
close_fill tail_left fill = take_some (tokens.Sign signs.Close) refl fill
close_fill else_left fill = take_some (tokens.Sign signs.Close) refl fill
close_fill arms_left fill = take_some (tokens.Sign signs.Close) refl fill

-- the pieces that follow statements, whatever may be passed over in front of them
abbrev Behind : List Goal → List Piece → Type 0
Behind below next = (soft : Soft) → Fill (front soft below) next

tail_fill : (tail : Option (Sign × Expr)) {below : List Goal} {next : List Piece} → Behind below next
    → Fill (front tail_left below) (gr.tail tail next)
tail_fill None behind = behind tail_left
tail_fill (Some (Plus, e)) behind = take_some (tokens.Sign signs.Plus) refl (atom_fill e (behind none_left))
tail_fill (Some (Minus, e)) behind = take_some (tokens.Sign signs.Minus) refl (atom_fill e (behind none_left))

empty_else_fill : {m : _} (row : Row_of-Stmt m) {below : List Goal} {next : List Piece} → Behind below next
    → Fill (front else_left below) (empty_else row next)
empty_else_fill end_of-Stmt behind = behind else_left
empty_else_fill (more_of-Stmt place kind row) behind = take_never

module _ (left_out : ℕ → Block → Bool) where
  mutual
    block_fill : (b : Block) {before below : List Goal} {next : List Piece}
        → shift before (classes.Sign signs.Open) ≡ Some (goals.Stmts ∷ goals.Close ∷ below)
        → Fill below next → Fill before (gr.block left_out b next)
    block_fill (Block' place shape row) opens fill = take_at place (tokens.Sign signs.Open) opens (stmts_fill row none_left (λ soft. close_fill soft fill))

    stmts_fill : {m : _} (row : Row_of-Stmt m) (soft : Soft) {below : List Goal} {next : List Piece} → Behind below next
        → Fill (front soft below) (gr.stmts left_out row next)
    stmts_fill end_of-Stmt soft behind = behind soft
    stmts_fill (more_of-Stmt place kind row) soft behind = stmt_fill kind place soft (λ later. stmts_fill row later behind)

    cases_fill : {m : _} (row : Row_of-Case m) {below : List Goal} {next : List Piece} → Fill (goals.Cases ∷ below) next
        → Fill (goals.Cases ∷ below) (gr.cases left_out row next)
    cases_fill end_of-Case fill = fill
    cases_fill (more_of-Case c row) fill = case_fill c (cases_fill row fill)

    case_fill : (c : Case) {below : List Goal} {next : List Piece} → Fill (goals.Cases ∷ below) next
        → Fill (goals.Cases ∷ below) (gr.case_ left_out c next)
    case_fill (Case' pattern b) fill = take_some (tokens.Keyword words.Case) refl (some_items_fill pattern (block_fill b refl fill))

    arms_fill : {m : _} (row : Row_of-Block m) {below : List Goal} {next : List Piece} → Fill (goals.Arms ∷ below) next
        → Fill (goals.Arms ∷ below) (gr.other_arms left_out row next)
    arms_fill end_of-Block fill = fill
    arms_fill (more_of-Block b row) fill = take_some (tokens.Keyword words.Or) refl (block_fill b refl (arms_fill row fill))

    one_arm_fill : {m : _} (row : Row_of-Block m) {below : List Goal} {next : List Piece} → Fill (goals.Arms ∷ below) next
        → Fill (goals.Arm ∷ goals.Arms ∷ below) (gr.one_other_arm_at_least left_out row next)
    one_arm_fill end_of-Block fill = take_never
    one_arm_fill (more_of-Block b row) fill = take_some (tokens.Keyword words.Or) refl (block_fill b refl (arms_fill row fill))

    all_arms_fill : {m : _} (row : Row_of-Block m) {below : List Goal} {next : List Piece} → Fill (goals.Arms ∷ below) next
        → Fill (goals.Block ∷ goals.Arm ∷ goals.Arms ∷ below) (gr.arms left_out row next)
    all_arms_fill end_of-Block fill = take_never
    all_arms_fill (more_of-Block b row) fill = block_fill b refl (one_arm_fill row fill)

    else_fill : (b : Block) (place : ℕ) {below : List Goal} {next : List Piece} → Behind below next
        → Fill (front else_left below) (gr.else_part left_out place b next)
    else_fill (Block' place shape row) stmt_place {below} {next} behind =
        let written : Fill (front else_left below) (gr.word words.Else ∷ at place (tokens.Sign signs.Open) ∷ gr.stmts left_out row (gr.sign signs.Close ∷ next)) =
        take_some (tokens.Keyword words.Else) refl
        (take_at place (tokens.Sign signs.Open) refl (stmts_fill row none_left (λ soft. close_fill soft (behind none_left)))) in
        elim (left_out stmt_place (Block' place shape row)) as (λ out. Fill (front else_left below)
        (if out then empty_else row next else gr.word words.Else ∷ at place (tokens.Sign signs.Open) ∷ gr.stmts left_out row (gr.sign signs.Close ∷ next)))
        [ true ↦ empty_else_fill row behind | false ↦ written ]

    stmt_fill : (kind : Kind) (place : ℕ) (soft : Soft) {below : List Goal} {next : List Piece} → Behind below next
        → Fill (front soft below) (gr.stmt left_out place kind next)
    stmt_fill (Recv' c shape row text b) place soft behind =
        take_at place (tokens.Keyword words.Recv) (stmt_word soft words.Recv _ refl refl refl)
        (chan_fill c (take_some (tokens.Sign signs.Open) refl (cases_fill row (take_some (tokens.Keyword words.Other) refl
        (take_some (tokens.Name text) refl (block_fill b refl (take_some (tokens.Sign signs.Close) refl (behind none_left))))))))
    stmt_fill (Send e es) place soft behind =
        take_at place (tokens.Keyword words.Send) (stmt_word soft words.Send _ refl refl refl) (conn_fill e (some_parts_fill es (behind parts_left)))
    stmt_fill (Pick text len alphabet) place soft behind =
        take_at place (tokens.Keyword words.Pick) (stmt_word soft words.Pick _ refl refl refl)
        (take_some (tokens.Name text) refl (take_some (tokens.Number len) refl (alphabet_fill alphabet (behind none_left))))
    stmt_fill (Assign text e tail) place soft behind =
        take_at place (tokens.Keyword words.Set) (stmt_word soft words.Set _ refl refl refl)
        (take_some (tokens.Name text) refl (atom_fill e (tail_fill tail behind)))
    stmt_fill (If c holds fails) place soft behind =
        take_at place (tokens.Keyword words.If) (stmt_word soft words.If _ refl refl refl)
        (cond_fill c (block_fill holds refl (else_fill fails place behind)))
    stmt_fill (Either' shape row) place soft behind =
        take_at place (tokens.Keyword words.Either) (stmt_word soft words.Either _ refl refl refl) (all_arms_fill row (behind arms_left))
    stmt_fill (Assume c) place soft behind =
        take_at place (tokens.Keyword words.Where) (stmt_word soft words.Where _ refl refl refl) (cond_fill c (behind none_left))
    stmt_fill (Put table key value) place soft behind =
        take_at place (tokens.Keyword words.Put) (stmt_word soft words.Put _ refl refl refl)
        (take_some (tokens.Name table) refl (atom_fill key (atom_fill value (behind none_left))))
    stmt_fill (Lookup table key text found missing) place soft behind =
        take_at place (tokens.Keyword words.Get) (stmt_word soft words.Get _ refl refl refl)
        (take_some (tokens.Name table) refl (atom_fill key (take_some (tokens.Name text) refl (block_fill found refl (else_fill missing place behind)))))
    stmt_fill (Delete table key) place soft behind =
        take_at place (tokens.Keyword words.Del) (stmt_word soft words.Del _ refl refl refl)
        (take_some (tokens.Name table) refl (atom_fill key (behind none_left)))

  block_after_fill : (b : Block) (word : Keyword) {before below : List Goal} {next : List Piece}
      → shift before (classes.Keyword word) ≡ Some (goals.Open ∷ goals.Stmts ∷ goals.Close ∷ below)
      → Fill below next → Fill before (gr.block_after left_out word b next)
  block_after_fill (Block' place shape row) word opens fill =
      take_at place (tokens.Keyword word) opens (take_some (tokens.Sign signs.Open) refl (stmts_fill row none_left (λ soft. close_fill soft fill)))

  start_fill : (start : Option Block) (body : Block)
      → Fill (goals.Decls ∷ goals.Start ∷ goals.Loop ∷ []) (gr.start left_out start (gr.block_after left_out words.Loop body []))
  start_fill None body = block_after_fill body words.Loop refl take_end
  start_fill (Some b) body = block_after_fill b words.Start refl (block_after_fill body words.Loop refl take_end)

  pub spec_fill : (spec : Spec) → Fill (goals.Spec ∷ []) (pieces_of_spec left_out spec)
  spec_fill spec =
      take_at spec.frame_at (tokens.Keyword words.Frame) refl (framing_fill spec.shape.framing (take_capped refl
      (take_at spec.conns_at (tokens.Keyword words.Conns) refl (take_capped refl (decls_fill spec.decls (start_fill spec.start spec.body))))))
