-- From each statement of a written specification some path leads to the next `recv`: each `either` has an arm.
use Rattle.std.proofs.Common.{◌≡◌, ℕ, zero, suc, ◌⊎◌, inl, inr, Bool, true, false, ◌==◌, if◌then◌else◌, List, [], ◌∷◌, ◌++◌, map, Option, Some, None, slice_get, refl, sym, ◌∙◌, ap, subst}
use Rattle.spec_model.specs.declared.config.Task.{Task}
use Rattle.spec_model.specs.declared.config.Task.TheVariants.{Do, Forget}
use Rattle.spec_model.specs.declared.token.Keyword.{Keyword}
use Rattle.spec_model.specs.declared.token.Keyword.TheVariants as words
use Rattle.spec_model.specs.declared.token.Placed.{Placed}
use Rattle.spec_model.specs.declared.token.Punctuation.TheVariants as signs
use Rattle.spec_model.specs.declared.token.Token.TheVariants as tokens
use Rattle.spec_model.specs.declared.tree.Block.{Block, Block', outs-Block'}
use Rattle.spec_model.specs.declared.tree.Case.{Case', outs-Case'}
use Rattle.spec_model.specs.declared.tree.Chan.{Chan}
use Rattle.spec_model.specs.declared.tree.Chan.TheVariants.{Bind, From}
use Rattle.spec_model.specs.declared.tree.Cond.{Cond}
use Rattle.spec_model.specs.declared.tree.Decl.{Decl}
use Rattle.spec_model.specs.declared.tree.Expr.{Expr}
use Rattle.spec_model.specs.declared.tree.First.{First}
use Rattle.spec_model.specs.declared.tree.First.TheVariants as firsts
use Rattle.spec_model.specs.declared.tree.Item.{Item}
use Rattle.spec_model.specs.declared.tree.Item.TheVariants.{Lit, Hole}
use Rattle.spec_model.specs.declared.tree.Kind.{Kind, out-Kind}
use Rattle.spec_model.specs.declared.tree.Kind.TheOpen as seen
use Rattle.spec_model.specs.declared.tree.Kind.TheVariants.{Recv', Send, Pick, Assign, If, Either', Assume, Put, Lookup, Delete, outs-Recv', outs-Either'}
use Rattle.spec_model.specs.declared.tree.Kind.TheBlock.{Row_of-Block, end_of-Block, more_of-Block, Row_of-Case, end_of-Case, more_of-Case, Row_of-Stmt, end_of-Stmt, more_of-Stmt, items-the_row-Block, items-the_row-Case, items-the_row-Stmt, items_shown-the_row-Block-1, items_shown-the_row-Case-0, items_shown-the_row-Stmt-2}
use Rattle.spec_model.specs.declared.tree.Sign.{Sign}
use Rattle.spec_model.specs.declared.tree.Sign.TheVariants.{Plus, Minus}
use Rattle.spec_model.specs.declared.tree.Spec.{Spec}
use Rattle.spec_model.specs.declared.tree.Stmt.{Stmt}
use Rattle.spec_model.specs.Config.{StmtKind, kind_of, stmts_of}
use Rattle.spec_model.specs.Grammar as gr
use Rattle.spec_model.specs.Grammar.{Piece, some, at, capped, never, Fits, pieces_of_spec}
use Rattle.spec_model.specs.Spelling.{is_left_out}
use Rattle.spec_rules.specs.declared.names.Known.{Known}
use Rattle.spec_rules.specs.Accepted.{IsWritten}
use Rattle.spec_rules.specs.Path.{PathPasses, is_recv, passes, reaches, returns, ways_on}
use Rattle.spec_rules.specs.Place.{Place, StandsIn, StandsInLoop, StandsInStart, blocks_of, bound_behind, first, inside, later}
use Rattle.spec_paths.specs.Crowded.{block_of_case}
use Rattle.spec_paths.proofs.Budgets.{ArePlaced, undone}
use Rattle.spec_paths.proofs.CrowdedPlaces.{blocks_in, block_at, stands_as, stands_nowhere}
use Rattle.spec_paths.proofs.KindsSeen.{out-Assign, out-Assume, out-Delete, out-If, out-Lookup, out-Pick, out-Put, out-Send}
use Rattle.spec_paths.proofs.PathsAhead.{arms_in, cases_in}

-- ---- statements from which paths lead on

abbrev pub HasPath : List Stmt → Type 0
HasPath stmts = (count : ℕ) × PathPasses stmts count

-- a path leads through the statement, where one leads on behind it
abbrev pub Passable : Stmt → Type 0
Passable stmt = (tail : List Stmt) → HasPath tail → HasPath (stmt ∷ tail)

-- a path leads through each of these statements and those in their blocks
pub record Good (stmts : List Stmt) : Type 0 where
  pub each : (known : List Known) (behind : List Stmt) (place : Place) → StandsIn known stmts behind place → Passable place.stmt

abbrev pub AllGood : List Block → Type 0
AllGood [] = Unit {0}
AllGood (block ∷ blocks) = Good (stmts_of block) × AllGood blocks

good_at : (blocks : List Block) (number : ℕ) (block : Block) → AllGood blocks → slice_get blocks number ≡ Some block → Good (stmts_of block)
good_at [] number block good is = absurd (cc)
good_at (one ∷ blocks) zero block good is = let same : one ≡ block = cc in subst (λ this. Good (stmts_of this)) same good.0
good_at (one ∷ blocks) (suc number) block good is = good_at blocks number block good.1 is

good_joined : (blocks others : List Block) → AllGood blocks → AllGood others → AllGood (blocks ++ others)
good_joined [] others good other_good = other_good
good_joined (block ∷ blocks) others good other_good = (good.0, good_joined blocks others good.1 other_good)

none_good : Good []
none_good = record { each = λ known behind place stands. absurd (stands_nowhere known behind place stands) }

one_more_good : (stmt : Stmt) (stmts : List Stmt) → Passable stmt → AllGood (blocks_in (kind_of stmt)) → Good stmts → Good (stmt ∷ stmts)
one_more_good stmt stmts passable blocks good = record { each = by_stands }
  where
    by_stands : (known : List Known) (behind : List Stmt) (place : Place) → StandsIn known (stmt ∷ stmts) behind place → Passable place.stmt
    by_stands known behind place (first _ _ _ _) = passable
    by_stands known behind place (later stands) = good.each _ behind place stands
    by_stands known behind place (inside number inner is stands) =
        (good_at (blocks_in (kind_of stmt)) number inner.block blocks (block_at (blocks_of (kind_of stmt)) number inner is)).each _ _ place stands

-- the first of good statements
good_first : (stmt : Stmt) (stmts : List Stmt) → Good (stmt ∷ stmts) → Passable stmt
good_first stmt stmts good = good.each [] [] _ (first [] stmt stmts [])

good_rest : (stmt : Stmt) (stmts : List Stmt) → Good (stmt ∷ stmts) → Good stmts
good_rest stmt stmts good = record { each = by_stands }
  where
    by_stands : (known : List Known) (behind : List Stmt) (place : Place) → StandsIn known stmts behind place → Passable place.stmt
    by_stands known behind place stands =
        let other = stands_as known (bound_behind (kind_of stmt)) stmts behind place stands in
        subst Passable (sym other.same_stmt) (good.each [] behind other.other (later other.stands))

-- a path leads through good statements
path_through : (stmts tail : List Stmt) → Good stmts → HasPath tail → HasPath (stmts ++ tail)
path_through [] tail good path = path
path_through (stmt ∷ stmts) tail good path = good_first stmt stmts good (stmts ++ tail) (path_through stmts tail (good_rest stmt stmts good) path)

-- ---- kinds of statements through which a path leads

abbrev PassableAs : StmtKind → Type 0
PassableAs kind = (stmt : Stmt) → kind_of stmt ≡ kind → Passable stmt

-- a way on from which a path leads
by_way : (kind : StmtKind) (number : ℕ) (way : List Stmt) → is_recv kind ≡ false → slice_get (ways_on kind) number ≡ Some way → ((tail : List Stmt) → HasPath tail → HasPath (way ++ tail))
    → PassableAs kind
by_way kind number way no_recv is leads = λ stmt same tail path.
    let (count, through) = leads tail path in
    (_, passes number way (ap is_recv same ∙ no_recv) (ap (λ one. slice_get (ways_on one) number) same ∙ is) through)

through_block : (kind : StmtKind) (block : Block) → is_recv kind ≡ false → slice_get (ways_on kind) 0 ≡ Some (stmts_of block) → Good (stmts_of block) → PassableAs kind
through_block kind block no_recv is good = by_way kind 0 (stmts_of block) no_recv is (λ tail path. path_through (stmts_of block) tail good path)

straight : (kind : StmtKind) → is_recv kind ≡ false → slice_get (ways_on kind) 0 ≡ Some [] → PassableAs kind
straight kind no_recv is = by_way kind 0 [] no_recv is (λ tail path. path)

at_a_recv : (kind : StmtKind) → is_recv kind ≡ true → PassableAs kind
at_a_recv kind takes = λ stmt same tail path. (0, reaches (ap is_recv same ∙ takes))

-- what is good of a kind of statements
record GoodKind (kind : Kind) : Type 0 where
  passable : PassableAs (out-Kind kind)
  blocks : AllGood (blocks_in (out-Kind kind))

good_as : (kind : Kind) (seen_as : StmtKind) (blocks : List Block) → out-Kind kind ≡ seen_as → blocks_in seen_as ≡ blocks → PassableAs seen_as → AllGood blocks → GoodKind kind
good_as kind seen_as blocks is in_kind passable good = record {
  passable = subst PassableAs (sym is) passable;
  blocks = subst AllGood (sym (ap blocks_in is ∙ in_kind)) good;
}

-- ---- pieces of texts

-- no piece is one that no token is
abbrev pub AllPossible : List Piece → Type 0
AllPossible [] = Unit {0}
AllPossible (never ∷ pieces) = ⊥
AllPossible (_ ∷ pieces) = AllPossible pieces

fits_possible : (pieces : List Piece) (placed : List Placed) → Fits pieces placed → AllPossible pieces
fits_possible [] placed fits = tt
fits_possible (some token ∷ pieces) [] fits = absurd fits
fits_possible (some token ∷ pieces) (one ∷ placed) fits = fits_possible pieces placed fits.1
fits_possible (at place token ∷ pieces) [] fits = absurd fits
fits_possible (at place token ∷ pieces) (one ∷ placed) fits = fits_possible pieces placed fits.2
fits_possible (capped number ∷ pieces) [] fits = absurd fits
fits_possible (capped number ∷ pieces) (one ∷ placed) fits = fits_possible pieces placed fits.3
fits_possible (never ∷ pieces) [] fits = absurd fits
fits_possible (never ∷ pieces) (one ∷ placed) fits = absurd fits

behind_piece : (piece : Piece) (next : List Piece) → AllPossible (piece ∷ next) → AllPossible next
behind_piece (some token) next possible = possible
behind_piece (at place token) next possible = possible
behind_piece (capped number) next possible = possible
behind_piece never next possible = absurd possible

behind_parts : (es : List Expr) (next : List Piece) → AllPossible (gr.parts es next) → AllPossible next
behind_parts [] next possible = possible
behind_parts (e ∷ es) next possible = behind_parts es next (behind_piece (gr.part e) (gr.parts es next) possible)

behind_item : (i : Item) (next : List Piece) → AllPossible (gr.item i next) → AllPossible next
behind_item (Lit text) next possible = possible
behind_item (Hole text kind) next possible = behind_piece (gr.hole_kind kind) next possible

behind_items : (is : List Item) (next : List Piece) → AllPossible (gr.items is next) → AllPossible next
behind_items [] next possible = possible
behind_items (i ∷ is) next possible = behind_items is next (behind_item i (gr.items is next) possible)

one_there : {A : Type 0} (xs : List A) (pieces : List Piece) → AllPossible (gr.one_at_least xs pieces) → AllPossible pieces
one_there [] pieces possible = absurd possible
one_there (x ∷ xs) pieces possible = possible

behind_tail : (tail : Option (Sign × Expr)) (next : List Piece) → AllPossible (gr.tail tail next) → AllPossible next
behind_tail None next possible = possible
behind_tail (Some (Plus, e)) next possible = behind_piece (gr.atom e) next possible
behind_tail (Some (Minus, e)) next possible = behind_piece (gr.atom e) next possible

behind_chan : (chan : Chan) (next : List Piece) → AllPossible (gr.chan chan next) → AllPossible next
behind_chan (Bind text) next possible = possible
behind_chan (From e) next possible = behind_piece (gr.conn_of e) next possible

behind_cond : (cond : Cond) (next : List Piece) → AllPossible (gr.cond cond next) → AllPossible next
behind_cond cond next possible =
    behind_piece (gr.atom cond.right) next (behind_piece (gr.comparison cond.op) _ (behind_piece (gr.atom cond.left) _ possible))

-- ---- the tree that pieces spell

stmts_in : (place : ℕ) (shape : _) (row : Row_of-Stmt _) → stmts_of (Block' place shape row) ≡ items-the_row-Stmt _ row
stmts_in place shape row = ap (λ b. b.stmts) (outs-Block' place shape row) ∙ items_shown-the_row-Stmt-2 shape row

-- what is spelled is good, and what is spelled behind it is possible
abbrev Spelled : Type 0 → List Piece → Type 0
Spelled Thing next = Thing × AllPossible next

-- where an `else` is left out its block is empty
else_of_row : {m : _} (there : ℕ) (left_out : Bool) (row : Row_of-Stmt m) (stmts : List Stmt) (next : List Piece) → stmts ≡ items-the_row-Stmt m row
    → (AllPossible (at there (tokens.Sign signs.Open) ∷ gr.stmts is_left_out row (gr.sign signs.Close ∷ next)) → Spelled (Good stmts) next)
    → AllPossible (if left_out then gr.empty_else row next else gr.word words.Else ∷ at there (tokens.Sign signs.Open) ∷ gr.stmts is_left_out row (gr.sign signs.Close ∷ next))
    → Spelled (Good stmts) next
else_of_row there true end_of-Stmt stmts next is good possible = (subst Good (sym is) none_good, possible)
else_of_row there true (more_of-Stmt _ _ _) stmts next is good possible = absurd possible
else_of_row there false row stmts next is good possible = good possible

else_good : (place : ℕ) (block : Block) (next : List Piece) → (AllPossible (gr.block is_left_out block next) → Spelled (Good (stmts_of block)) next)
    → AllPossible (gr.else_part is_left_out place block next) → Spelled (Good (stmts_of block)) next
else_good place (Block' there shape row) next good possible =
    else_of_row there (place == there) row (stmts_of (Block' there shape row)) next (stmts_in there shape row) good possible

-- good arms, of which there is a first one
record GoodArms (arms : List Block) : Type 0 where
  first_arm : Block
  is : slice_get (map stmts_of arms) 0 ≡ Some (stmts_of first_arm)
  good : Good (stmts_of first_arm)
  all : AllGood arms

mutual
  block_good : (block : Block) (next : List Piece) → AllPossible (gr.block is_left_out block next) → Spelled (Good (stmts_of block)) next
  block_good (Block' place shape row) next possible =
      let all = stmts_good row (gr.sign signs.Close ∷ next) possible in (subst Good (sym (stmts_in place shape row)) all.0, all.1)

  stmts_good : {m : _} (row : Row_of-Stmt m) (next : List Piece) → AllPossible (gr.stmts is_left_out row next) → Spelled (Good (items-the_row-Stmt m row)) next
  stmts_good end_of-Stmt next possible = (none_good, possible)
  stmts_good (more_of-Stmt place kind row) next possible =
      let one = kind_good place kind (gr.stmts is_left_out row next) possible in
      let others = stmts_good row next one.1 in
      (one_more_good (record { at = place; kind = kind }) _ (one.0.passable (record { at = place; kind = kind }) refl) one.0.blocks others.0, others.1)

  cases_good : {m : _} (row : Row_of-Case m) (next : List Piece) → AllPossible (gr.cases is_left_out row next)
      → Spelled (AllGood (map block_of_case (items-the_row-Case m row))) next
  cases_good end_of-Case next possible = (tt, possible)
  cases_good (more_of-Case (Case' pattern block) row) next possible =
      let behind = gr.block is_left_out block (gr.cases is_left_out row next) in
      let one = block_good block (gr.cases is_left_out row next) (behind_items pattern behind (one_there pattern (gr.items pattern behind) possible)) in
      let others = cases_good row next one.1 in
      ((subst (λ this. Good (stmts_of this)) (sym (ap (λ case. case.block) (outs-Case' pattern block))) one.0, others.0), others.1)

  other_arms_good : {m : _} (row : Row_of-Block m) (next : List Piece) → AllPossible (gr.other_arms is_left_out row next)
      → Spelled (AllGood (items-the_row-Block m row)) next
  other_arms_good end_of-Block next possible = (tt, possible)
  other_arms_good (more_of-Block block row) next possible =
      let one = block_good block (gr.other_arms is_left_out row next) possible in
      let others = other_arms_good row next one.1 in
      ((one.0, others.0), others.1)

  arms_good : {m : _} (row : Row_of-Block m) (next : List Piece) → AllPossible (gr.arms is_left_out row next) → Spelled (GoodArms (items-the_row-Block m row)) next
  arms_good end_of-Block next possible = absurd possible
  arms_good (more_of-Block block end_of-Block) next possible = absurd ((block_good block (never ∷ next) possible).1)
  arms_good (more_of-Block block (more_of-Block other row)) next possible =
      let one = block_good block (gr.one_other_arm_at_least is_left_out (more_of-Block other row) next) possible in
      let second = block_good other (gr.other_arms is_left_out row next) one.1 in
      let others = other_arms_good row next second.1 in
      (record { first_arm = block; is = refl; good = one.0; all = (one.0, (second.0, others.0)) }, others.1)

  kind_good : (place : ℕ) (kind : Kind) (next : List Piece) → AllPossible (gr.stmt is_left_out place kind next) → Spelled (GoodKind kind) next
  kind_good place (Recv' chan shape row text block) next possible =
      let closing = gr.sign signs.Close ∷ next in
      let behind = gr.word words.Other ∷ gr.name text ∷ gr.block is_left_out block closing in
      let cases = cases_good row behind (behind_chan chan (gr.sign signs.Open ∷ gr.cases is_left_out row behind) possible) in
      let rest = block_good block closing cases.1 in
      let list = items-the_row-Case _ row in (
        good_as (Recv' chan shape row text block) (seen.Recv chan list text block) (map block_of_case list ++ block ∷ [])
            (outs-Recv' chan shape row text block ∙ ap (λ these. seen.Recv chan these text block) (items_shown-the_row-Case-0 shape row)) (cases_in chan list text block)
            (at_a_recv (seen.Recv chan list text block) refl) (good_joined (map block_of_case list) (block ∷ []) cases.0 (rest.0, tt)),
        rest.1,
      )
  kind_good place (Send e es) next possible = (
    good_as (Send e es) (seen.Send e es) [] (out-Send e es) refl (straight (seen.Send e es) refl refl) tt,
    behind_parts es next (one_there es (gr.parts es next) (behind_piece (gr.conn_of e) _ possible)),
  )
  kind_good place (Pick text len alphabet) next possible = (
    good_as (Pick text len alphabet) (seen.Pick text len alphabet) [] (out-Pick text len alphabet) refl (straight (seen.Pick text len alphabet) refl refl) tt,
    behind_piece (gr.alphabet_word alphabet) next possible,
  )
  kind_good place (Assign text e more) next possible = (
    good_as (Assign text e more) (seen.Assign text e more) [] (out-Assign text e more) refl (straight (seen.Assign text e more) refl refl) tt,
    behind_tail more next (behind_piece (gr.atom e) _ possible),
  )
  kind_good place (If cond holds fails) next possible =
      let one = block_good holds (gr.else_part is_left_out place fails next) (behind_cond cond _ possible) in
      let other = else_good place fails next (block_good fails next) one.1 in (
        good_as (If cond holds fails) (seen.If cond holds fails) (holds ∷ fails ∷ []) (out-If cond holds fails) refl
            (through_block (seen.If cond holds fails) holds refl refl one.0) (one.0, (other.0, tt)),
        other.1,
      )
  kind_good place (Either' shape row) next possible =
      let arms = arms_good row next possible in
      let list = items-the_row-Block _ row in (
        good_as (Either' shape row) (seen.Either list) list (outs-Either' shape row ∙ ap seen.Either (items_shown-the_row-Block-1 shape row)) (arms_in list)
            (through_block (seen.Either list) arms.0.first_arm refl arms.0.is arms.0.good) arms.0.all,
        arms.1,
      )
  kind_good place (Assume cond) next possible =
      (good_as (Assume cond) (seen.Assume cond) [] (out-Assume cond) refl (straight (seen.Assume cond) refl refl) tt, behind_cond cond next possible)
  kind_good place (Put table key value) next possible = (
    good_as (Put table key value) (seen.Put table key value) [] (out-Put table key value) refl (straight (seen.Put table key value) refl refl) tt,
    behind_piece (gr.atom value) next (behind_piece (gr.atom key) _ possible),
  )
  kind_good place (Lookup table key text found missing) next possible =
      let one = block_good found (gr.else_part is_left_out place missing next) (behind_piece (gr.atom key) _ possible) in
      let other = else_good place missing next (block_good missing next) one.1 in (
        good_as (Lookup table key text found missing) (seen.Lookup table key text found missing) (found ∷ missing ∷ []) (out-Lookup table key text found missing) refl
            (through_block (seen.Lookup table key text found missing) found refl refl one.0) (one.0, (other.0, tt)),
        other.1,
      )
  kind_good place (Delete table key) next possible = (
    good_as (Delete table key) (seen.Delete table key) [] (out-Delete table key) refl (straight (seen.Delete table key) refl refl) tt,
    behind_piece (gr.atom key) next possible,
  )

-- ---- the whole specification

after_word_good : (keyword : Keyword) (block : Block) (next : List Piece) → AllPossible (gr.block_after is_left_out keyword block next) → Spelled (Good (stmts_of block)) next
after_word_good keyword (Block' place shape row) next possible = block_good (Block' place shape row) next possible

behind_declaration : (place : ℕ) (text : List ℕ) (value : First) (next : List Piece) → AllPossible (gr.declaration place text value next) → AllPossible next
behind_declaration place text (firsts.Text value) next possible = possible
behind_declaration place text (firsts.Num value) next possible = possible
behind_declaration place text (firsts.Conn value) next possible = possible
behind_declaration place text firsts.Table next possible = possible

behind_decls : (decls : List Decl) (next : List Piece) → AllPossible (gr.decls decls next) → AllPossible next
behind_decls [] next possible = possible
behind_decls (decl ∷ decls) next possible = behind_decls decls next (behind_declaration decl.at decl.name decl.first (gr.decls decls next) possible)

abbrev GoodStart : Option Block → Type 0
GoodStart None = Unit {0}
GoodStart (Some start) = Good (stmts_of start)

start_good : (start : Option Block) (next : List Piece) → AllPossible (gr.start is_left_out start next) → Spelled (GoodStart start) next
start_good None next possible = (tt, possible)
start_good (Some start) next possible = after_word_good words.Start start next possible

pub record GoodSpec (spec : Spec) : Type 0 where
  pub start : (block : Block) → spec.start ≡ Some block → Good (stmts_of block)
  pub body : Good (stmts_of spec.body)

pub written_good : (spec : Spec) → IsWritten spec → GoodSpec spec
written_good spec (text, spells) =
    let possible = fits_possible (pieces_of_spec is_left_out spec) spells.tokens spells.fits in
    let loop_pieces = gr.block_after is_left_out words.Loop spec.body [] in
    let start = start_good spec.start loop_pieces (behind_decls spec.decls (gr.start is_left_out spec.start loop_pieces) (behind_piece (gr.framing spec.shape.framing) _ possible)) in
    let body = after_word_good words.Loop spec.body [] start.1 in
    record { start = λ block is. subst GoodStart is start.0; body = body.0 }

-- a path leads on from what is to be done
pub path_on_from : (spec : Spec) → GoodSpec spec → (tasks : List Task) → ArePlaced spec tasks → HasPath (undone tasks)
path_on_from spec good [] placed = (0, returns)
path_on_from spec good (Forget count ∷ tasks) placed = path_on_from spec good tasks placed
path_on_from spec good (Do stmt passed ∷ tasks) placed = subst Passable placed.0.stmt_is (by_stands placed.0.stands) (undone tasks) (path_on_from spec good tasks placed.1)
  where
    by_stands : StandsInStart spec placed.0.place ⊎ StandsInLoop spec placed.0.place → Passable placed.0.place.stmt
    by_stands (inl in_start) = (good.start in_start.start in_start.is).each _ [] placed.0.place in_start.stands
    by_stands (inr in_loop) = good.body.each _ [] placed.0.place in_loop
