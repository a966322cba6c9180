-- The canonical spelling of a tree has no more braces open than a text that spells the tree.
use Rattle.std.proofs.Common.{◌≡◌, ℕ, ◌+◌, ◌-◌, ◌≤◌, ◌==◌, Bool, true, false, if◌then◌else◌, Option, Some, None, List, [], ◌∷◌, refl, sym, subst, arith}
use Rattle.spec_model.specs.declared.token.Keyword.{Keyword}
use Rattle.spec_model.specs.declared.token.Keyword.TheVariants as words
use Rattle.spec_model.specs.declared.token.Placed.{Placed}
use Rattle.spec_model.specs.declared.token.Punctuation.TheVariants as signs
use Rattle.spec_model.specs.declared.token.Token.{Token}
use Rattle.spec_model.specs.declared.token.Token.TheVariants as tokens
use Rattle.spec_model.specs.declared.tree.Block.{Block, Block'}
use Rattle.spec_model.specs.declared.tree.Case.{Case'}
use Rattle.spec_model.specs.declared.tree.Chan.{Chan}
use Rattle.spec_model.specs.declared.tree.Chan.TheVariants.{Bind, From}
use Rattle.spec_model.specs.declared.tree.Decl.{Decl}
use Rattle.spec_model.specs.declared.tree.Expr.{Expr}
use Rattle.spec_model.specs.declared.tree.First.{First}
use Rattle.spec_model.specs.declared.tree.First.TheVariants as firsts
use Rattle.spec_model.specs.declared.tree.Item.{Item}
use Rattle.spec_model.specs.declared.tree.Item.TheVariants.{Lit, Hole}
use Rattle.spec_model.specs.declared.tree.Kind.{Kind}
use Rattle.spec_model.specs.declared.tree.Kind.TheVariants.{Recv', Send, Pick, Assign, If, Either', Assume, Put, Lookup, Delete}
use Rattle.spec_model.specs.declared.tree.Kind.TheBlock.{Row_of-Block, end_of-Block, more_of-Block, Row_of-Case, end_of-Case, more_of-Case, Row_of-Stmt, end_of-Stmt, more_of-Stmt}
use Rattle.spec_model.specs.declared.tree.Sign.{Sign}
use Rattle.spec_model.specs.declared.tree.Sign.TheVariants.{Plus, Minus}
use Rattle.spec_model.specs.declared.tree.Spec.{Spec}
use Rattle.spec_model.specs.Canonical.{depth_behind, tokens_of}
use Rattle.spec_model.specs.Grammar as gr
use Rattle.spec_model.specs.Grammar.{Piece, some, at, capped, never, Fits}
use Rattle.spec_model.specs.Spelling.{IsWithinBraces, greatest_open, is_left_out}
use Rattle.spec_print.specs.Listed as li
use Rattle.spec_print.specs.Writable.{tokens_in}

-- The second pieces are the first ones, without an empty `else` here and there. What no token is ends the matter.
data Fewer : List Piece → List Piece → Type 0 where
  end : Fewer [] []
  same : {piece : Piece} {more fewer : List Piece} → Fewer more fewer → Fewer (piece ∷ more) (piece ∷ fewer)
  left_out : {place : ℕ} {more fewer : List Piece} → Fewer more fewer
      → Fewer (gr.word words.Else ∷ at place (tokens.Sign signs.Open) ∷ gr.sign signs.Close ∷ more) fewer
  nothing : {more fewer : List Piece} → Fewer (never ∷ more) fewer

-- ---- the pieces of a tree

fewer_parts : (es : List Expr) {more fewer : List Piece} → Fewer more fewer → Fewer (gr.parts es more) (gr.parts es fewer)
fewer_parts [] h = h
fewer_parts (e ∷ es) h = same (fewer_parts es h)

fewer_one_at_least : {A : Type 0} (xs : List A) {more fewer : List Piece} → Fewer more fewer → Fewer (gr.one_at_least xs more) (gr.one_at_least xs fewer)
fewer_one_at_least [] h = nothing
fewer_one_at_least (x ∷ xs) h = h

fewer_item : (i : Item) {more fewer : List Piece} → Fewer more fewer → Fewer (gr.item i more) (gr.item i fewer)
fewer_item (Lit text) h = same h
fewer_item (Hole text kind) h = same (same (same h))

fewer_items : (is : List Item) {more fewer : List Piece} → Fewer more fewer → Fewer (gr.items is more) (gr.items is fewer)
fewer_items [] h = h
fewer_items (i ∷ is) h = fewer_item i (fewer_items is h)

fewer_tail : (t : Option (Sign × Expr)) {more fewer : List Piece} → Fewer more fewer → Fewer (gr.tail t more) (gr.tail t fewer)
fewer_tail None h = h
fewer_tail (Some (Plus, e)) h = same (same h)
fewer_tail (Some (Minus, e)) h = same (same h)

fewer_chan : (c : Chan) {more fewer : List Piece} → Fewer more fewer → Fewer (gr.chan c more) (gr.chan c fewer)
fewer_chan (Bind text) h = same h
fewer_chan (From e) h = same (same h)

else_of_row : {m : _} (t : Bool) (row : Row_of-Stmt m) (place : ℕ) (inside inside_fewer : List Piece) {more fewer : List Piece} → Fewer more fewer
    → (gr.has_none row ≡ true → inside ≡ gr.sign signs.Close ∷ more) → Fewer inside inside_fewer
    → Fewer (if t then gr.empty_else row more else gr.word words.Else ∷ at place (tokens.Sign signs.Open) ∷ inside)
    (if gr.has_none row then gr.empty_else row fewer else gr.word words.Else ∷ at place (tokens.Sign signs.Open) ∷ inside_fewer)
else_of_row true end_of-Stmt place inside inside_fewer h is k = h
else_of_row true (more_of-Stmt there kind row) place inside inside_fewer h is k = nothing
else_of_row false end_of-Stmt place inside inside_fewer {more} {fewer} h is k =
    subst (λ ps. Fewer (gr.word words.Else ∷ at place (tokens.Sign signs.Open) ∷ ps) fewer) (sym (is refl)) (left_out h)
else_of_row false (more_of-Stmt there kind row) place inside inside_fewer h is k = same (same k)

nothing_inside : {m : _} (row : Row_of-Stmt m) (next : List Piece) → gr.has_none row ≡ true → gr.stmts is_left_out row next ≡ next
nothing_inside end_of-Stmt next e = refl
nothing_inside (more_of-Stmt place kind row) next e = absurd cc

mutual
  fewer_block : (b : Block) {more fewer : List Piece} → Fewer more fewer → Fewer (gr.block is_left_out b more) (gr.block li.leaves_out b fewer)
  fewer_block (Block' place shape row) h = same (fewer_stmts row (same h))

  fewer_else : (place : ℕ) (b : Block) {more fewer : List Piece} → Fewer more fewer → Fewer (gr.else_part is_left_out place b more) (gr.else_part li.leaves_out place b fewer)
  fewer_else place (Block' there shape row) {more} {fewer} h =
      let inside = gr.sign signs.Close ∷ more in
      else_of_row (place == there) row there (gr.stmts is_left_out row inside) (gr.stmts li.leaves_out row (gr.sign signs.Close ∷ fewer)) h
      (nothing_inside row inside) (fewer_stmts row (same h))

  fewer_stmts : {m : _} (row : Row_of-Stmt m) {more fewer : List Piece} → Fewer more fewer → Fewer (gr.stmts is_left_out row more) (gr.stmts li.leaves_out row fewer)
  fewer_stmts end_of-Stmt h = h
  fewer_stmts (more_of-Stmt place kind row) h = fewer_stmt place kind (fewer_stmts row h)

  fewer_cases : {m : _} (row : Row_of-Case m) {more fewer : List Piece} → Fewer more fewer → Fewer (gr.cases is_left_out row more) (gr.cases li.leaves_out row fewer)
  fewer_cases end_of-Case h = h
  fewer_cases (more_of-Case (Case' pattern b) row) h = same (fewer_one_at_least pattern (fewer_items pattern (fewer_block b (fewer_cases row h))))

  fewer_other_arms : {m : _} (row : Row_of-Block m) {more fewer : List Piece} → Fewer more fewer → Fewer (gr.other_arms is_left_out row more) (gr.other_arms li.leaves_out row fewer)
  fewer_other_arms end_of-Block h = h
  fewer_other_arms (more_of-Block b row) h = same (fewer_block b (fewer_other_arms row h))

  fewer_arms : {m : _} (row : Row_of-Block m) {more fewer : List Piece} → Fewer more fewer → Fewer (gr.arms is_left_out row more) (gr.arms li.leaves_out row fewer)
  fewer_arms end_of-Block h = nothing
  fewer_arms (more_of-Block b end_of-Block) h = fewer_block b nothing
  fewer_arms (more_of-Block b (more_of-Block c row)) h = fewer_block b (same (fewer_block c (fewer_other_arms row h)))

  fewer_stmt : (place : ℕ) (kind : Kind) {more fewer : List Piece} → Fewer more fewer → Fewer (gr.stmt is_left_out place kind more) (gr.stmt li.leaves_out place kind fewer)
  fewer_stmt place (Recv' c shape row text b) h = same (fewer_chan c (same (fewer_cases row (same (same (fewer_block b (same h)))))))
  fewer_stmt place (Send e es) h = same (same (fewer_one_at_least es (fewer_parts es h)))
  fewer_stmt place (Pick text len alphabet) h = same (same (same (same h)))
  fewer_stmt place (Assign text e t) h = same (same (same (fewer_tail t h)))
  fewer_stmt place (If c holds fails) h = same (same (same (same (fewer_block holds (fewer_else place fails h)))))
  fewer_stmt place (Either' shape row) h = same (fewer_arms row h)
  fewer_stmt place (Assume c) h = same (same (same (same h)))
  fewer_stmt place (Put table key value) h = same (same (same (same h)))
  fewer_stmt place (Lookup table key text found missing) h = same (same (same (same (fewer_block found (fewer_else place missing h)))))
  fewer_stmt place (Delete table key) h = same (same (same h))

fewer_after : (keyword : Keyword) (b : Block) {more fewer : List Piece} → Fewer more fewer → Fewer (gr.block_after is_left_out keyword b more) (gr.block_after li.leaves_out keyword b fewer)
fewer_after keyword (Block' place shape row) h = same (same (fewer_stmts row (same h)))

fewer_start : (begin : Option Block) {more fewer : List Piece} → Fewer more fewer → Fewer (gr.start is_left_out begin more) (gr.start li.leaves_out begin fewer)
fewer_start None h = h
fewer_start (Some b) h = fewer_after words.Start b h

fewer_declaration : (place : ℕ) (text : List ℕ) (first : First) {more fewer : List Piece} → Fewer more fewer → Fewer (gr.declaration place text first more) (gr.declaration place text first fewer)
fewer_declaration place text (firsts.Text v) h = same (same (same (same h)))
fewer_declaration place text (firsts.Num v) h = same (same (same (same h)))
fewer_declaration place text (firsts.Conn v) h = same (same (same (same h)))
fewer_declaration place text firsts.Table h = same (same h)

fewer_decls : (ds : List Decl) {more fewer : List Piece} → Fewer more fewer → Fewer (gr.decls ds more) (gr.decls ds fewer)
fewer_decls [] h = h
fewer_decls (d ∷ ds) h = fewer_declaration d.at d.name d.first (fewer_decls ds h)

fewer_in_spec : (spec : Spec) → Fewer (gr.pieces_of_spec is_left_out spec) (gr.pieces_of_spec li.leaves_out spec)
fewer_in_spec spec = same (same (same (same (same (fewer_decls spec.decls (fewer_start spec.start (fewer_after words.Loop spec.body end)))))))

-- ---- braces

-- the same limit, of tokens without places
abbrev pub AreWithinBraces : ℕ → List Token → Type 0
AreWithinBraces open_before [] = Unit {0}
AreWithinBraces open_before (token ∷ more) = (depth_behind open_before token ≤ greatest_open) × AreWithinBraces (depth_behind open_before token) more

-- a token that fits a piece, in place of the piece's own
within_first : (open_before : ℕ) (token other : Token) (fewer : List Token) → token ≡ other → depth_behind open_before token ≤ greatest_open
    → AreWithinBraces (depth_behind open_before token) fewer → AreWithinBraces open_before (other ∷ fewer)
within_first open_before token other fewer e le h = subst (λ t. AreWithinBraces open_before (t ∷ fewer)) e (le, h)

fewer_within : {more fewer : List Piece} → Fewer more fewer → (open_before : ℕ) (ts : List Placed) → Fits more ts → IsWithinBraces open_before ts
    → AreWithinBraces open_before (tokens_of fewer)
fewer_within end open_before ts fits h = tt
fewer_within (same {piece = some token} h) open_before [] fits w = absurd fits
fewer_within (same {piece = some token} {fewer = fewer} h) open_before (placed ∷ ts) fits w =
    within_first open_before placed.token token (tokens_of fewer) fits.0 w.0 (fewer_within h (depth_behind open_before placed.token) ts fits.1 w.1)
fewer_within (same {piece = at place token} h) open_before [] fits w = absurd fits
fewer_within (same {piece = at place token} {fewer = fewer} h) open_before (placed ∷ ts) fits w =
    within_first open_before placed.token token (tokens_of fewer) fits.1 w.0 (fewer_within h (depth_behind open_before placed.token) ts fits.2 w.1)
fewer_within (same {piece = capped number} h) open_before [] fits w = absurd fits
fewer_within (same {piece = capped number} {fewer = fewer} h) open_before (placed ∷ ts) fits w =
    let number_read = subst (λ t. (depth_behind open_before t ≤ greatest_open) × IsWithinBraces (depth_behind open_before t) ts) fits.1 w in
    (number_read.0, fewer_within h open_before ts fits.3 number_read.1)
fewer_within (same {piece = never} h) open_before [] fits w = absurd fits
fewer_within (same {piece = never} h) open_before (placed ∷ ts) fits w = absurd fits
fewer_within (left_out h) open_before [] fits w = absurd fits
fewer_within (left_out h) open_before (a ∷ []) fits w = absurd fits.1
fewer_within (left_out h) open_before (a ∷ b ∷ []) fits w = absurd fits.1.2
fewer_within (left_out {fewer = fewer} h) open_before (a ∷ b ∷ c ∷ ts) fits w =
    let behind_else = subst (λ t. IsWithinBraces (depth_behind open_before t) (b ∷ c ∷ ts)) fits.0 w.1 in
    let behind_open = subst (λ t. IsWithinBraces (depth_behind open_before t) (c ∷ ts)) fits.1.1 behind_else.1 in
    let behind_close = subst (λ t. IsWithinBraces (depth_behind (open_before + 1) t) ts) fits.1.2.0 behind_open.1 in
    let as_before : open_before + 1 - 1 ≡ open_before = omega arith in
    fewer_within h open_before ts fits.1.2.1 (subst (λ d. IsWithinBraces d ts) as_before behind_close)
fewer_within nothing open_before [] fits w = absurd fits
fewer_within nothing open_before (placed ∷ ts) fits w = absurd fits

-- tokens at places are within the limit where they are without them
within_in : (open_before : ℕ) (ts : List Placed) → AreWithinBraces open_before (tokens_in ts) → IsWithinBraces open_before ts
within_in open_before [] h = tt
within_in open_before (placed ∷ ts) h = (h.0, within_in (depth_behind open_before placed.token) ts h.1)

-- the tokens of the canonical spelling are within the limit where those of a text of the tree are
pub canonical_within : (spec : Spec) (ts others : List Placed) → Fits (gr.pieces_of_spec is_left_out spec) ts → IsWithinBraces 0 ts
    → tokens_in others ≡ tokens_of (gr.pieces_of_spec li.leaves_out spec) → IsWithinBraces 0 others
canonical_within spec ts others fits w same_tokens =
    within_in 0 others (subst (AreWithinBraces 0) (sym same_tokens) (fewer_within (fewer_in_spec spec) 0 ts fits w))
