-- A whole specification is read from the tokens that fit it.
use Rattle.std.proofs.Common.{◌≡◌, ℕ, suc, zero, Bool, true, false, List, [], ◌∷◌, ◌++◌, length, Option, Some, None, refl, ap, sym, subst, ◌∙◌, arith, append_assoc, append-nil}
use Rattle.spec_model.specs.declared.event.Framing.{Framing}
use Rattle.spec_model.specs.declared.event.Framing.TheVariants as framings
use Rattle.spec_model.specs.declared.token.Keyword.{Keyword}
use Rattle.spec_model.specs.declared.token.Keyword.TheVariants as words
use Rattle.spec_model.specs.declared.token.Placed.{Placed}
use Rattle.spec_model.specs.declared.token.Punctuation.TheVariants as signs
use Rattle.spec_model.specs.declared.token.Token.{Token}
use Rattle.spec_model.specs.declared.token.Token.TheVariants as tokens
use Rattle.spec_model.specs.declared.tree.Block.{Block, Block'}
use Rattle.spec_model.specs.declared.tree.Decl.{Decl}
use Rattle.spec_model.specs.declared.tree.First.{First}
use Rattle.spec_model.specs.declared.tree.First.TheVariants as firsts
use Rattle.spec_model.specs.declared.tree.Spec.{Spec}
use Rattle.spec_model.specs.Canonical.{depth_behind}
use Rattle.spec_model.specs.Grammar as gr
use Rattle.spec_model.specs.Grammar.{Piece, some, at, capped, Fits, kept_number, pieces_of_spec}
use Rattle.spec_model.specs.Spelling.{is_left_out, IsWithinBraces}
use Rattle.spec_build.specs.Reader as rd
use Rattle.spec_build.specs.Statements as st
use Rattle.spec_build.specs.Whole as wh
use Rattle.spec_build.proofs.Readings.{State, Reads, done, read_on, wider, named, cut_at, looser, token_reads, mark_reads, mark_at_reads, Shuns, shuns_at, counted_reads, closed_again}
use Rattle.spec_build.proofs.PartsRead.{some_token, name_reads, text_reads, number_reads}
use Rattle.spec_build.proofs.StatementsRead.{stmts_read}
use Rattle.spec_build.proofs.TreesMade.{block_made}

-- ---- the header

framing_reads : {next : List Piece} {depth bound : ℕ} (f : Framing) (ts : List Placed) → State (gr.framing f ∷ next) depth bound ts → Reads (wh.framing ts) f next depth bound
framing_reads framings.Line ts h = token_reads wh.framing_in (tokens.Keyword words.Line) ts refl h
framing_reads framings.Len16 ts h = token_reads wh.framing_in (tokens.Keyword words.Len16) ts refl h

kept_reads : {next : List Piece} {depth bound : ℕ} (v : ℕ) (ts : List Placed) → State (capped v ∷ next) depth bound ts → Reads (wh.kept ts) v next depth bound
kept_reads v [] h = absurd h.fits
kept_reads {depth = depth} v (placed ∷ more) h =
    let number = h.fits.0 in
    let e : placed.token ≡ tokens.Number number = h.fits.1 in
    let k : kept_number number ≡ v = h.fits.2 in
    record {
      rest = more;
      is = ap (λ t. wh.kept (record { at = placed.at; token = t } ∷ more)) e ∙ ap (λ n. Some (n, more)) k;
      state = record { fits = h.fits.3; braces = subst (λ t. IsWithinBraces (depth_behind depth t) more) e h.braces.1; few = omega (arith, h.few) };
    }

-- ---- declarations

module _ {next : List Piece} {depth bound : ℕ} where
  declaration_read : (place : ℕ) (text : List ℕ) (first : First) (ts : List Placed) → State (gr.declaration place text first next) depth (suc bound) ts
      → (rd.sees_declaration ts ≡ true) × Reads (wh.declaration ts) (record { at = place; name = text; first = first }) next depth bound
  unfolding wh.declaration
  declaration_read place text (firsts.Text v) ts h =
      let c = cut_at place (tokens.Keyword words.Text) ts h in (
        ap rd.sees_declaration c.is,
        subst (λ u. Reads (wh.declaration u) (record { at = place; name = text; first = firsts.Text v }) next depth bound) (sym c.is) (
            read_on _ (name_reads text c.more c.state) (λ rest s.
            read_on _ (read_on _ (mark_reads (rd.is_sign signs.Becomes) (tokens.Sign signs.Becomes) rest refl s) (λ rest s.
            read_on _ (text_reads v rest s) (λ rest s. done s))) (λ rest s. done s))),
      )
  declaration_read place text (firsts.Num v) ts h =
      let c = cut_at place (tokens.Keyword words.Num) ts h in (
        ap rd.sees_declaration c.is,
        subst (λ u. Reads (wh.declaration u) (record { at = place; name = text; first = firsts.Num v }) next depth bound) (sym c.is) (
            read_on _ (name_reads text c.more c.state) (λ rest s.
            read_on _ (read_on _ (mark_reads (rd.is_sign signs.Becomes) (tokens.Sign signs.Becomes) rest refl s) (λ rest s.
            read_on _ (number_reads v rest s) (λ rest s. done s))) (λ rest s. done s))),
      )
  declaration_read place text (firsts.Conn v) ts h =
      let c = cut_at place (tokens.Keyword words.Conn) ts h in (
        ap rd.sees_declaration c.is,
        subst (λ u. Reads (wh.declaration u) (record { at = place; name = text; first = firsts.Conn v }) next depth bound) (sym c.is) (
            read_on _ (name_reads text c.more c.state) (λ rest s.
            read_on _ (read_on _ (mark_reads (rd.is_sign signs.Becomes) (tokens.Sign signs.Becomes) rest refl s) (λ rest s.
            read_on _ (number_reads v rest s) (λ rest s. done s))) (λ rest s. done s))),
      )
  declaration_read place text firsts.Table ts h =
      let c = cut_at place (tokens.Keyword words.Table) ts h in (
        ap rd.sees_declaration c.is,
        subst (λ u. Reads (wh.declaration u) (record { at = place; name = text; first = firsts.Table }) next depth bound) (sym c.is) (
            read_on _ (name_reads text c.more c.state) (λ rest s.
            done s)),
      )

no_declaration : {A : Type 0} {depth : ℕ} (place : ℕ) (text : List ℕ) (first : First) (next : List Piece) (ts : List Placed)
    → State (gr.declaration place text first next) depth zero ts → A
no_declaration place text (firsts.Text v) next ts h = some_token ts h
no_declaration place text (firsts.Num v) next ts h = some_token ts h
no_declaration place text (firsts.Conn v) next ts h = some_token ts h
no_declaration place text firsts.Table next ts h = some_token ts h

declarations_read : {next : List Piece} {depth : ℕ} (ds found : List Decl) (n : ℕ) (ts : List Placed) → Shuns rd.begins_declaration next
    → State (gr.decls ds next) depth n ts → Reads (wh.declarations_from found n ts) (found ++ ds) next depth n
unfolding wh.declarations_from
declarations_read [] found zero ts ends h = named (sym (append-nil found)) (done h)
declarations_read [] found (suc n) ts ends h =
    let e = ends.shuns ts h.fits in named (sym (append-nil found)) (rw e (done h))
declarations_read (d ∷ ds) found zero ts ends h = no_declaration d.at d.name d.first _ ts h
declarations_read (d ∷ ds) found (suc n) ts ends h =
    let first = declaration_read d.at d.name d.first ts h in
    let e : rd.sees_declaration ts ≡ true = first.0 in
    rw e (named (append_assoc found (d ∷ []) ds) (wider (omega arith) (read_on _ first.1 (λ rest s. declarations_read ds (found ++ d ∷ []) n rest ends s))))

-- ---- `start` and the loop

block_behind_reads : {next : List Piece} {depth bound : ℕ} (keyword : Keyword) (b : Block) (ts : List Placed) → rd.is_word keyword (tokens.Keyword keyword) ≡ true
    → State (gr.block_after is_left_out keyword b next) depth bound ts → Reads (wh.block_behind keyword ts) b next depth bound
unfolding wh.block_behind
block_behind_reads {depth = depth} keyword (Block' place shape row) ts e h =
    named (block_made place shape row) (closed_again {depth = depth} (
    read_on _ (mark_at_reads (rd.is_word keyword) place (tokens.Keyword keyword) ts e h) (λ rest s.
    read_on _ (mark_reads (rd.is_sign signs.Open) (tokens.Sign signs.Open) rest refl s) (λ rest s.
    read_on _ (counted_reads (st.stmts_from (st.block 31) []) rest (λ n r. stmts_read row [] 31 n rest (omega arith) r) s) (λ rest s. done s)))))

begins_behind : {depth bound : ℕ} (keyword : Keyword) (b : Block) (next : List Piece) (ts : List Placed) → rd.is_word keyword (tokens.Keyword keyword) ≡ true
    → State (gr.block_after is_left_out keyword b next) depth bound ts → rd.sees (rd.is_word keyword) ts ≡ true
begins_behind keyword (Block' place shape row) next ts e h =
    let c = cut_at place (tokens.Keyword keyword) ts (looser h) in ap (rd.sees (rd.is_word keyword)) c.is ∙ e

loop_shuns : (test : Token → Bool) (b : Block) (next : List Piece) → test (tokens.Keyword words.Loop) ≡ false → Shuns test (gr.block_after is_left_out words.Loop b next)
loop_shuns test (Block' place shape row) next e = shuns_at test place (tokens.Keyword words.Loop) e

start_shuns : (begin : Option Block) (b : Block) → Shuns rd.begins_declaration (gr.start is_left_out begin (gr.block_after is_left_out words.Loop b []))
start_shuns None b = loop_shuns rd.begins_declaration b [] refl
start_shuns (Some (Block' place shape row)) b = shuns_at rd.begins_declaration place (tokens.Keyword words.Start) refl

start_reads : {depth bound : ℕ} (begin : Option Block) (body : Block) (ts : List Placed)
    → State (gr.start is_left_out begin (gr.block_after is_left_out words.Loop body [])) depth bound ts
    → Reads (wh.start ts) begin (gr.block_after is_left_out words.Loop body []) depth bound
unfolding wh.start
start_reads None body ts h =
    let none = loop_shuns (rd.is_word words.Start) body [] refl in
    let e = none.shuns ts h.fits in rw e (done h)
start_reads (Some b) body ts h =
    let e = begins_behind words.Start b _ ts refl h in
    rw e (read_on _ (block_behind_reads words.Start b ts refl h) (λ rest s. done s))

specification_read : {depth bound : ℕ} (spec : Spec) (ts : List Placed) → State (pieces_of_spec is_left_out spec) depth bound ts → Reads (wh.specification ts) spec [] depth bound
unfolding wh.specification
specification_read spec ts h =
    read_on _ (mark_at_reads (rd.is_word words.Frame) spec.frame_at (tokens.Keyword words.Frame) ts refl h) (λ rest s.
    read_on _ (framing_reads spec.shape.framing rest s) (λ rest s.
    read_on _ (kept_reads spec.shape.limit rest s) (λ rest s.
    read_on _ (mark_at_reads (rd.is_word words.Conns) spec.conns_at (tokens.Keyword words.Conns) rest refl s) (λ rest s.
    read_on _ (kept_reads spec.shape.conns rest s) (λ rest s.
    read_on _ (counted_reads (wh.declarations_from []) rest (λ n r. declarations_read spec.decls [] n rest (start_shuns spec.start spec.body) r) s) (λ rest s.
    read_on _ (start_reads spec.start spec.body rest s) (λ rest s.
    read_on _ (block_behind_reads words.Loop spec.body rest refl s) (λ rest s. done s))))))))

all_read : {A : Type 0} (x : A) (rest : List Placed) → Fits [] rest → wh.if_last x rest ≡ Some x
all_read x [] h = refl
all_read x (placed ∷ more) h = absurd h

-- the tree is built whose tokens these are
pub tree_built : (spec : Spec) (ts : List Placed) → Fits (pieces_of_spec is_left_out spec) ts → IsWithinBraces 0 ts → wh.built ts ≡ Some spec
tree_built spec ts fits braces =
    let r = specification_read {depth = 0} {bound = length ts} spec ts (record { fits = fits; braces = braces; few = omega arith }) in
    ap wh.to_the_end r.is ∙ all_read spec r.rest r.state.fits
