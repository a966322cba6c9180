-- The places of the statements ascend in a text that spells them.
use Rattle.std.proofs.Common.{◌≡◌, ℕ, suc, ◌+◌, ◌≤◌, Bool, true, false, if◌then◌else◌, Option, Some, None, List, [], ◌∷◌, ◌++◌, map, sym, ◌∙◌, ap, subst, arith, append_assoc, append-nil}
use Rattle.std.specs.List.{concat}
use Rattle.spec_model.specs.declared.token.Keyword.{Keyword}
use Rattle.spec_model.specs.declared.token.Keyword.TheVariants as words
use Rattle.spec_model.specs.declared.token.Placed.{Placed}
use Rattle.spec_model.specs.declared.token.Punctuation.TheVariants as signs
use Rattle.spec_model.specs.declared.token.Token.{Token}
use Rattle.spec_model.specs.declared.tree.Block.{Block, Block', out-Block, outs-Block'}
use Rattle.spec_model.specs.declared.tree.Case.{Case', out-Case, outs-Case'}
use Rattle.spec_model.specs.declared.tree.Chan.{Chan}
use Rattle.spec_model.specs.declared.tree.Chan.TheVariants.{Bind, From}
use Rattle.spec_model.specs.declared.tree.Decl.{Decl}
use Rattle.spec_model.specs.declared.tree.Expr.{Expr}
use Rattle.spec_model.specs.declared.tree.First.{First}
use Rattle.spec_model.specs.declared.tree.First.TheVariants as firsts
use Rattle.spec_model.specs.declared.tree.Item.{Item}
use Rattle.spec_model.specs.declared.tree.Item.TheVariants.{Lit, Hole}
use Rattle.spec_model.specs.declared.tree.Kind.{Kind, out-Kind}
use Rattle.spec_model.specs.declared.tree.Kind.TheOpen as seen
use Rattle.spec_model.specs.declared.tree.Kind.TheVariants.{Recv', Send, Pick, Assign, If, Either', Assume, Put, Lookup, Delete, outs-Recv', outs-Send, outs-Pick, outs-Assign, outs-If, outs-Either', outs-Assume, outs-Put, outs-Lookup, outs-Delete}
use Rattle.spec_model.specs.declared.tree.Kind.TheBlock.{Row_of-Block, end_of-Block, more_of-Block, Row_of-Case, end_of-Case, more_of-Case, Row_of-Stmt, end_of-Stmt, more_of-Stmt, items-the_row-Block, items-the_row-Case, items-the_row-Stmt, items_shown-the_row-Block-1, items_shown-the_row-Case-0, items_shown-the_row-Stmt-2}
use Rattle.spec_model.specs.declared.tree.Sign.{Sign}
use Rattle.spec_model.specs.declared.tree.Sign.TheVariants.{Plus, Minus}
use Rattle.spec_model.specs.declared.tree.Spec.{Spec}
use Rattle.spec_model.specs.Config.{StmtKind}
use Rattle.spec_model.specs.Grammar as gr
use Rattle.spec_model.specs.Grammar.{Piece, some, at, capped, never, Fits}
use Rattle.spec_model.specs.Spelling.{is_left_out}
use Rattle.spec_model.proofs.RisingPlaces.{Rises, spelled_rises}
use Rattle.spec_rules.specs.Accepted.{IsWritten}
use Rattle.spec_rules.specs.Bad.{places_in, places_in_start, stmt_places}
use Rattle.itree_data.specs.Making.{AreInOrder, Ascends, places_inside, places_of}
use Rattle.itree_data.proofs.TextPlaces.{places_in_block}

-- ---- places that pieces ask for

-- Pieces ask for tokens at these places, in this order, among others; what is never fitted asks for all.
data Among : List ℕ → List Piece → Type 0 where
  none : Among [] []
  skip : {places : List ℕ} {pieces : List Piece} {piece : Piece} → Among places pieces → Among places (piece ∷ pieces)
  here : {place : ℕ} {token : Token} {places : List ℕ} {pieces : List Piece} → Among places pieces → Among (place ∷ places) (at place token ∷ pieces)
  lost : {places : List ℕ} {pieces : List Piece} → Among places (never ∷ pieces)

fits_later : (piece : Piece) (pieces : List Piece) (placed : Placed) (more : List Placed) → Fits (piece ∷ pieces) (placed ∷ more) → Fits pieces more
fits_later (some token) pieces placed more fits = fits.1
fits_later (at place token) pieces placed more fits = fits.2
fits_later (capped number) pieces placed more fits = fits.3
fits_later never pieces placed more fits = absurd fits

fits_some : (piece : Piece) (pieces : List Piece) → Fits (piece ∷ pieces) [] → ⊥
fits_some (some token) pieces fits = fits
fits_some (at place token) pieces fits = fits
fits_some (capped number) pieces fits = fits
fits_some never pieces fits = fits

fits_never : (pieces : List Piece) (tokens : List Placed) → Fits (never ∷ pieces) tokens → ⊥
fits_never pieces [] fits = fits
fits_never pieces (placed ∷ more) fits = fits

ascends_lower : (least lower : ℕ) (places : List ℕ) (most : ℕ) → lower ≤ least → Ascends least places most → Ascends lower places most
ascends_lower least lower [] most less up = omega (arith, less, up)
ascends_lower least lower (place ∷ places) most less up = let first = up.0 in (omega (arith, less, first), up.1)

-- The places that are asked for ascend as those of the tokens.
in_order : (least : ℕ) {places : List ℕ} {pieces : List Piece} (tokens : List Placed) → Among places pieces → Fits pieces tokens → Rises least tokens → (most : ℕ) × Ascends least places most
in_order least [] none fits up = (least, omega arith)
in_order least (placed ∷ more) none fits up = absurd fits
in_order least [] (skip {pieces = pieces} {piece} among) fits up = absurd (fits_some piece pieces fits)
in_order least (placed ∷ more) (skip {places} {pieces} {piece} among) fits up =
    let later = in_order (suc placed.at) more among (fits_later piece pieces placed more fits) up.1 in
    let lower = up.0 in (later.0, ascends_lower (suc placed.at) least places later.0 (omega (arith, lower)) later.1)
in_order least [] (here {place} {token} {places} {pieces} among) fits up = absurd fits
in_order least (placed ∷ more) (here {place} {token} {places} {pieces} among) fits up =
    let later = in_order (suc placed.at) more among fits.2 up.1 in
    let lower = up.0 in let there = fits.0 in (later.0, (omega (arith, lower, there), ascends_lower (suc placed.at) (place + 1) places later.0 (omega (arith, there)) later.1))
in_order least tokens (lost {places} {pieces}) fits up = absurd (fits_never pieces tokens fits)

-- ---- the places of the statements are asked for

among_if : (b : Bool) (places : List ℕ) (xs ys : List Piece) → Among places xs → Among places ys → Among places (if b then xs else ys)
among_if true places xs ys one other = one
among_if false places xs ys one other = other

among_one : {A : Type 0} (xs : List A) (places : List ℕ) (pieces : List Piece) → Among places pieces → Among places (gr.one_at_least xs pieces)
among_one [] places pieces among = lost
among_one (x ∷ xs) places pieces among = among

among_parts : (es : List Expr) (places : List ℕ) (next : List Piece) → Among places next → Among places (gr.parts es next)
among_parts [] places next among = among
among_parts (e ∷ es) places next among = skip (among_parts es places next among)

among_items : (items : List Item) (places : List ℕ) (next : List Piece) → Among places next → Among places (gr.items items next)
among_items [] places next among = among
among_items (Lit text ∷ items) places next among = skip (among_items items places next among)
among_items (Hole name kind ∷ items) places next among = skip (skip (skip (among_items items places next among)))

among_tail : (tail : Option (Sign × Expr)) (places : List ℕ) (next : List Piece) → Among places next → Among places (gr.tail tail next)
among_tail None places next among = among
among_tail (Some (Plus, e)) places next among = skip (skip among)
among_tail (Some (Minus, e)) places next among = skip (skip among)

among_chan : (chan : Chan) (places : List ℕ) (next : List Piece) → Among places next → Among places (gr.chan chan next)
among_chan (Bind name) places next among = skip among
among_chan (From e) places next among = skip (skip among)

among_declaration : (place : ℕ) (name : List ℕ) (first : First) (places : List ℕ) (next : List Piece) → Among places next → Among places (gr.declaration place name first next)
among_declaration place name (firsts.Text value) places next among = skip (skip (skip (skip among)))
among_declaration place name (firsts.Num value) places next among = skip (skip (skip (skip among)))
among_declaration place name (firsts.Conn value) places next among = skip (skip (skip (skip among)))
among_declaration place name firsts.Table places next among = skip (skip among)

among_decls : (decls : List Decl) (places : List ℕ) (next : List Piece) → Among places next → Among places (gr.decls decls next)
among_decls [] places next among = among
among_decls (decl ∷ decls) places next among = among_declaration decl.at decl.name decl.first places (gr.decls decls next) (among_decls decls places next among)

block_places : (place : ℕ) (shape : _) (row : Row_of-Stmt _) → places_in (Block' place shape row) ≡ places_of (items-the_row-Stmt _ row)
block_places place shape row =
    let e : out-Block (Block' place shape row) ≡ record { at = place; stmts = items-the_row-Stmt _ row } =
    outs-Block' place shape row ∙ ap (λ stmts. record { at = place; stmts = stmts }) (items_shown-the_row-Stmt-2 shape row) in
    places_in_block (Block' place shape row) ∙ (λ i. places_of ((e i).stmts))

case_places : (items : List Item) (block : Block) → places_in (out-Case (Case' items block)).block ≡ places_in block
case_places items block = λ i. places_in ((outs-Case' items block i).block)

recv_is : (chan : Chan) (shape : _) (row : Row_of-Case _) (other : List ℕ) (rest : Block) → out-Kind (Recv' chan shape row other rest) ≡ seen.Recv chan (items-the_row-Case _ row) other rest
recv_is chan shape row other rest = outs-Recv' chan shape row other rest ∙ ap (λ cases. seen.Recv chan cases other rest) (items_shown-the_row-Case-0 shape row)

either_is : (shape : _) (row : Row_of-Block _) → out-Kind (Either' shape row) ≡ seen.Either (items-the_row-Block _ row)
either_is shape row = outs-Either' shape row ∙ ap (λ arms. seen.Either arms) (items_shown-the_row-Block-1 shape row)

-- the places inside a statement, by what it does
as_seen : (place : ℕ) (kind : Kind) (open_kind : StmtKind) (places : List ℕ) (pieces : List Piece) → out-Kind kind ≡ open_kind → Among (place ∷ (places_inside open_kind ++ places)) pieces
    → Among (place ∷ (places_inside (out-Kind kind) ++ places)) pieces
as_seen place kind open_kind places pieces is among = subst (λ inside. Among (place ∷ (inside ++ places)) pieces) (sym (ap places_inside is)) among

apart : (front middle back : List ℕ) (pieces : List Piece) → Among (front ++ (middle ++ back)) pieces → Among ((front ++ middle) ++ back) pieces
apart front middle back pieces among = subst (λ all. Among all pieces) (sym (append_assoc front middle back)) among

mutual
  among_block : (b : Block) (places : List ℕ) (next : List Piece) → Among places next → Among (places_in b ++ places) (gr.block is_left_out b next)
  among_block (Block' place shape row) places next among =
      subst (λ inside. Among (inside ++ places) (gr.block is_left_out (Block' place shape row) next)) (sym (block_places place shape row))
      (skip (among_stmts row places (gr.sign signs.Close ∷ next) (skip among)))

  among_else : (place : ℕ) (b : Block) (places : List ℕ) (next : List Piece) → Among places next → Among (places_in b ++ places) (gr.else_part is_left_out place b next)
  among_else place (Block' at_else shape row) places next among =
      subst (λ inside. Among (inside ++ places) (gr.else_part is_left_out place (Block' at_else shape row) next)) (sym (block_places at_else shape row))
      (among_if (is_left_out place (Block' at_else shape row)) (places_of (items-the_row-Stmt _ row) ++ places) _ _
      (among_empty row places next among) (skip (skip (among_stmts row places (gr.sign signs.Close ∷ next) (skip among)))))

  among_empty : {m : _} (row : Row_of-Stmt m) (places : List ℕ) (next : List Piece) → Among places next → Among (places_of (items-the_row-Stmt _ row) ++ places) (gr.empty_else row next)
  among_empty end_of-Stmt places next among = among
  among_empty (more_of-Stmt place kind row) places next among = lost

  among_stmts : {m : _} (row : Row_of-Stmt m) (places : List ℕ) (next : List Piece) → Among places next → Among (places_of (items-the_row-Stmt _ row) ++ places) (gr.stmts is_left_out row next)
  among_stmts end_of-Stmt places next among = among
  among_stmts (more_of-Stmt place kind row) places next among =
      apart (place ∷ places_inside (out-Kind kind)) (places_of (items-the_row-Stmt _ row)) places (gr.stmts is_left_out (more_of-Stmt place kind row) next)
      (among_kind place kind (places_of (items-the_row-Stmt _ row) ++ places) (gr.stmts is_left_out row next) (among_stmts row places next among))

  among_cases : {m : _} (row : Row_of-Case m) (places : List ℕ) (next : List Piece) → Among places next
      → Among (concat (map (λ case. places_in (out-Case case).block) (items-the_row-Case _ row)) ++ places) (gr.cases is_left_out row next)
  among_cases end_of-Case places next among = among
  among_cases (more_of-Case (Case' pattern b) row) places next among =
      let later = among_cases row places next among in
      let all = concat (map (λ case. places_in (out-Case case).block) (items-the_row-Case _ row)) ++ places in
      let inside = among_block b all (gr.cases is_left_out row next) later in
      let behind = gr.block is_left_out b (gr.cases is_left_out row next) in
      let one = among_one pattern (places_in b ++ all) (gr.items pattern behind) (among_items pattern (places_in b ++ all) behind inside) in
      apart (places_in (out-Case (Case' pattern b)).block) (concat (map (λ case. places_in (out-Case case).block) (items-the_row-Case _ row))) places
      (gr.cases is_left_out (more_of-Case (Case' pattern b) row) next)
      (subst (λ front. Among (front ++ all) (gr.cases is_left_out (more_of-Case (Case' pattern b) row) next)) (sym (case_places pattern b)) (skip one))

  among_other_arms : {m : _} (row : Row_of-Block m) (places : List ℕ) (next : List Piece) → Among places next
      → Among (concat (map places_in (items-the_row-Block _ row)) ++ places) (gr.other_arms is_left_out row next)
  among_other_arms end_of-Block places next among = among
  among_other_arms (more_of-Block b row) places next among =
      apart (places_in b) (concat (map places_in (items-the_row-Block _ row))) places (gr.other_arms is_left_out (more_of-Block b row) next)
      (skip (among_block b (concat (map places_in (items-the_row-Block _ row)) ++ places) (gr.other_arms is_left_out row next) (among_other_arms row places next among)))

  among_second_arm : {m : _} (row : Row_of-Block m) (places : List ℕ) (next : List Piece) → Among places next
      → Among (concat (map places_in (items-the_row-Block _ row)) ++ places) (gr.one_other_arm_at_least is_left_out row next)
  among_second_arm end_of-Block places next among = lost
  among_second_arm (more_of-Block b row) places next among =
      apart (places_in b) (concat (map places_in (items-the_row-Block _ row))) places (gr.one_other_arm_at_least is_left_out (more_of-Block b row) next)
      (skip (among_block b (concat (map places_in (items-the_row-Block _ row)) ++ places) (gr.other_arms is_left_out row next) (among_other_arms row places next among)))

  among_arms : {m : _} (row : Row_of-Block m) (places : List ℕ) (next : List Piece) → Among places next
      → Among (concat (map places_in (items-the_row-Block _ row)) ++ places) (gr.arms is_left_out row next)
  among_arms end_of-Block places next among = lost
  among_arms (more_of-Block b row) places next among =
      apart (places_in b) (concat (map places_in (items-the_row-Block _ row))) places (gr.arms is_left_out (more_of-Block b row) next)
      (among_block b (concat (map places_in (items-the_row-Block _ row)) ++ places) (gr.one_other_arm_at_least is_left_out row next) (among_second_arm row places next among))

  among_kind : (place : ℕ) (kind : Kind) (places : List ℕ) (next : List Piece) → Among places next
      → Among (place ∷ (places_inside (out-Kind kind) ++ places)) (gr.stmt is_left_out place kind next)
  among_kind place (Recv' chan shape row other b) places next among =
      let behind = gr.word words.Other ∷ gr.name other ∷ gr.block is_left_out b (gr.sign signs.Close ∷ next) in
      let rest : Among (places_in b ++ places) behind = skip (skip (among_block b places (gr.sign signs.Close ∷ next) (skip among))) in
      let inside = among_cases row (places_in b ++ places) behind rest in
      let all = concat (map (λ case. places_in (out-Case case).block) (items-the_row-Case _ row)) in
      as_seen place (Recv' chan shape row other b) (seen.Recv chan (items-the_row-Case _ row) other b) places (gr.stmt is_left_out place (Recv' chan shape row other b) next) (recv_is chan shape row other b)
      (here (among_chan chan ((all ++ places_in b) ++ places) (gr.sign signs.Open ∷ gr.cases is_left_out row behind)
      (skip (apart all (places_in b) places (gr.cases is_left_out row behind) inside))))
  among_kind place (Send e es) places next among =
      as_seen place (Send e es) (seen.Send e es) places (gr.stmt is_left_out place (Send e es) next) (outs-Send e es) (here (skip (among_one es places (gr.parts es next) (among_parts es places next among))))
  among_kind place (Pick name len alphabet) places next among =
      as_seen place (Pick name len alphabet) (seen.Pick name len alphabet) places (gr.stmt is_left_out place (Pick name len alphabet) next) (outs-Pick name len alphabet) (here (skip (skip (skip among))))
  among_kind place (Assign name e more) places next among =
      as_seen place (Assign name e more) (seen.Assign name e more) places (gr.stmt is_left_out place (Assign name e more) next) (outs-Assign name e more) (here (skip (skip (among_tail more places next among))))
  among_kind place (If c holds fails) places next among =
      as_seen place (If c holds fails) (seen.If c holds fails) places (gr.stmt is_left_out place (If c holds fails) next) (outs-If c holds fails)
      (here (skip (skip (skip (apart (places_in holds) (places_in fails) places (gr.block is_left_out holds (gr.else_part is_left_out place fails next))
      (among_block holds (places_in fails ++ places) (gr.else_part is_left_out place fails next) (among_else place fails places next among)))))))
  among_kind place (Either' shape row) places next among =
      as_seen place (Either' shape row) (seen.Either (items-the_row-Block _ row)) places (gr.stmt is_left_out place (Either' shape row) next) (either_is shape row) (here (among_arms row places next among))
  among_kind place (Assume c) places next among =
      as_seen place (Assume c) (seen.Assume c) places (gr.stmt is_left_out place (Assume c) next) (outs-Assume c) (here (skip (skip (skip among))))
  among_kind place (Put table key value) places next among =
      as_seen place (Put table key value) (seen.Put table key value) places (gr.stmt is_left_out place (Put table key value) next) (outs-Put table key value) (here (skip (skip (skip among))))
  among_kind place (Lookup table key name found missing) places next among =
      as_seen place (Lookup table key name found missing) (seen.Lookup table key name found missing) places (gr.stmt is_left_out place (Lookup table key name found missing) next)
      (outs-Lookup table key name found missing)
      (here (skip (skip (skip (apart (places_in found) (places_in missing) places (gr.block is_left_out found (gr.else_part is_left_out place missing next))
      (among_block found (places_in missing ++ places) (gr.else_part is_left_out place missing next) (among_else place missing places next among)))))))
  among_kind place (Delete table key) places next among =
      as_seen place (Delete table key) (seen.Delete table key) places (gr.stmt is_left_out place (Delete table key) next) (outs-Delete table key) (here (skip (skip among)))

among_after : (keyword : Keyword) (b : Block) (places : List ℕ) (next : List Piece) → Among places next → Among (places_in b ++ places) (gr.block_after is_left_out keyword b next)
among_after keyword (Block' place shape row) places next among =
    subst (λ inside. Among (inside ++ places) (gr.block_after is_left_out keyword (Block' place shape row) next)) (sym (block_places place shape row))
    (skip (skip (among_stmts row places (gr.sign signs.Close ∷ next) (skip among))))

among_start : (start : Option Block) (places : List ℕ) (next : List Piece) → Among places next → Among (places_in_start start ++ places) (gr.start is_left_out start next)
among_start None places next among = among
among_start (Some b) places next among = among_after words.Start b places next among

-- The places of all statements of a specification that is written ascend.
pub written_in_order : (spec : Spec) → IsWritten spec → AreInOrder (stmt_places spec)
written_in_order spec (text, spells) =
    let body : Among (places_in spec.body) (gr.block_after is_left_out words.Loop spec.body [])
    = subst (λ places. Among places (gr.block_after is_left_out words.Loop spec.body [])) (append-nil (places_in spec.body)) (among_after words.Loop spec.body [] [] none) in
    let behind = gr.block_after is_left_out words.Loop spec.body [] in
    let all = among_start spec.start (places_in spec.body) behind body in
    let whole : Among (stmt_places spec) (gr.pieces_of_spec is_left_out spec)
    = skip (skip (skip (skip (skip (among_decls spec.decls (stmt_places spec) (gr.start is_left_out spec.start behind) all))))) in
    let up = in_order 0 spells.tokens whole spells.fits (spelled_rises spells.spelled) in
    record { most = up.0; up = up.1 }
