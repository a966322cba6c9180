-- Statements and blocks are read from the tokens that fit them.
use Rattle.std.proofs.Common.{◌≡◌, ℕ, suc, zero, ◌+◌, ◌-◌, ◌≤◌, ◌==◌, Bool, true, false, if◌then◌else◌, List, [], ◌∷◌, ◌++◌, length, refl, ap, sym, subst, ◌∙◌, arith, append_assoc, append-nil}
use Rattle.std.proofs.lemmas.Bool.{eqb-true}
use Rattle.spec_model.specs.declared.token.Keyword.{Keyword}
use Rattle.spec_model.specs.declared.token.Keyword.TheVariants as words
use Rattle.spec_model.specs.declared.token.Placed.{Placed}
use Rattle.spec_model.specs.declared.token.Punctuation.TheVariants as signs
use Rattle.spec_model.specs.declared.token.Token.{Token}
use Rattle.spec_model.specs.declared.token.Token.TheVariants as tokens
use Rattle.spec_model.specs.declared.tree.Block.{Block, Block', roll-Block}
use Rattle.spec_model.specs.declared.tree.Case.{Case, Case', roll-Case}
use Rattle.spec_model.specs.declared.tree.Kind.{Kind}
use Rattle.spec_model.specs.declared.tree.Kind.TheVariants.{Recv', Send, Pick, Assign, If, Either, Either', Assume, Put, Lookup, Delete}
use Rattle.spec_model.specs.declared.tree.Kind.TheBlock.{Row_of-Block, end_of-Block, more_of-Block, Row_of-Case, end_of-Case, more_of-Case, Row_of-Stmt, end_of-Stmt, more_of-Stmt, items-the_row-Block, items-the_row-Case, items-the_row-Stmt}
use Rattle.spec_model.specs.declared.tree.Stmt.{Stmt}
use Rattle.spec_model.specs.Grammar as gr
use Rattle.spec_model.specs.Grammar.{Piece, some, at, never, Fits}
use Rattle.spec_model.specs.Spelling.{is_left_out}
use Rattle.spec_build.specs.Reader as rd
use Rattle.spec_build.specs.Reader.{Reader}
use Rattle.spec_build.specs.Statements as st
use Rattle.spec_build.proofs.Readings.{State, Reads, done, read_on, wider, named, cut_at, looser, mark_reads, mark_first, mark_at_reads, eaten, Shuns, shuns_some, shuns_at, not_eaten, counted_reads, closed_again}
use Rattle.spec_build.proofs.PartsRead.{Ends, no_never, some_token, name_reads, atom_reads, items_read, cond_reads, chan_reads, send_reads, pick_reads, assign_reads, assume_reads, put_reads, delete_reads}
use Rattle.spec_build.proofs.TreesMade.{block_made, case_made, recv_made, either_made}

-- ---- what stands behind a statement is no part of it

ends_some : {next : List Piece} (token : Token) → rd.begins_part token ≡ false → rd.is_sign signs.Plus token ≡ false → rd.is_sign signs.Minus token ≡ false
    → rd.is_word words.Else token ≡ false → rd.is_word words.Or token ≡ false → Ends (some token ∷ next)
ends_some token a b c d e = record {
  part = shuns_some rd.begins_part token a;
  plus = shuns_some (rd.is_sign signs.Plus) token b;
  minus = shuns_some (rd.is_sign signs.Minus) token c;
  else_word = shuns_some (rd.is_word words.Else) token d;
  or_word = shuns_some (rd.is_word words.Or) token e;
}

ends_at : {next : List Piece} (place : ℕ) (token : Token) → rd.begins_part token ≡ false → rd.is_sign signs.Plus token ≡ false → rd.is_sign signs.Minus token ≡ false
    → rd.is_word words.Else token ≡ false → rd.is_word words.Or token ≡ false → Ends (at place token ∷ next)
ends_at place token a b c d e = record {
  part = shuns_at rd.begins_part place token a;
  plus = shuns_at (rd.is_sign signs.Plus) place token b;
  minus = shuns_at (rd.is_sign signs.Minus) place token c;
  else_word = shuns_at (rd.is_word words.Else) place token d;
  or_word = shuns_at (rd.is_word words.Or) place token e;
}

kind_ends : (place : ℕ) (kind : Kind) (next : List Piece) → Ends (gr.stmt is_left_out place kind next)
kind_ends place (Recv' c shape row text b) next = ends_at place (tokens.Keyword words.Recv) refl refl refl refl refl
kind_ends place (Send e es) next = ends_at place (tokens.Keyword words.Send) refl refl refl refl refl
kind_ends place (Pick text len alphabet) next = ends_at place (tokens.Keyword words.Pick) refl refl refl refl refl
kind_ends place (Assign text e more) next = ends_at place (tokens.Keyword words.Set) refl refl refl refl refl
kind_ends place (If c holds fails) next = ends_at place (tokens.Keyword words.If) refl refl refl refl refl
kind_ends place (Either' shape row) next = ends_at place (tokens.Keyword words.Either) refl refl refl refl refl
kind_ends place (Assume c) next = ends_at place (tokens.Keyword words.Where) refl refl refl refl refl
kind_ends place (Put table key value) next = ends_at place (tokens.Keyword words.Put) refl refl refl refl refl
kind_ends place (Lookup table key text found missing) next = ends_at place (tokens.Keyword words.Get) refl refl refl refl refl
kind_ends place (Delete table key) next = ends_at place (tokens.Keyword words.Del) refl refl refl refl refl

row_ends : {m : _} (row : Row_of-Stmt m) (next : List Piece) → Ends (gr.stmts is_left_out row (gr.sign signs.Close ∷ next))
row_ends end_of-Stmt next = ends_some (tokens.Sign signs.Close) refl refl refl refl refl
row_ends (more_of-Stmt place kind row) next = kind_ends place kind (gr.stmts is_left_out row (gr.sign signs.Close ∷ next))

block_is_no_part : (b : Block) (next : List Piece) → Shuns rd.begins_part (gr.block is_left_out b next)
block_is_no_part (Block' place shape row) next = shuns_at rd.begins_part place (tokens.Sign signs.Open) refl

-- ---- the block behind `else`

empty_row : {m : _} {depth bound : ℕ} (row : Row_of-Stmt m) (next : List Piece) (ts : List Placed) → State (gr.empty_else row next) depth bound ts
    → (items-the_row-Stmt m row ≡ []) × State next depth bound ts
empty_row end_of-Stmt next ts h = (refl, h)
empty_row (more_of-Stmt place kind row) next ts h = no_never ts h

module _ {next : List Piece} {depth bound : ℕ} (block : Reader Block) where
  else_reads : (place : ℕ) (b : Block) (ts : List Placed) → Ends next
      → ((rest : List Placed) → State (gr.block is_left_out b next) depth bound rest → Reads (block rest) b next depth bound)
      → State (gr.else_part is_left_out place b next) depth bound ts → Reads (st.else_part block place ts) b next depth bound
  unfolding st.else_part
  else_reads place (Block' there shape row) ts ends reads h = by_test (place == there) refl h
    where
      by_test : (t : Bool) → (place == there) ≡ t
          → State (if t then gr.empty_else row next else gr.word words.Else ∷ gr.block is_left_out (Block' there shape row) next) depth bound ts
          → Reads (st.else_part block place ts) (Block' there shape row) next depth bound
      by_test true e h =
          let empty = empty_row row next ts h in
          let same : place ≡ there = eqb-true place there e in
          read_on _ (not_eaten (rd.is_word words.Else) ts ends.else_word empty.1) (λ rest s.
          named (ap (λ p. roll-Block (record { at = p; stmts = [] })) same
          ∙ (ap (λ stmts. roll-Block (record { at = there; stmts = stmts })) (sym empty.0) ∙ block_made there shape row)) (done s))
      by_test false e h =
          read_on _ (eaten (rd.is_word words.Else) (tokens.Keyword words.Else) ts refl (looser h)) (λ rest s. reads rest s)

-- ---- a statement's first word, and the rest of it

record Begins (blocks place : ℕ) (kind : Kind) (next : List Piece) (depth bound : ℕ) (ts : List Placed) : Type 0 where
  word : Keyword
  more : List Placed
  is : ts ≡ record { at = place; token = tokens.Keyword word } ∷ more
  reads : Reads (st.kind_by (st.block blocks) place word more) kind next depth bound

begun : {blocks place : ℕ} {kind : Kind} {pieces next : List Piece} {depth bound : ℕ} (word : Keyword) (ts : List Placed)
    → State (at place (tokens.Keyword word) ∷ pieces) depth (suc bound) ts
    → ((more : List Placed) → State pieces depth bound more → Reads (st.kind_by (st.block blocks) place word more) kind next depth bound)
    → Begins blocks place kind next depth bound ts
begun {place = place} word ts h reads =
    let c = cut_at place (tokens.Keyword word) ts h in
    record { word = word; more = c.more; is = c.is; reads = reads c.more c.state }

mutual
  unfolding st.block st.stmts_from st.cases_from st.arms_from st.either st.recv st.conditional st.lookup

  pub block_reads : {next : List Piece} {depth bound : ℕ} (b : Block) (blocks : ℕ) (ts : List Placed) → 32 ≤ depth + blocks
      → State (gr.block is_left_out b next) depth bound ts → Reads (st.block blocks ts) b next depth bound
  block_reads (Block' place shape row) zero ts room h =
      let c = cut_at place (tokens.Sign signs.Open) ts (looser h) in absurd (omega (arith, c.within, room))
  block_reads {depth = depth} (Block' place shape row) (suc blocks) ts room h =
      named (block_made place shape row) (closed_again {depth = depth} (
      read_on _ (mark_at_reads (rd.is_sign signs.Open) place (tokens.Sign signs.Open) ts refl h) (λ rest s.
      read_on _ (counted_reads (st.stmts_from (st.block blocks) []) rest (λ n r. stmts_read row [] blocks n rest (omega (arith, room)) r) s) (λ rest s. done s))))

  pub stmts_read : {m : _} {next : List Piece} {depth : ℕ} (row : Row_of-Stmt m) (found : List Stmt) (blocks n : ℕ) (ts : List Placed) → 32 ≤ depth + blocks
      → State (gr.stmts is_left_out row (gr.sign signs.Close ∷ next)) depth n ts
      → Reads (st.stmts_from (st.block blocks) found n ts) (found ++ items-the_row-Stmt m row) next (depth - 1) n
  stmts_read end_of-Stmt found blocks zero ts room h = some_token ts h
  stmts_read end_of-Stmt found blocks (suc n) ts room h =
      named (sym (append-nil found)) (wider (omega arith) (
      read_on _ (eaten (rd.is_sign signs.Close) (tokens.Sign signs.Close) ts refl h) (λ rest s. done s)))
  stmts_read {next = next} (more_of-Stmt place kind row) found blocks zero ts room h =
      let b = kind_begins kind place blocks ts (row_ends row next) room (looser h) in absurd (omega (arith, h.few, ap length b.is))
  stmts_read {m = m} {next = next} {depth = depth} (more_of-Stmt place kind row) found blocks (suc n) ts room h =
      let b = kind_begins kind place blocks ts (row_ends row next) room h in
      let all = items-the_row-Stmt m (more_of-Stmt place kind row) in
      subst (λ u. Reads (st.stmts_from (st.block blocks) found (suc n) u) (found ++ all) next (depth - 1) (suc n)) (sym b.is) (
      wider (omega arith) (
      read_on _ b.reads (λ rest s.
      named (append_assoc found (record { at = place; kind = kind } ∷ []) (items-the_row-Stmt _ row))
      (stmts_read row (found ++ record { at = place; kind = kind } ∷ []) blocks n rest room s))))

  pub cases_read : {m : _} {next : List Piece} {depth : ℕ} (row : Row_of-Case m) (found : List Case) (blocks n : ℕ) (ts : List Placed) → 32 ≤ depth + blocks
      → State (gr.cases is_left_out row (gr.word words.Other ∷ next)) depth n ts
      → Reads (st.cases_from (st.block blocks) found n ts) (found ++ items-the_row-Case m row) next depth n
  cases_read end_of-Case found blocks zero ts room h = some_token ts h
  cases_read end_of-Case found blocks (suc n) ts room h =
      named (sym (append-nil found)) (wider (omega arith) (
      read_on _ (eaten (rd.is_word words.Other) (tokens.Keyword words.Other) ts refl h) (λ rest s. done s)))
  cases_read (more_of-Case (Case' pattern b) row) found blocks zero ts room h = some_token ts h
  cases_read (more_of-Case (Case' pattern b) row) found blocks (suc n) ts room h =
      wider (omega arith) (
      read_on _ (not_eaten (rd.is_word words.Other) ts (shuns_some (rd.is_word words.Other) (tokens.Keyword words.Case) refl) h) (λ rest s.
      read_on _ (mark_first (rd.is_word words.Case) (tokens.Keyword words.Case) rest refl s) (λ rest s.
      read_on _ (items_read pattern rest (block_is_no_part b _) s) (λ rest s.
      read_on _ (block_reads b blocks rest room s) (λ rest s.
      named (ap (λ x. (found ++ x ∷ []) ++ items-the_row-Case _ row) (case_made pattern b) ∙ append_assoc found (Case' pattern b ∷ []) (items-the_row-Case _ row))
      (cases_read row (found ++ roll-Case (record { items = pattern; block = b }) ∷ []) blocks n rest room s))))))

  pub further_arms_read : {m : _} {next : List Piece} {depth : ℕ} (row : Row_of-Block m) (found : List Block) (blocks n : ℕ) (ts : List Placed)
      → 32 ≤ depth + blocks → Ends next → State (gr.other_arms is_left_out row next) depth n ts
      → Reads (st.arms_from (st.block blocks) found n ts) (found ++ items-the_row-Block m row) next depth n
  further_arms_read end_of-Block found blocks zero ts room ends h = named (sym (append-nil found)) (done h)
  further_arms_read end_of-Block found blocks (suc n) ts room ends h =
      named (sym (append-nil found)) (
      read_on _ (not_eaten (rd.is_word words.Or) ts ends.or_word h) (λ rest s. done s))
  further_arms_read (more_of-Block b row) found blocks zero ts room ends h = some_token ts h
  further_arms_read (more_of-Block b row) found blocks (suc n) ts room ends h =
      wider (omega arith) (
      read_on _ (eaten (rd.is_word words.Or) (tokens.Keyword words.Or) ts refl h) (λ rest s.
      read_on _ (block_reads b blocks rest room s) (λ rest s.
      named (append_assoc found (b ∷ []) (items-the_row-Block _ row)) (further_arms_read row (found ++ b ∷ []) blocks n rest room ends s))))

  pub either_reads : {m : _} {next : List Piece} {depth bound : ℕ} (row : Row_of-Block m) (blocks : ℕ) (ts : List Placed) → 32 ≤ depth + blocks → Ends next
      → State (gr.arms is_left_out row next) depth bound ts → Reads (st.either (st.block blocks) ts) (Either (items-the_row-Block m row)) next depth bound
  either_reads end_of-Block blocks ts room ends h = no_never ts h
  either_reads (more_of-Block b end_of-Block) blocks ts room ends h =
      let r = block_reads b blocks ts room h in no_never r.rest r.state
  either_reads (more_of-Block b (more_of-Block d row)) blocks ts room ends h =
      read_on _ (block_reads b blocks ts room h) (λ rest s.
      read_on _ (mark_reads (rd.is_word words.Or) (tokens.Keyword words.Or) rest refl s) (λ rest s.
      read_on _ (block_reads d blocks rest room s) (λ rest s.
      read_on _ (counted_reads (st.arms_from (st.block blocks) (b ∷ d ∷ [])) rest (λ n r. further_arms_read row (b ∷ d ∷ []) blocks n rest room ends r) s) (λ rest s. done s))))

  kind_begins : {next : List Piece} {depth bound : ℕ} (kind : Kind) (place blocks : ℕ) (ts : List Placed) → Ends next → 32 ≤ depth + blocks
      → State (gr.stmt is_left_out place kind next) depth (suc bound) ts → Begins blocks place kind next depth bound ts
  kind_begins {depth = depth} (Recv' c shape row text b) place blocks ts ends room h = begun words.Recv ts h (λ more s.
      named (recv_made c shape row text b) (
      read_on _ (chan_reads c more s) (λ rest s.
      closed_again {depth = depth} (
      read_on _ (mark_reads (rd.is_sign signs.Open) (tokens.Sign signs.Open) rest refl s) (λ rest s.
      read_on _ (counted_reads (st.cases_from (st.block blocks) []) rest (λ n r. cases_read row [] blocks n rest (omega (arith, room)) r) s) (λ rest s.
      read_on _ (name_reads text rest s) (λ rest s.
      read_on _ (block_reads b blocks rest (omega (arith, room)) s) (λ rest s.
      read_on _ (mark_reads (rd.is_sign signs.Close) (tokens.Sign signs.Close) rest refl s) (λ rest s. done s)))))))))
  kind_begins (Send e es) place blocks ts ends room h = begun words.Send ts h (λ more s. send_reads e es more ends s)
  kind_begins (Pick text len alphabet) place blocks ts ends room h = begun words.Pick ts h (λ more s. pick_reads text len alphabet more s)
  kind_begins (Assign text e t) place blocks ts ends room h = begun words.Set ts h (λ more s. assign_reads text e t more ends s)
  kind_begins (If c holds fails) place blocks ts ends room h = begun words.If ts h (λ more s.
      read_on _ (cond_reads c more s) (λ rest s.
      read_on _ (block_reads holds blocks rest room s) (λ rest s.
      read_on _ (else_reads (st.block blocks) place fails rest ends (λ rest s. block_reads fails blocks rest room s) s) (λ rest s. done s))))
  kind_begins (Either' shape row) place blocks ts ends room h = begun words.Either ts h (λ more s.
      named (either_made shape row) (either_reads row blocks more room ends s))
  kind_begins (Assume c) place blocks ts ends room h = begun words.Where ts h (λ more s. assume_reads c more s)
  kind_begins (Put table key value) place blocks ts ends room h = begun words.Put ts h (λ more s. put_reads table key value more s)
  kind_begins (Lookup table key text found missing) place blocks ts ends room h = begun words.Get ts h (λ more s.
      read_on _ (name_reads table more s) (λ rest s.
      read_on _ (atom_reads key rest s) (λ rest s.
      read_on _ (name_reads text rest s) (λ rest s.
      read_on _ (block_reads found blocks rest room s) (λ rest s.
      read_on _ (else_reads (st.block blocks) place missing rest ends (λ rest s. block_reads missing blocks rest room s) s) (λ rest s. done s))))))
  kind_begins (Delete table key) place blocks ts ends room h = begun words.Del ts h (λ more s. delete_reads table key more s)
