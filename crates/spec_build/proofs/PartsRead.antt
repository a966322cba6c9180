-- The parts of statements that hold no statements are read from the tokens that fit them.
use Rattle.std.proofs.Common.{◌≡◌, ℕ, suc, zero, true, List, [], ◌∷◌, ◌++◌, Option, Some, None, refl, ap, sym, arith, append_assoc, append-nil}
use Rattle.spec_model.specs.declared.token.Keyword.TheVariants as words
use Rattle.spec_model.specs.declared.token.Placed.{Placed}
use Rattle.spec_model.specs.declared.token.Punctuation.TheVariants as signs
use Rattle.spec_model.specs.declared.token.Token.TheVariants as tokens
use Rattle.spec_model.specs.declared.tree.Alphabet.{Alphabet}
use Rattle.spec_model.specs.declared.tree.Alphabet.TheVariants as alphabets
use Rattle.spec_model.specs.declared.tree.Chan.{Chan}
use Rattle.spec_model.specs.declared.tree.Chan.TheVariants.{Bind, From}
use Rattle.spec_model.specs.declared.tree.Cond.{Cond}
use Rattle.spec_model.specs.declared.tree.Expr.{Expr}
use Rattle.spec_model.specs.declared.tree.Expr.TheVariants.{Text, Num, Name}
use Rattle.spec_model.specs.declared.tree.HoleKind.{HoleKind}
use Rattle.spec_model.specs.declared.tree.HoleKind.TheVariants as holes
use Rattle.spec_model.specs.declared.tree.Item.{Item}
use Rattle.spec_model.specs.declared.tree.Item.TheVariants.{Lit, Hole}
use Rattle.spec_model.specs.declared.tree.Kind.TheVariants.{Send, Pick, Assign, Assume, Put, Delete}
use Rattle.spec_model.specs.declared.tree.Op.{Op}
use Rattle.spec_model.specs.declared.tree.Op.TheVariants as ops
use Rattle.spec_model.specs.declared.tree.Sign.{Sign}
use Rattle.spec_model.specs.declared.tree.Sign.TheVariants.{Plus, Minus}
use Rattle.spec_model.specs.Grammar as gr
use Rattle.spec_model.specs.Grammar.{Piece, some, at, never, Fits}
use Rattle.spec_build.specs.Reader as rd
use Rattle.spec_build.specs.Parts as pt
use Rattle.spec_build.proofs.Readings.{State, Reads, done, read_on, wider, named, cut_some, looser, token_reads, mark_reads, eaten, Shuns, shuns_some, not_eaten, counted_reads}

pub no_never : {A : Type 0} {next : List Piece} {depth bound : ℕ} (ts : List Placed) → State (never ∷ next) depth bound ts → A
no_never [] h = absurd h.fits
no_never (placed ∷ more) h = absurd h.fits

module _ {next : List Piece} {depth bound : ℕ} where
  pub name_reads : (v : List ℕ) (ts : List Placed) → State (gr.name v ∷ next) depth bound ts → Reads (rd.name ts) v next depth bound
  name_reads v ts h = token_reads rd.name_in (tokens.Name v) ts refl h

  pub text_reads : (v : List ℕ) (ts : List Placed) → State (some (tokens.Text v) ∷ next) depth bound ts → Reads (rd.text ts) v next depth bound
  text_reads v ts h = token_reads rd.text_in (tokens.Text v) ts refl h

  pub number_reads : (v : ℕ) (ts : List Placed) → State (some (tokens.Number v) ∷ next) depth bound ts → Reads (rd.number ts) v next depth bound
  number_reads v ts h = token_reads rd.number_in (tokens.Number v) ts refl h

  pub atom_reads : (e : Expr) (ts : List Placed) → State (gr.atom e ∷ next) depth bound ts → Reads (pt.atom ts) e next depth bound
  atom_reads (Text v) ts h = token_reads pt.atom_in (tokens.Text v) ts refl h
  atom_reads (Num v) ts h = token_reads pt.atom_in (tokens.Number v) ts refl h
  atom_reads (Name v) ts h = token_reads pt.atom_in (tokens.Name v) ts refl h

  pub conn_reads : (e : Expr) (ts : List Placed) → State (gr.conn_of e ∷ next) depth bound ts → Reads (pt.conn ts) e next depth bound
  conn_reads (Text v) ts h = no_never ts h
  conn_reads (Num v) ts h = token_reads pt.conn_in (tokens.Number v) ts refl h
  conn_reads (Name v) ts h = token_reads pt.conn_in (tokens.Name v) ts refl h

  pub hole_kind_reads : (k : HoleKind) (ts : List Placed) → State (gr.hole_kind k ∷ next) depth bound ts → Reads (pt.hole_kind ts) k next depth bound
  hole_kind_reads holes.Word ts h = token_reads pt.hole_kind_in (tokens.Keyword words.Word) ts refl h
  hole_kind_reads holes.Num ts h = token_reads pt.hole_kind_in (tokens.Keyword words.Num) ts refl h
  hole_kind_reads holes.Rest ts h = token_reads pt.hole_kind_in (tokens.Keyword words.Rest) ts refl h

  pub op_reads : (o : Op) (ts : List Placed) → State (gr.comparison o ∷ next) depth bound ts → Reads (pt.op ts) o next depth bound
  op_reads ops.Same ts h = token_reads pt.op_in (tokens.Sign signs.Same) ts refl h
  op_reads ops.Other ts h = token_reads pt.op_in (tokens.Sign signs.Other) ts refl h
  op_reads ops.Less ts h = token_reads pt.op_in (tokens.Sign signs.Less) ts refl h

  pub alphabet_reads : (a : Alphabet) (ts : List Placed) → State (gr.alphabet_word a ∷ next) depth bound ts → Reads (pt.alphabet ts) a next depth bound
  alphabet_reads alphabets.Hex ts h = token_reads pt.alphabet_in (tokens.Keyword words.Hex) ts refl h
  alphabet_reads alphabets.Alnum ts h = token_reads pt.alphabet_in (tokens.Keyword words.Alnum) ts refl h
  alphabet_reads alphabets.Any ts h = token_reads pt.alphabet_in (tokens.Keyword words.Any) ts refl h

-- ---- parts

-- a token of the list, and the tokens behind it, of which there is one fewer
pub part_first : {next : List Piece} {depth bound : ℕ} (e : Expr) (ts : List Placed) → State (gr.part e ∷ next) depth (suc bound) ts
    → (rd.sees_part ts ≡ true) × Reads (pt.part ts) e next depth bound
part_first (Text v) ts h =
    let c = cut_some (tokens.Text v) ts h in
    (ap rd.sees_part c.is, record { rest = c.more; is = ap pt.part c.is; state = c.state })
part_first (Name v) ts h =
    let c = cut_some (tokens.Name v) ts h in
    (ap rd.sees_part c.is, record { rest = c.more; is = ap pt.part c.is; state = c.state })
part_first (Num v) ts h = no_never ts h

pub some_token : {A : Type 0} {piece : Piece} {next : List Piece} {depth : ℕ} (ts : List Placed) → State (piece ∷ next) depth zero ts → A
some_token {piece = piece} {next = next} [] h = absurd (nothing piece next h.fits)
  where
    nothing : (p : Piece) (next : List Piece) → Fits (p ∷ next) [] → ⊥
    nothing (some token) next h = h
    nothing (at place token) next h = h
    nothing (gr.capped number) next h = h
    nothing never next h = h
some_token (placed ∷ more) h = absurd (omega (arith, h.few))

pub parts_from_reads : {next : List Piece} {depth : ℕ} (es found : List Expr) (n : ℕ) (ts : List Placed) → Shuns rd.begins_part next
    → State (gr.parts es next) depth n ts → Reads (pt.parts_from found n ts) (found ++ es) next depth n
unfolding pt.parts_from
parts_from_reads [] found zero ts ends h = named (sym (append-nil found)) (done h)
parts_from_reads [] found (suc n) ts ends h =
    let e = ends.shuns ts h.fits in named (sym (append-nil found)) (rw e (done h))
parts_from_reads (x ∷ es) found zero ts ends h = some_token ts h
parts_from_reads (x ∷ es) found (suc n) ts ends h =
    let first = part_first x ts h in
    let e : rd.sees_part ts ≡ true = first.0 in
    rw e (named (append_assoc found (x ∷ []) es) (wider (omega arith) (read_on _ first.1 (λ rest s. parts_from_reads es (found ++ x ∷ []) n rest ends s))))

pub parts_read : {next : List Piece} {depth bound : ℕ} (es : List Expr) (ts : List Placed) → Shuns rd.begins_part next
    → State (gr.one_at_least es (gr.parts es next)) depth bound ts → Reads (pt.parts ts) es next depth bound
parts_read [] ts ends h = no_never ts h
parts_read (e ∷ es) ts ends h =
    read_on _ (part_first e ts (looser h)).1 (λ rest s.
    counted_reads (pt.parts_from (e ∷ [])) rest (λ n r. parts_from_reads es (e ∷ []) n rest ends r) s)

-- ---- patterns

abbrev ItemIsFirst : Item → List Piece → ℕ → ℕ → List Placed → Type 0
ItemIsFirst i next depth bound ts = (rd.sees_part ts ≡ true) × Reads (pt.item ts) i next depth bound

item_first : {next : List Piece} {depth bound : ℕ} (i : Item) (ts : List Placed) → State (gr.item i next) depth (suc bound) ts → ItemIsFirst i next depth bound ts
item_first (Lit v) ts h =
    let first = part_first (Text v) ts h in
    (first.0, read_on pt.item_by first.1 (λ rest s. done s))
item_first (Hole v kind) ts h =
    let first = part_first (Name v) ts h in (
      first.0,
      read_on pt.item_by first.1 (λ rest s.
          read_on _ (mark_reads (rd.is_sign signs.Colon) (tokens.Sign signs.Colon) rest refl s) (λ rest s.
          read_on _ (hole_kind_reads kind rest s) (λ rest s. done s))),
    )

no_item : {A : Type 0} {depth : ℕ} (i : Item) (next : List Piece) (ts : List Placed) → State (gr.item i next) depth zero ts → A
no_item (Lit v) next ts h = some_token ts h
no_item (Hole v kind) next ts h = some_token ts h

pub items_from_reads : {next : List Piece} {depth : ℕ} (is found : List Item) (n : ℕ) (ts : List Placed) → Shuns rd.begins_part next
    → State (gr.items is next) depth n ts → Reads (pt.items_from found n ts) (found ++ is) next depth n
unfolding pt.items_from
items_from_reads [] found zero ts ends h = named (sym (append-nil found)) (done h)
items_from_reads [] found (suc n) ts ends h =
    let e = ends.shuns ts h.fits in named (sym (append-nil found)) (rw e (done h))
items_from_reads (i ∷ is) found zero ts ends h = no_item i _ ts h
items_from_reads (i ∷ is) found (suc n) ts ends h =
    let first = item_first i ts h in
    let e : rd.sees_part ts ≡ true = first.0 in
    rw e (named (append_assoc found (i ∷ []) is) (wider (omega arith) (read_on _ first.1 (λ rest s. items_from_reads is (found ++ i ∷ []) n rest ends s))))

pub items_read : {next : List Piece} {depth bound : ℕ} (is : List Item) (ts : List Placed) → Shuns rd.begins_part next
    → State (gr.one_at_least is (gr.items is next)) depth bound ts → Reads (pt.items ts) is next depth bound
items_read [] ts ends h = no_never ts h
items_read (i ∷ is) ts ends h =
    read_on _ (item_first i ts (looser h)).1 (λ rest s.
    counted_reads (pt.items_from (i ∷ [])) rest (λ n r. items_from_reads is (i ∷ []) n rest ends r) s)

-- ---- what may stand behind a statement

-- no further part of it comes next
pub record Ends (next : List Piece) : Type 0 where
  pub part : Shuns rd.begins_part next
  pub plus : Shuns (rd.is_sign signs.Plus) next
  pub minus : Shuns (rd.is_sign signs.Minus) next
  pub else_word : Shuns (rd.is_word words.Else) next
  pub or_word : Shuns (rd.is_word words.Or) next

module _ {next : List Piece} {depth bound : ℕ} where
  pub cond_reads : (c : Cond) (ts : List Placed) → State (gr.cond c next) depth bound ts → Reads (pt.cond ts) c next depth bound
  unfolding pt.cond
  cond_reads c ts h =
      read_on _ (atom_reads c.left ts h) (λ rest s.
      read_on _ (op_reads c.op rest s) (λ rest s.
      read_on _ (atom_reads c.right rest s) (λ rest s. done s)))

  pub tail_reads : (t : Option (Sign × Expr)) (ts : List Placed) → Ends next → State (gr.tail t next) depth bound ts → Reads (pt.tail ts) t next depth bound
  unfolding pt.tail
  tail_reads None ts ends h =
      read_on _ (not_eaten (rd.is_sign signs.Plus) ts ends.plus h) (λ rest s.
      read_on _ (not_eaten (rd.is_sign signs.Minus) rest ends.minus s) (λ rest s. done s))
  tail_reads (Some (Plus, e)) ts ends h =
      read_on _ (eaten (rd.is_sign signs.Plus) (tokens.Sign signs.Plus) ts refl (looser h)) (λ rest s.
      read_on _ (atom_reads e rest s) (λ rest s. done s))
  tail_reads (Some (Minus, e)) ts ends h =
      read_on _ (not_eaten (rd.is_sign signs.Plus) ts (shuns_some (rd.is_sign signs.Plus) (tokens.Sign signs.Minus) refl) h) (λ rest s.
      read_on _ (eaten (rd.is_sign signs.Minus) (tokens.Sign signs.Minus) rest refl (looser s)) (λ rest s.
      read_on _ (atom_reads e rest s) (λ rest s. done s)))

  pub chan_reads : (c : Chan) (ts : List Placed) → State (gr.chan c next) depth bound ts → Reads (pt.chan ts) c next depth bound
  unfolding pt.chan
  chan_reads (Bind v) ts h =
      read_on _ (not_eaten (rd.is_word words.From) ts (shuns_some (rd.is_word words.From) (tokens.Name v) refl) h) (λ rest s.
      read_on _ (name_reads v rest s) (λ rest s. done s))
  chan_reads (From e) ts h =
      read_on _ (eaten (rd.is_word words.From) (tokens.Keyword words.From) ts refl (looser h)) (λ rest s.
      read_on _ (conn_reads e rest s) (λ rest s. done s))

  pub send_reads : (e : Expr) (es : List Expr) (ts : List Placed) → Ends next
      → State (gr.conn_of e ∷ gr.one_at_least es (gr.parts es next)) depth bound ts → Reads (pt.send ts) (Send e es) next depth bound
  unfolding pt.send
  send_reads e es ts ends h =
      read_on _ (conn_reads e ts h) (λ rest s.
      read_on _ (parts_read es rest ends.part s) (λ rest s. done s))

  pub pick_reads : (v : List ℕ) (len : ℕ) (a : Alphabet) (ts : List Placed)
      → State (gr.name v ∷ some (tokens.Number len) ∷ gr.alphabet_word a ∷ next) depth bound ts → Reads (pt.pick ts) (Pick v len a) next depth bound
  unfolding pt.pick
  pick_reads v len a ts h =
      read_on _ (name_reads v ts h) (λ rest s.
      read_on _ (number_reads len rest s) (λ rest s.
      read_on _ (alphabet_reads a rest s) (λ rest s. done s)))

  pub assign_reads : (v : List ℕ) (e : Expr) (t : Option (Sign × Expr)) (ts : List Placed) → Ends next
      → State (gr.name v ∷ gr.atom e ∷ gr.tail t next) depth bound ts → Reads (pt.assign ts) (Assign v e t) next depth bound
  unfolding pt.assign
  assign_reads v e t ts ends h =
      read_on _ (name_reads v ts h) (λ rest s.
      read_on _ (atom_reads e rest s) (λ rest s.
      read_on _ (tail_reads t rest ends s) (λ rest s. done s)))

  pub assume_reads : (c : Cond) (ts : List Placed) → State (gr.cond c next) depth bound ts → Reads (pt.assume ts) (Assume c) next depth bound
  unfolding pt.assume
  assume_reads c ts h = read_on _ (cond_reads c ts h) (λ rest s. done s)

  pub put_reads : (v : List ℕ) (key value : Expr) (ts : List Placed)
      → State (gr.name v ∷ gr.atom key ∷ gr.atom value ∷ next) depth bound ts → Reads (pt.put ts) (Put v key value) next depth bound
  unfolding pt.put
  put_reads v key value ts h =
      read_on _ (name_reads v ts h) (λ rest s.
      read_on _ (atom_reads key rest s) (λ rest s.
      read_on _ (atom_reads value rest s) (λ rest s. done s)))

  pub delete_reads : (v : List ℕ) (key : Expr) (ts : List Placed) → State (gr.name v ∷ gr.atom key ∷ next) depth bound ts
      → Reads (pt.delete ts) (Delete v key) next depth bound
  unfolding pt.delete
  delete_reads v key ts h =
      read_on _ (name_reads v ts h) (λ rest s.
      read_on _ (atom_reads key rest s) (λ rest s. done s))
