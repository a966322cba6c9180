-- A tree that has stored what a specification has gives the same values.
use Rattle.std.proofs.Common.{◌≡◌, ℕ, zero, suc, ◌<◌, Bool, List, [], ◌∷◌, length, map, take, filter, Option, Some, None, option_map, refl, sym, ◌∙◌, ap, arith}
use Rattle.std.specs.Prelude.{slice_get, bytes_eq}
use Rattle.std.specs.Option.{option_or}
use Rattle.spec_model.specs.declared.config.Binding.{Binding}
use Rattle.spec_model.specs.declared.config.Config.{Config}
use Rattle.spec_model.specs.declared.config.Pair.{Pair}
use Rattle.spec_model.specs.declared.config.Table.{Table}
use Rattle.spec_model.specs.declared.config.Value.{Value}
use Rattle.spec_model.specs.declared.tree.Cond.{Cond}
use Rattle.spec_model.specs.declared.tree.Decl.{Decl}
use Rattle.spec_model.specs.declared.tree.Expr.{Expr}
use Rattle.spec_model.specs.declared.tree.Expr.TheVariants as written
use Rattle.spec_model.specs.declared.tree.Sign.{Sign}
use Rattle.spec_model.specs.Step.{assigned_value, parts_sent}
use Rattle.spec_model.specs.Table.{key_is_at, pairs_in}
use Rattle.spec_model.specs.Value.{◌>>=◌, as_number, as_text, number_of, text_of, truth_of, value_in, value_named, value_of}
use Rattle.spec_model.proofs.Partial.{bind_gave, map_gave}
use Rattle.spec_rules.specs.declared.names.Known.{Known}
use Rattle.spec_rules.specs.Bad.{declares_register, declares_table}
use Rattle.itree_data.specs.declared.node.Val.{Val}
use Rattle.itree_data.specs.declared.node.Val.TheVariants as vals
use Rattle.itree_data.specs.Change.{next_has_key}
use Rattle.itree_data.specs.Resolve.{all_resolved, register_named, resolved, resolved_conn, slot_named, table_named, tail_resolved}
use Rattle.itree_data.specs.Standing.{Standing}
use Rattle.itree_data.specs.Value.{number_at, pieces_at, text_at, truth_at, value_assigned, value_at}
use Rattle.itree_data.proofs.Places.{found_placed, length_held, names_of, position_is, value_placed, value_unplaced, values_of}

pub slice_get_take : {A : Type 0} (xs : List A) (n i : ℕ) → i < n → slice_get (take n xs) i ≡ slice_get xs i
slice_get_take xs zero i within = absurd (omega arith)
slice_get_take [] (suc n) i within = refl
slice_get_take (x ∷ xs) (suc n) zero within = refl
slice_get_take (x ∷ xs) (suc n) (suc i) within = slice_get_take xs n i (omega arith)

pub taken_twice : {X Y : Type 0} (count : ℕ) (ys : List Y) (xs : List X) → take (length (take count ys)) xs ≡ take count (take (length ys) xs)
taken_twice zero ys xs = refl
taken_twice (suc count) [] xs = refl
taken_twice (suc count) (y ∷ ys) [] = refl
taken_twice (suc count) (y ∷ ys) (x ∷ xs) = ap (λ more. x ∷ more) (taken_twice count ys xs)

pub take_again : {X : Type 0} (n : ℕ) (xs : List X) → take n (take n xs) ≡ take n xs
take_again zero xs = refl
take_again (suc n) [] = refl
take_again (suc n) (x ∷ xs) = ap (λ more. x ∷ more) (take_again n xs)

some_there : {A : Type 0} (xs : List A) (i : ℕ) → i < length xs → (x : A) × (slice_get xs i ≡ Some x)
some_there [] i within = absurd (omega arith)
some_there (x ∷ xs) zero within = (x, refl)
some_there (x ∷ xs) (suc i) within = some_there xs i (omega arith)

abbrev pub known_names : List Known → List (List ℕ)
known_names scope = map (λ (known : Known). known.name) scope

abbrev pub declared_names : (Decl → Bool) → List Decl → List (List ℕ)
declared_names which decls = map (λ (decl : Decl). decl.name) (filter which decls)

abbrev pub pairs_of : List Table → List (List Pair)
pairs_of tables = map (λ (table : Table). table.pairs) tables

abbrev pub table_names : List Table → List (List ℕ)
table_names tables = map (λ (table : Table). table.name) tables

-- The locals of a tree that are in scope are those of the specification, by their slots.
pub record InScope (scope : List Known) (bound : List Binding) (locals : List Value) : Type 0 where
  pub names : names_of bound ≡ known_names scope
  pub values : take (length scope) locals ≡ values_of bound

-- The tree has stored what the specification has; of its locals those in scope count.
pub record Stores (decls : List Decl) (scope : List Known) (c : Config) (t : Standing) : Type 0 where
  pub locals : InScope scope c.locals t.locals
  pub register_names : names_of c.registers ≡ declared_names declares_register decls
  pub registers : t.registers ≡ values_of c.registers
  pub table_names : table_names c.tables ≡ declared_names declares_table decls
  pub tables : t.tables ≡ pairs_of c.tables
  pub taken : t.taken ≡ c.taken
  pub sent : t.sent ≡ c.sent

module _ (decls : List Decl) (scope : List Known) (c : Config) (t : Standing) (stores : Stores decls scope c t) where
  local_value : (name : List ℕ) (slot : ℕ) → slot_named scope name ≡ Some slot → value_named c name ≡ slice_get t.locals slot
  local_value name slot is =
      let placed = value_placed (λ (known : Known). known.name) c.locals scope name slot stores.locals.names is in
      let within = (position_is (λ (known : Known). bytes_eq known.name name) scope slot is).1 in
      let long = length_held (λ (b : Binding). b.name) (λ (b : Binding). b.value) (λ (known : Known). known.name) c.locals scope stores.locals.names in
      let there = some_there (values_of c.locals) slot (omega (arith, within, long)) in
      let here : slice_get t.locals slot ≡ slice_get (values_of c.locals) slot
      = sym (slice_get_take t.locals (length scope) slot within) ∙ ap (λ xs. slice_get xs slot) stores.locals.values in
      ap (λ o. option_or o (value_in c.registers name)) (placed ∙ there.1) ∙ sym (here ∙ there.1)

  register_value : (name : List ℕ) (register : ℕ) → slot_named scope name ≡ None → register_named decls name ≡ Some register → value_named c name ≡ slice_get t.registers register
  register_value name register none is =
      let unplaced = value_unplaced (λ (known : Known). known.name) c.locals scope name stores.locals.names none in
      let placed = value_placed (λ (decl : Decl). decl.name) c.registers (filter declares_register decls) name register stores.register_names is in
      ap (λ o. option_or o (value_in c.registers name)) unplaced ∙ placed ∙ ap (λ xs. slice_get xs register) (sym stores.registers)

  by_register : (name : List ℕ) (val : Val) (o : Option ℕ) → slot_named scope name ≡ None → register_named decls name ≡ o
      → option_map vals.Register o ≡ Some val → value_named c name ≡ value_at t val
  by_register name val (Some register) none is e =
      let same : vals.Register register ≡ val = cc in register_value name register none is ∙ ap (value_at t) same
  by_register name val None none is e = absurd (cc)

  by_slot : (name : List ℕ) (val : Val) (o : Option ℕ) → slot_named scope name ≡ o
      → option_or (option_map vals.Local o) (option_map vals.Register (register_named decls name)) ≡ Some val → value_named c name ≡ value_at t val
  by_slot name val (Some slot) is e = let same : vals.Local slot ≡ val = cc in local_value name slot is ∙ ap (value_at t) same
  by_slot name val None is e = by_register name val (register_named decls name) is refl e

  -- What a written value stands for in a specification is what its value in the tree stands for.
  pub value_same : (e : Expr) (val : Val) → resolved decls scope e ≡ Some val → value_of c e ≡ value_at t val
  value_same (written.Text text) val is = let same : vals.Text text ≡ val = cc in ap (value_at t) same
  value_same (written.Num number) val is = let same : vals.Num number ≡ val = cc in ap (value_at t) same
  value_same (written.Name name) val is = by_slot name val (slot_named scope name) refl is

  pub conn_same : (e : Expr) (val : Val) → resolved_conn decls scope e ≡ Some val → number_of c e ≡ number_at t val
  conn_same (written.Text text) val is = ap (λ o. o >>= as_number) (value_same (written.Text text) val is)
  conn_same (written.Num number) val is = let same : vals.Conn number ≡ val = cc in ap (number_at t) same
  conn_same (written.Name name) val is = ap (λ o. o >>= as_number) (value_same (written.Name name) val is)

  pub text_same : (e : Expr) (val : Val) → resolved decls scope e ≡ Some val → text_of c e ≡ text_at t val
  text_same e val is = ap (λ o. o >>= as_text) (value_same e val is)

  pub number_same : (e : Expr) (val : Val) → resolved decls scope e ≡ Some val → number_of c e ≡ number_at t val
  number_same e val is = ap (λ o. o >>= as_number) (value_same e val is)

  pub parts_same : (es : List Expr) (values : List Val) → all_resolved decls scope es ≡ Some values → parts_sent c es ≡ pieces_at t values
  parts_same [] values is = let same : [] ≡ values = cc in ap (pieces_at t) same
  parts_same (e ∷ es) values is =
      let first = bind_gave (resolved decls scope e) _ values is in
      let rest = bind_gave (all_resolved decls scope es) _ values first.2 in
      let same : first.0 ∷ rest.0 ≡ values = cc in
      let value = value_same e first.0 first.1 in
      let more = parts_same es rest.0 rest.1 in
      rw (value, more) (ap (pieces_at t) same)

  pub truth_same : (cond : Cond) (left right : Val) → resolved decls scope cond.left ≡ Some left → resolved decls scope cond.right ≡ Some right
      → truth_of c cond ≡ truth_at t left cond.op right
  truth_same cond left right left_is right_is =
      let a = value_same cond.left left left_is in let b = value_same cond.right right right_is in rw (a, b) refl

  pub assigned_same : (left : Expr) (tail : Option (Sign × Expr)) (val : Val) (tail_val : Option (Sign × Val))
      → resolved decls scope left ≡ Some val → tail_resolved decls scope tail ≡ Some tail_val → assigned_value c left tail ≡ value_assigned t val tail_val
  assigned_same left None val tail_val is tail_is = let same : None ≡ tail_val = cc in value_same left val is ∙ ap (value_assigned t val) same
  assigned_same left (Some tail) val tail_val is tail_is =
      let right = map_gave (λ (right : Val). let one : Option (Sign × Val) = Some (tail.0, right) in one) (resolved decls scope tail.1) tail_val tail_is in
      let a = number_same left val is in let b = number_same tail.1 right.0 right.1 in
      rw (a, b) (ap (value_assigned t val) right.2)

  pub pairs_same : (name : List ℕ) (table : ℕ) → table_named decls name ≡ Some table → pairs_in c name ≡ slice_get t.tables table
  pairs_same name table is =
      found_placed (λ (one : Table). one.name) (λ (one : Table). one.pairs) (λ (decl : Decl). decl.name) c.tables (filter declares_table decls) name table stores.table_names is
      ∙ ap (λ xs. slice_get xs table) (sym stores.tables)

  pub key_same : (name : List ℕ) (key : Expr) (table : ℕ) (val : Val) → table_named decls name ≡ Some table → resolved decls scope key ≡ Some val
      → key_is_at c name key t.compared ≡ next_has_key t table val
  key_same name key table val is key_is = let pairs = pairs_same name table is in let text = text_same key val key_is in rw (pairs, text) refl
