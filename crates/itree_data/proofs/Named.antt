-- In each statement of an accepted specification the names stand for what its node asks for.
use Rattle.std.proofs.Common.{◌≡◌, ℕ, ◌⊎◌, inl, inr, Bool, true, false, ◌&&◌, ◌||◌, List, [], ◌∷◌, ◌++◌, Option, Some, None, refl, sym, ◌∙◌, ap}
use Rattle.std.specs.Prelude.{is_some, IsSome, bytes_eq}
use Rattle.std.specs.List.{AllByRecursion, list_all}
use Rattle.spec_model.specs.declared.tree.Chan.{Chan}
use Rattle.spec_model.specs.declared.tree.Chan.TheVariants.{Bind, From}
use Rattle.spec_model.specs.declared.tree.Block.{Block}
use Rattle.spec_model.specs.declared.tree.Case.{Case}
use Rattle.spec_model.specs.declared.tree.Cond.{Cond}
use Rattle.spec_model.specs.declared.tree.Decl.{Decl}
use Rattle.spec_model.specs.declared.tree.Expr.{Expr}
use Rattle.spec_model.specs.declared.tree.Expr.TheVariants as written
use Rattle.spec_model.specs.declared.tree.First.{First}
use Rattle.spec_model.specs.declared.tree.First.TheVariants as firsts
use Rattle.spec_model.specs.declared.tree.Kind.TheOpen.{Recv, Send, Assign, If, Assume, Put, Lookup, Delete}
use Rattle.spec_model.specs.declared.tree.Op.{Op}
use Rattle.spec_model.specs.declared.tree.Op.TheVariants.{Same, Other, Less}
use Rattle.spec_model.specs.declared.tree.Sign.{Sign}
use Rattle.spec_model.proofs.Partial.{both_passed}
use Rattle.spec_rules.specs.declared.names.Known.{Known}
use Rattle.spec_rules.specs.declared.names.Meaning.{Meaning}
use Rattle.spec_rules.specs.declared.names.Meaning.TheVariants.{Register, Local, Table}
use Rattle.spec_rules.specs.declared.names.ValueType.{ValueType}
use Rattle.spec_rules.specs.Bad.{declares_register, declares_table}
use Rattle.spec_rules.specs.declared.names.ValueType.TheVariants.{Text, Number, Conn}
use Rattle.spec_rules.specs.Names.{is_known, may_assign, may_be, may_compare, may_mean_table, meaning_declared, meaning_of, names_declared, values_of_cond, values_of_tail}
use Rattle.itree_data.specs.Leaves.{AreNamed, IsChanNamed, IsTableKey}
use Rattle.itree_data.specs.Making.{IsAllSound, IsLocal}
use Rattle.itree_data.specs.Resolve.{all_resolved, register_named, resolved, resolved_conn, table_named, tail_resolved}
use Rattle.itree_data.proofs.Sound.{IsKnownIn, means_other, no_register, not_declared, target_known, value_stands, values_known, well_typed}

pub some_not_none : {A : Type 0} (o : Option A) → IsSome o → o ≡ None → ⊥
some_not_none None some none = absurd (cc)
some_not_none (Some x) some none = cc

pub same_value : {A : Type 0} (x y : A) (o p q : Option A) → o ≡ q → o ≡ Some x → p ≡ q → p ≡ Some y → x ≡ y
same_value x y o p q is x_is also y_is = let both : Some x ≡ Some y = sym x_is ∙ is ∙ sym also ∙ y_is in cc

pub some_not_empty : {A : Type 0} (o p : Option A) → IsSome p → o ≡ p → o ≡ None → ⊥
some_not_empty o p some same none = some_not_none p some (sym same ∙ none)

either_passed : (a b : Bool) → (a || b) ≡ true → (a ≡ true) ⊎ (b ≡ true)
either_passed true b e = inl refl
either_passed false b e = inr e

module _ (decls : List Decl) (scope : List Known) where
  abbrev known_here : List Known
  known_here = names_declared decls ++ scope

  conn_stands : (e : Expr) → IsKnownIn known_here e → may_be known_here Conn e ≡ true → IsSome (resolved_conn decls scope e)
  conn_stands (written.Text text) known means = refl
  conn_stands (written.Num number) known means = refl
  conn_stands (written.Name name) known means = value_stands decls scope (written.Name name) Conn known means

  pub send_conn : (named : Expr) (parts : List Expr) → IsAllSound decls scope (Send named parts) → IsSome (resolved_conn decls scope named)
  send_conn named parts sound =
      let typed = both_passed (may_be known_here Conn named) _ (well_typed known_here (Send named parts) sound.here) in
      conn_stands named (values_known known_here (Send named parts) sound.here).0 typed.0

  part_stands : (e : Expr) → IsKnownIn known_here e → (may_be known_here Text e ≡ true) ⊎ (may_be known_here Number e ≡ true) → IsSome (resolved decls scope e)
  part_stands e known (inl means) = value_stands decls scope e Text known means
  part_stands e known (inr means) = value_stands decls scope e Number known means

  all_step : (e : Expr) (es : List Expr) → IsSome (resolved decls scope e) → IsSome (all_resolved decls scope es) → IsSome (all_resolved decls scope (e ∷ es))
  all_step e es one more = by (resolved decls scope e) (all_resolved decls scope es) refl refl one more
    where
      by : (o : Option _) (os : Option (List _)) → resolved decls scope e ≡ o → all_resolved decls scope es ≡ os → IsSome o → IsSome os → IsSome (all_resolved decls scope (e ∷ es))
      by (Some val) (Some vals) is are one more = rw (is, are) refl
      by None os is are one more = absurd (cc)
      by (Some val) None is are one more = absurd (cc)

  parts_stand : (parts : List Expr) → AllByRecursion (IsKnownIn known_here) parts → list_all (λ part. may_be known_here Text part || may_be known_here Number part) parts ≡ true
      → IsSome (all_resolved decls scope parts)
  parts_stand [] known typed = refl
  parts_stand (part ∷ parts) known typed =
      let both = both_passed (may_be known_here Text part || may_be known_here Number part) _ typed in
      all_step part parts (part_stands part known.0 (either_passed (may_be known_here Text part) (may_be known_here Number part) both.0)) (parts_stand parts known.1 both.1)

  pub send_parts : (named : Expr) (parts : List Expr) → IsAllSound decls scope (Send named parts) → IsSome (all_resolved decls scope parts)
  send_parts named parts sound =
      let typed = both_passed (may_be known_here Conn named) _ (well_typed known_here (Send named parts) sound.here) in
      parts_stand parts (values_known known_here (Send named parts) sound.here).1 typed.1

  both_of : (cond : Cond) (type : ValueType) → AllByRecursion (IsKnownIn known_here) (values_of_cond cond) → (may_be known_here type cond.left && may_be known_here type cond.right) ≡ true
      → AreNamed decls scope (values_of_cond cond)
  both_of cond type known means =
      let both = both_passed (may_be known_here type cond.left) (may_be known_here type cond.right) means in
      (value_stands decls scope cond.left type known.0 both.0, (value_stands decls scope cond.right type known.1.0 both.1, tt))

  three : (cond : Cond) → AllByRecursion (IsKnownIn known_here) (values_of_cond cond)
      → (((may_be known_here Text cond.left && may_be known_here Text cond.right) || (may_be known_here Number cond.left && may_be known_here Number cond.right))
      || (may_be known_here Conn cond.left && may_be known_here Conn cond.right)) ≡ true
      → AreNamed decls scope (values_of_cond cond)
  three cond known means =
      elim (either_passed ((may_be known_here Text cond.left && may_be known_here Text cond.right) || (may_be known_here Number cond.left && may_be known_here Number cond.right)) _ means) [
        | inl two ↦ elim (either_passed (may_be known_here Text cond.left && may_be known_here Text cond.right) _ two) [
          | inl texts ↦ both_of cond Text known texts
          | inr numbers ↦ both_of cond Number known numbers
        ]
        | inr conns ↦ both_of cond Conn known conns
      ]

  by_op : (cond : Cond) (op : Op) → cond.op ≡ op → AllByRecursion (IsKnownIn known_here) (values_of_cond cond) → may_compare known_here cond ≡ true → AreNamed decls scope (values_of_cond cond)
  by_op cond Same is known typed = three cond known (rw is at typed)
  by_op cond Other is known typed = three cond known (rw is at typed)
  by_op cond Less is known typed = both_of cond Number known (rw is at typed)

  -- the sides of a condition
  pub if_sides : (cond : Cond) (holds fails : Block) → IsAllSound decls scope (If cond holds fails) → AreNamed decls scope (values_of_cond cond)
  if_sides cond holds fails sound =
      by_op cond cond.op refl (values_known known_here (If cond holds fails) sound.here) (well_typed known_here (If cond holds fails) sound.here)

  pub assume_sides : (cond : Cond) → IsAllSound decls scope (Assume cond) → AreNamed decls scope (values_of_cond cond)
  assume_sides cond sound =
      by_op cond cond.op refl (values_known known_here (Assume cond) sound.here) (well_typed known_here (Assume cond) sound.here)

  -- the connection that a `recv` names
  pub recv_conn : (chan : Chan) (cases : List Case) (other : List ℕ) (block : Block) → IsAllSound decls scope (Recv chan cases other block) → IsChanNamed decls scope chan
  recv_conn (Bind name) cases other block sound = tt
  recv_conn (From named) cases other block sound =
      conn_stands named (values_known known_here (Recv (From named) cases other block) sound.here).0 (well_typed known_here (Recv (From named) cases other block) sound.here)

is_local : (meaning : Meaning) → IsLocal meaning → (type : ValueType) × (meaning ≡ Local type)
is_local (Local type) local = (type, refl)
is_local (Register type) local = absurd local
is_local Table local = absurd local

-- what a local means, if there is one of that name
record MeansLocal (scope : List Known) (name : List ℕ) : Type 0 where
  meaning : (meaning_of scope name ≡ None) ⊎ ((type : ValueType) × (meaning_of scope name ≡ Some (Local type)))

local_step : (one : Known) (scope : List Known) (name : List ℕ) (b : Bool) → bytes_eq one.name name ≡ b → IsLocal one.meaning → MeansLocal scope name → MeansLocal (one ∷ scope) name
local_step one scope name true e local more = let is = is_local one.meaning local in record { meaning = inr (is.0, rw e (ap (λ m. Some m) is.1)) }
local_step one scope name false e local more = record { meaning = rw e more.meaning }

means_local : (scope : List Known) (name : List ℕ) → AllByRecursion (λ (one : Known). IsLocal one.meaning) scope → MeansLocal scope name
means_local [] name locals = record { meaning = inl refl }
means_local (one ∷ scope) name locals = local_step one scope name (bytes_eq one.name name) refl locals.0 (means_local scope name locals.1)

register_declared : (decl : Decl) (first : First) → decl.first ≡ first → declares_table decl ≡ false → (type : ValueType) × (meaning_declared decl.first ≡ Register type)
register_declared decl (firsts.Text text) is none = (Text, rw is refl)
register_declared decl (firsts.Num number) is none = (Number, rw is refl)
register_declared decl (firsts.Conn conn) is none = (Conn, rw is refl)
register_declared decl firsts.Table is none = absurd (let wrong = rw is at none in cc)

module _ (decls : List Decl) (scope : List Known) (locals : AllByRecursion (λ (one : Known). IsLocal one.meaning) scope) where
  abbrev meaning_here : List ℕ → Option Meaning
  meaning_here name = meaning_of (names_declared decls ++ scope) name

  table_by : (name : List ℕ) (table : Option ℕ) → table_named decls name ≡ table → is_known (names_declared decls ++ scope) name ≡ true → may_mean_table (meaning_here name) ≡ true → IsSome table
  table_by name (Some table) is known means = refl
  table_by name None is known means =
      absurd (elim (means_other declares_table decls scope name (not_declared declares_table decls name is)).meaning [
        | inl same ↦ elim (means_local scope name locals).meaning [
          | inl none ↦ (let wrong : true ≡ false = sym known ∙ ap is_some (same ∙ none) in cc)
          | inr local ↦ (let wrong : true ≡ false = sym means ∙ ap may_mean_table (same ∙ local.1) in cc)
        ]
        | inr declared ↦ (let register = register_declared declared.0 declared.0.first refl declared.1 in
            let wrong : true ≡ false = sym means ∙ ap may_mean_table (declared.2 ∙ ap (λ m. Some m) register.1) in cc)
      ])

  -- A name that means a table is that of one.
  table_stands : (name : List ℕ) → is_known (names_declared decls ++ scope) name ≡ true → may_mean_table (meaning_here name) ≡ true → IsSome (table_named decls name)
  table_stands name known means = table_by name (table_named decls name) refl known means

  register_by : (name : List ℕ) (left : Expr) (tail : Option (Sign × Expr)) (register : Option ℕ) → register_named decls name ≡ register → is_known (names_declared decls ++ scope) name ≡ true
      → may_assign (names_declared decls ++ scope) (meaning_here name) left tail ≡ true → IsSome register
  register_by name left tail (Some register) is known means = refl
  register_by name left tail None is known means =
      absurd (elim (means_other declares_register decls scope name (not_declared declares_register decls name is)).meaning [
        | inl same ↦ elim (means_local scope name locals).meaning [
          | inl none ↦ (let wrong : true ≡ false = sym known ∙ ap is_some (same ∙ none) in cc)
          | inr local ↦ (let wrong : true ≡ false = sym means ∙ ap (λ m. may_assign (names_declared decls ++ scope) m left tail) (same ∙ local.1) in cc)
        ]
        | inr declared ↦ (let table = no_register declared.0 declared.0.first refl declared.1 in
            let wrong : true ≡ false = sym means ∙ ap (λ m. may_assign (names_declared decls ++ scope) m left tail) (declared.2 ∙ ap (λ first. Some (meaning_declared first)) table) in cc)
      ])

pub put_table : (decls : List Decl) (scope : List Known) (name : List ℕ) (key value : Expr) → IsAllSound decls scope (Put name key value) → IsSome (table_named decls name)
put_table decls scope name key value sound =
    let typed = both_passed (may_mean_table (meaning_of (names_declared decls ++ scope) name) && may_be (names_declared decls ++ scope) Text key) _
    (well_typed (names_declared decls ++ scope) (Put name key value) sound.here) in
    let table = both_passed (may_mean_table (meaning_of (names_declared decls ++ scope) name)) _ typed.0 in
    table_stands decls scope sound.locals name (target_known (names_declared decls ++ scope) (Put name key value) name sound.here refl) table.0

pub put_key : (decls : List Decl) (scope : List Known) (name : List ℕ) (key value : Expr) → IsAllSound decls scope (Put name key value) → IsSome (resolved decls scope key)
put_key decls scope name key value sound =
    let typed = both_passed (may_mean_table (meaning_of (names_declared decls ++ scope) name) && may_be (names_declared decls ++ scope) Text key) _
    (well_typed (names_declared decls ++ scope) (Put name key value) sound.here) in
    let text = both_passed (may_mean_table (meaning_of (names_declared decls ++ scope) name)) _ typed.0 in
    value_stands decls scope key Text (values_known (names_declared decls ++ scope) (Put name key value) sound.here).0 text.1

pub put_value : (decls : List Decl) (scope : List Known) (name : List ℕ) (key value : Expr) → IsAllSound decls scope (Put name key value) → IsSome (resolved decls scope value)
put_value decls scope name key value sound =
    let typed = both_passed (may_mean_table (meaning_of (names_declared decls ++ scope) name) && may_be (names_declared decls ++ scope) Text key) _
    (well_typed (names_declared decls ++ scope) (Put name key value) sound.here) in
    value_stands decls scope value Text (values_known (names_declared decls ++ scope) (Put name key value) sound.here).1.0 typed.1

pub delete_table : (decls : List Decl) (scope : List Known) (name : List ℕ) (key : Expr) → IsAllSound decls scope (Delete name key) → IsSome (table_named decls name)
delete_table decls scope name key sound =
    let typed = both_passed (may_mean_table (meaning_of (names_declared decls ++ scope) name)) _ (well_typed (names_declared decls ++ scope) (Delete name key) sound.here) in
    table_stands decls scope sound.locals name (target_known (names_declared decls ++ scope) (Delete name key) name sound.here refl) typed.0

pub delete_key : (decls : List Decl) (scope : List Known) (name : List ℕ) (key : Expr) → IsAllSound decls scope (Delete name key) → IsSome (resolved decls scope key)
delete_key decls scope name key sound =
    let typed = both_passed (may_mean_table (meaning_of (names_declared decls ++ scope) name)) _ (well_typed (names_declared decls ++ scope) (Delete name key) sound.here) in
    value_stands decls scope key Text (values_known (names_declared decls ++ scope) (Delete name key) sound.here).0 typed.1

pub lookup_named : (decls : List Decl) (scope : List Known) (name : List ℕ) (key : Expr) (bound : List ℕ) (found absent : Block) → IsAllSound decls scope (Lookup name key bound found absent)
    → IsTableKey decls scope name key
lookup_named decls scope name key bound found absent sound =
    let kind = Lookup name key bound found absent in
    let typed = both_passed (may_mean_table (meaning_of (names_declared decls ++ scope) name)) _ (well_typed (names_declared decls ++ scope) kind sound.here) in
    record {
      has_table = table_stands decls scope sound.locals name (target_known (names_declared decls ++ scope) kind name sound.here refl) typed.0;
      has_value = value_stands decls scope key Text (values_known (names_declared decls ++ scope) kind sound.here).0 typed.1;
    }

pub assign_register : (decls : List Decl) (scope : List Known) (name : List ℕ) (left : Expr) (tail : Option (Sign × Expr)) → IsAllSound decls scope (Assign name left tail) → IsSome (register_named decls name)
assign_register decls scope name left tail sound =
    register_by decls scope sound.locals name left tail (register_named decls name) refl (target_known (names_declared decls ++ scope) (Assign name left tail) name sound.here refl)
    (well_typed (names_declared decls ++ scope) (Assign name left tail) sound.here)

-- the values of an assignment stand for what its node asks for
record AssignsValues (decls : List Decl) (scope : List Known) (left : Expr) (tail : Option (Sign × Expr)) : Type 0 where
  left_stands : IsSome (resolved decls scope left)
  tail_stands : IsSome (tail_resolved decls scope tail)

tail_step : (decls : List Decl) (scope : List Known) (sign : Sign) (e : Expr) (o : Option _) → resolved decls scope e ≡ o → IsSome o → IsSome (tail_resolved decls scope (Some (sign, e)))
tail_step decls scope sign e (Some val) is some = rw is refl
tail_step decls scope sign e None is some = absurd (cc)

assigns_by : (decls : List Decl) (scope : List Known) (name : List ℕ) (left : Expr) (tail : Option (Sign × Expr)) (meaning : Option Meaning) → meaning_of (names_declared decls ++ scope) name ≡ meaning
    → is_known (names_declared decls ++ scope) name ≡ true → may_assign (names_declared decls ++ scope) meaning left tail ≡ true
    → AllByRecursion (IsKnownIn (names_declared decls ++ scope)) (left ∷ values_of_tail tail) → AssignsValues decls scope left tail
assigns_by decls scope name left tail None is known means values = absurd (let wrong : true ≡ false = sym known ∙ ap is_some is in cc)
assigns_by decls scope name left tail (Some (Local type)) is known means values = absurd (cc)
assigns_by decls scope name left tail (Some Table) is known means values = absurd (cc)
assigns_by decls scope name left None (Some (Register type)) is known means values =
    record { left_stands = value_stands decls scope left type values.0 means; tail_stands = refl }
assigns_by decls scope name left (Some tail) (Some (Register type)) is known means values =
    let right = both_passed _ (may_be (names_declared decls ++ scope) Number tail.1) means in
    let first = both_passed _ (may_be (names_declared decls ++ scope) Number left) right.0 in
    record {
      left_stands = value_stands decls scope left Number values.0 first.1;
      tail_stands = tail_step decls scope tail.0 tail.1 (resolved decls scope tail.1) refl (value_stands decls scope tail.1 Number values.1.0 right.1);
    }

assigns : (decls : List Decl) (scope : List Known) (name : List ℕ) (left : Expr) (tail : Option (Sign × Expr)) → IsAllSound decls scope (Assign name left tail) → AssignsValues decls scope left tail
assigns decls scope name left tail sound =
    assigns_by decls scope name left tail (meaning_of (names_declared decls ++ scope) name) refl (target_known (names_declared decls ++ scope) (Assign name left tail) name sound.here refl)
    (well_typed (names_declared decls ++ scope) (Assign name left tail) sound.here) (values_known (names_declared decls ++ scope) (Assign name left tail) sound.here)

pub assign_left : (decls : List Decl) (scope : List Known) (name : List ℕ) (left : Expr) (tail : Option (Sign × Expr)) → IsAllSound decls scope (Assign name left tail) → IsSome (resolved decls scope left)
assign_left decls scope name left tail sound = (assigns decls scope name left tail sound).left_stands

pub assign_tail : (decls : List Decl) (scope : List Known) (name : List ℕ) (left : Expr) (tail : Option (Sign × Expr)) → IsAllSound decls scope (Assign name left tail) → IsSome (tail_resolved decls scope tail)
assign_tail decls scope name left tail sound = (assigns decls scope name left tail sound).tail_stands
