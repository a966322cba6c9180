-- A tree follows a specification: it stands at a node for what is to do, and has stored the same.
use Rattle.std.proofs.Common.{◌≡◌, ℕ, zero, suc, Bool, true, false, List, [], ◌∷◌, ◌++◌, length, map, Option, Some, None, option_map, refl, sym, ◌∙◌, subst, arith, append-nil}
use Rattle.std.specs.Prelude.{slice_get}
use Rattle.spec_model.specs.declared.config.Binding.{Binding}
use Rattle.spec_model.specs.declared.config.Config.{Config}
use Rattle.spec_model.specs.declared.config.Task.{Task}
use Rattle.spec_model.specs.declared.config.Task.TheVariants.{Do, Forget}
use Rattle.spec_model.specs.declared.config.Value.{Value}
use Rattle.spec_model.specs.declared.tree.Block.{Block}
use Rattle.spec_model.specs.declared.tree.Decl.{Decl}
use Rattle.spec_model.specs.Config.{after_entering, begin, stmts_of}
use Rattle.spec_model.specs.Value.{◌>>=◌, only_if}
use Rattle.spec_rules.specs.declared.names.Known.{Known}
use Rattle.itree_data.specs.Fields.{Fields}
use Rattle.itree_data.specs.Marks.{IsMarked, LeadsTo, Mark, entered, marked_of}
use Rattle.itree_data.specs.Standing.{Standing, at_node}
use Rattle.itree_data.proofs.Binding.{bound_length}
use Rattle.itree_data.proofs.Stored.{InScope, Stores}

-- what is to do, with a look-up that is half done not begun
abbrev pub unbegun : List Task → List Task
unbegun (Do stmt passed ∷ rest) = Do stmt 0 ∷ rest
unbegun todo = todo

-- the number of pairs that the first statement to do has compared
abbrev pub passed_of : List Task → ℕ
passed_of (Do stmt passed ∷ rest) = passed
passed_of _ = 0

pub with_locals : (decls : List Decl) (scope inner : List Known) (c : Config) (t : Standing) (todo : List Task) (bound : List Binding) (locals : List Value) (node : ℕ) → Stores decls scope c t
    → InScope inner bound locals → Stores decls inner (record c { todo = todo; locals = bound }) (record (at_node t node) { locals = locals })
with_locals decls scope inner c t todo bound locals node stores inside = record {
  locals = inside;
  register_names = stores.register_names;
  registers = stores.registers;
  table_names = stores.table_names;
  tables = stores.tables;
  taken = stores.taken;
  sent = stores.sent;
}

module _ (tree : Fields) (marks : List (Option Mark)) where
  abbrev pub Leads : List Known → List Task → ℕ → Type 0
  Leads scope todo node = LeadsTo marks scope todo node

  pub record Follows (c : Config) (t : Standing) : Type 0 where
    pub scope : List Known
    pub stores : Stores tree.spec.decls scope c t
    pub leads : Leads scope (unbegun c.todo) t.node
    pub compared : t.compared ≡ passed_of c.todo

  -- Both have no step, or both have one and go on alike.
  abbrev pub Meets : Option Config → Option Standing → Type 0
  Meets None None = Unit {0}
  Meets (Some c) (Some t) = Follows c t
  Meets _ _ = ⊥

  pub meets_bind : {A : Type 0} (o p : Option A) (f : A → Option Config) (g : A → Option Standing) → o ≡ p → ((x : A) → Meets (f x) (g x)) → Meets (o >>= f) (p >>= g)
  meets_bind o p f g same meets = subst (λ p. Meets (o >>= f) (p >>= g)) same (go o)
    where
      go : (o : Option _) → Meets (o >>= f) (o >>= g)
      go None = tt
      go (Some x) = meets x

  pub meets_if : (test : Bool) (o : Option Config) (p : Option Standing) → Meets o p → Meets (only_if test o) (only_if test p)
  meets_if true o p meets = meets
  meets_if false o p meets = tt

  pub meets_map : {A : Type 0} (o p : Option A) (f : A → Config) (g : A → Standing) → o ≡ p → ((x : A) → Follows (f x) (g x)) → Meets (option_map f o) (option_map g p)
  meets_map o p f g same meets = subst (λ p. Meets (option_map f o) (option_map g p)) same (go o)
    where
      go : (o : Option _) → Meets (option_map f o) (option_map g o)
      go None = tt
      go (Some x) = meets x

  -- the same, where the tree goes on to a node afterwards
  pub meets_bind_map : {A : Type 0} (o p : Option A) (f : A → Option Config) (g : A → Option Standing) (h : Standing → Standing) → o ≡ p
      → ((x : A) → Meets (f x) (option_map h (g x))) → Meets (o >>= f) (option_map h (p >>= g))
  meets_bind_map o p f g h same meets = subst (λ p. Meets (o >>= f) (option_map h (p >>= g))) same (go o)
    where
      go : (o : Option _) → Meets (o >>= f) (option_map h (o >>= g))
      go None = tt
      go (Some x) = meets x

  module _ (marked : IsMarked tree.spec.decls (marked_of tree marks)) where
    -- node 0 stands for nothing to do
    pub zero_done : (mark : Mark) → slice_get marks 0 ≡ Some (Some mark) → mark.todo ≡ []
    zero_done mark is = let same : Some (Some (record { scope = []; todo = [] })) ≡ Some (Some mark) = sym marked.zero ∙ is in cc

    by_number : (number : ℕ) (scope : List Known) (stmt : _) (passed : ℕ) (rest : List Task) → slice_get marks number ≡ Some (Some (record { scope = scope; todo = Do stmt passed ∷ rest }))
        → passed ≡ 0
    by_number zero scope stmt passed rest is = absurd (let none = zero_done (record { scope = scope; todo = Do stmt passed ∷ rest }) is in cc)
    by_number (suc number) scope stmt passed rest is =
        let stands = marked.each (suc number) (record { scope = scope; todo = Do stmt passed ∷ rest }) (omega arith) is in stands.does.0

    -- What a node leads to is not begun.
    pub not_begun : (scope : List Known) (todo : List Task) (node : ℕ) → Leads scope todo node → Leads scope (unbegun todo) node × (passed_of todo ≡ 0)
    not_begun scope [] node leads = (leads, refl)
    not_begun scope (Forget count ∷ rest) node leads = (leads, refl)
    not_begun scope (Do stmt passed ∷ rest) node leads =
        let none = by_number node scope stmt passed rest leads.marked in
        (subst (λ n. Leads scope (Do stmt n ∷ rest) node) none leads, none)

    -- The tree goes on at the node for what is to do.
    pub goes_on : (scope : List Known) (c : Config) (t : Standing) → Stores tree.spec.decls scope c t → Leads scope c.todo t.node → t.compared ≡ 0 → Follows c t
    goes_on scope c t stores leads none =
        let start = not_begun scope c.todo t.node leads in
        record { scope = scope; stores = stores; leads = start.0; compared = none ∙ sym start.1 }

    -- The tree goes on behind a statement, with these locals bound.
    pub goes_behind : (scope inner : List Known) (c : Config) (t : Standing) (rest : List Task) (bound : List Binding) (locals : List Value) (node : ℕ) → Stores tree.spec.decls scope c t
        → InScope inner bound locals → Leads inner rest node → Follows (record c { todo = rest; locals = bound }) (record (at_node t node) { locals = locals })
    goes_behind scope inner c t rest bound locals node stores inside leads =
        goes_on inner (record c { todo = rest; locals = bound }) (record (at_node t node) { locals = locals }) (with_locals tree.spec.decls scope inner c t rest bound locals node stores inside) leads refl

    -- The tree goes on in a block that is entered, with these names bound.
    pub goes_in : (scope inner : List Known) (c : Config) (t : Standing) (rest : List Task) (block : Block) (bound : List Binding) (locals : List Value) (node : ℕ) → Stores tree.spec.decls scope c t
        → InScope inner (c.locals ++ bound) locals → Leads inner (entered scope block rest) node
        → Follows (after_entering c rest block bound) (record (at_node t node) { locals = locals })
    goes_in scope inner c t rest block bound locals node stores inside leads =
        let long = bound_length scope c.locals t.locals stores.locals in
        let there = subst (λ n. Leads inner (map begin (stmts_of block) ++ Forget n ∷ rest) node) (sym long) leads in
        goes_behind scope inner c t (map begin (stmts_of block) ++ Forget (length c.locals) ∷ rest) (c.locals ++ bound) locals node stores inside there

    -- The tree goes on in a block that is entered with no name bound.
    pub goes_in_plain : (scope : List Known) (c : Config) (t : Standing) (rest : List Task) (block : Block) (node : ℕ) → Stores tree.spec.decls scope c t
        → Leads scope (entered scope block rest) node → Follows (after_entering c rest block []) (at_node t node)
    goes_in_plain scope c t rest block node stores leads =
        let inside : InScope scope (c.locals ++ []) t.locals = rw (append-nil c.locals) stores.locals in
        goes_in scope scope c t rest block [] t.locals node stores inside leads

    pub goes_behind_plain : (scope : List Known) (c : Config) (t : Standing) (rest : List Task) (node : ℕ) → Stores tree.spec.decls scope c t
        → Leads scope rest node → Follows (record c { todo = rest }) (at_node t node)
    goes_behind_plain scope c t rest node stores leads = goes_behind scope scope c t rest c.locals t.locals node stores stores.locals leads
