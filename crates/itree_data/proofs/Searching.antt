-- A tree looks keys up as its specification does.
use Rattle.std.proofs.Common.{◌≡◌, ℕ, Bool, true, false, ◌==◌, List, [], ◌∷◌, ◌++◌, length, take, filter, Option, Some, None, option_map, refl, sym, ◌∙◌, ap, subst}
use Rattle.std.specs.Prelude.{slice_get, slice_set, remove, bytes_eq}
use Rattle.std.specs.Bool.{beq}
use Rattle.spec_model.specs.declared.config.Binding.{Binding}
use Rattle.spec_model.specs.declared.config.Config.{Config}
use Rattle.spec_model.specs.declared.config.Pair.{Pair}
use Rattle.spec_model.specs.declared.config.Table.{Table}
use Rattle.spec_model.specs.declared.config.Task.{Task}
use Rattle.spec_model.specs.declared.config.Task.TheVariants.{Do}
use Rattle.spec_model.specs.declared.config.Value.{Value}
use Rattle.spec_model.specs.declared.config.Value.TheVariants.{Text}
use Rattle.spec_model.specs.declared.tree.Block.{Block}
use Rattle.spec_model.specs.declared.tree.Decl.{Decl}
use Rattle.spec_model.specs.declared.tree.Expr.{Expr}
use Rattle.spec_model.specs.declared.tree.Kind.TheOpen.{Put, Lookup, Delete}
use Rattle.spec_model.specs.declared.tree.Sign.{Sign}
use Rattle.spec_model.specs.declared.tree.Stmt.{Stmt}
use Rattle.spec_model.specs.Config.{StmtKind, with_value}
use Rattle.spec_model.specs.Step.{after_comparison, assigned_value}
use Rattle.spec_model.specs.Table.{after_hit, after_miss, key_is_at, most_pairs, pairs_in, with_pairs}
use Rattle.spec_model.specs.Value.{◌>>=◌, only_if, text_of}
use Rattle.spec_rules.specs.declared.names.Known.{Known}
use Rattle.spec_rules.specs.declared.names.ValueType.TheVariants.{Text as TextType}
use Rattle.spec_rules.specs.Bad.{declares_register, declares_table}
use Rattle.spec_rules.specs.Names.{local}
use Rattle.itree_data.specs.declared.node.Change.TheVariants as changes
use Rattle.itree_data.specs.declared.node.Node.{Node}
use Rattle.itree_data.specs.declared.node.Node.TheVariants as nodes
use Rattle.itree_data.specs.declared.node.Val.{Val}
use Rattle.itree_data.specs.Change.{next_has_key, with_table}
use Rattle.itree_data.specs.Fields.{Fields}
use Rattle.itree_data.specs.Marks.{IsMarked, Mark, entered, marked_of}
use Rattle.itree_data.specs.Resolve.{register_named, resolved, table_named, tail_resolved}
use Rattle.itree_data.specs.Standing.{Standing, at_node, with_local}
use Rattle.itree_data.specs.Step.{after_last_pair, after_pair, after_store}
use Rattle.itree_data.specs.Value.{text_at, value_assigned}
use Rattle.itree_data.proofs.Binding.{bound_next}
use Rattle.itree_data.proofs.Follows.{Follows, Leads, Meets, goes_behind_plain, goes_in, meets_bind, meets_bind_map, meets_if, with_locals}
use Rattle.itree_data.proofs.Places.{place_among, values_of}
use Rattle.itree_data.proofs.Stored.{Stores, assigned_same, declared_names, key_same, pairs_of, pairs_same, text_same}
use Rattle.itree_data.proofs.Updates.{Distinct, changed_keeps, changed_once, distinct_once}

module _ (tree : Fields) (marks : List (Option Mark)) (marked : IsMarked tree.spec.decls (marked_of tree marks))
    (registers_distinct : Distinct (declared_names declares_register tree.spec.decls)) (tables_distinct : Distinct (declared_names declares_table tree.spec.decls)) where
  -- the tree at another node has stored the same
  pub moved : (scope : List Known) (c : Config) (t : Standing) (node : ℕ) → Stores tree.spec.decls scope c t → Stores tree.spec.decls scope c (at_node t node)
  moved scope c t node stores = with_locals tree.spec.decls scope scope c t c.todo c.locals t.locals node stores stores.locals

  -- A table has new pairs, and what is done behind follows.
  table_changed : (scope : List Known) (c : Config) (t : Standing) (rest : List Task) (name : List ℕ) (table : ℕ) (pairs : List Pair) (next : ℕ) → Stores tree.spec.decls scope c t
      → table_named tree.spec.decls name ≡ Some table → Leads tree marks scope rest next
      → Follows tree marks (with_pairs (record c { todo = rest }) name pairs) (at_node (with_table t table pairs) next)
  table_changed scope c t rest name table pairs next stores is leads =
      let is_name : Table → Bool = λ (one : Table). bytes_eq one.name name in
      let new : Table → Table = λ (one : Table). record one { pairs = pairs } in
      let place = place_among (λ (one : Table). one.name) (λ (decl : Decl). decl.name) c.tables (filter declares_table tree.spec.decls) name table stores.table_names is in
      let once = distinct_once (λ (one : Table). one.name) name c.tables (subst Distinct (sym stores.table_names) tables_distinct) in
      let kept = changed_keeps is_name new (λ (one : Table). one.name) c.tables (λ one. refl) in
      let set = changed_once is_name new (λ (one : Table). one.pairs) pairs c.tables (λ one. refl) once in
      let stored : Stores tree.spec.decls scope (with_pairs c name pairs) (with_table t table pairs)
      = record {
        locals = stores.locals;
        register_names = stores.register_names;
        registers = stores.registers;
        table_names = kept ∙ stores.table_names;
        tables = ap (λ tables. slice_set tables table pairs) stores.tables ∙ sym (set ∙ ap (λ n. slice_set (pairs_of c.tables) n pairs) place);
        taken = stores.taken;
        sent = stores.sent;
      } in
      goes_behind_plain tree marks marked scope (with_pairs c name pairs) (with_table t table pairs) rest next stored leads

  pub renewed : (scope : List Known) (c : Config) (t : Standing) (rest : List Task) (name : List ℕ) (key value : Expr) (table : ℕ) (val : Val) (next : ℕ) → Stores tree.spec.decls scope c t
      → table_named tree.spec.decls name ≡ Some table → resolved tree.spec.decls scope value ≡ Some val → Leads tree marks scope rest next
      → Meets tree marks (after_hit c rest t.compared (Put name key value)) (after_store t (nodes.Store (changes.Renew table val) next))
  renewed scope c t rest name key value table val next stores is val_is leads =
      meets_bind_map tree marks (pairs_in c name) (slice_get t.tables table) _ _ (λ after. at_node after next) (pairs_same tree.spec.decls scope c t stores name table is)
      (λ pairs. meets_bind_map tree marks (slice_get pairs t.compared) (slice_get pairs t.compared) _ _ (λ after. at_node after next) refl
      (λ pair. meets_bind_map tree marks (text_of c value) (text_at t val) _ _ (λ after. at_node after next) (text_same tree.spec.decls scope c t stores value val val_is)
      (λ new. table_changed scope c t rest name table (slice_set pairs t.compared (record pair { value = new })) next stores is leads)))

  pub bound_found : (scope : List Known) (c : Config) (t : Standing) (rest : List Task) (name : List ℕ) (key : Expr) (bound : List ℕ) (found missing : Block) (table first : ℕ) → Stores tree.spec.decls scope c t
      → table_named tree.spec.decls name ≡ Some table → Leads tree marks (scope ++ local bound TextType ∷ []) (entered scope found rest) first
      → Meets tree marks (after_hit c rest t.compared (Lookup name key bound found missing)) (after_store t (nodes.Store (changes.Bind (length scope) table) first))
  bound_found scope c t rest name key bound found missing table first stores is leads =
      meets_bind_map tree marks (pairs_in c name) (slice_get t.tables table) _ _ (λ after. at_node after first) (pairs_same tree.spec.decls scope c t stores name table is)
      (λ pairs. meets_bind_map tree marks (slice_get pairs t.compared) (slice_get pairs t.compared) _ _ (λ after. at_node after first) refl
      (λ pair. let one : Binding = record { name = bound; value = Text pair.value } in
      let inside = bound_next scope c.locals t.locals one (local bound TextType) stores.locals refl in
      goes_in tree marks marked scope (scope ++ local bound TextType ∷ []) c t rest found (one ∷ []) (with_local t.locals (length scope) (Text pair.value)) first stores inside leads))

  map_of_map : (o p : Option (List Pair)) (f : List Pair → Config) (g : List Pair → Standing) (h : Standing → Standing) → o ≡ p → ((pairs : List Pair) → Follows tree marks (f pairs) (h (g pairs)))
      → Meets tree marks (o >>= (λ pairs. Some (f pairs))) (option_map h (option_map g p))
  map_of_map o p f g h same follows = subst (λ p. Meets tree marks (o >>= (λ pairs. Some (f pairs))) (option_map h (option_map g p))) same (go o)
    where
      go : (o : Option (List Pair)) → Meets tree marks (o >>= (λ pairs. Some (f pairs))) (option_map h (option_map g o))
      go None = tt
      go (Some pairs) = follows pairs

  pub removed : (scope : List Known) (c : Config) (t : Standing) (rest : List Task) (name : List ℕ) (key : Expr) (table next : ℕ) → Stores tree.spec.decls scope c t
      → table_named tree.spec.decls name ≡ Some table → Leads tree marks scope rest next
      → Meets tree marks (after_hit c rest t.compared (Delete name key)) (after_store t (nodes.Store (changes.Remove table) next))
  removed scope c t rest name key table next stores is leads =
      map_of_map (pairs_in c name) (slice_get t.tables table) (λ pairs. with_pairs (record c { todo = rest }) name (remove pairs t.compared))
      (λ pairs. with_table t table (remove pairs t.compared)) (λ after. at_node after next) (pairs_same tree.spec.decls scope c t stores name table is)
      (λ pairs. table_changed scope c t rest name table (remove pairs t.compared) next stores is leads)

  pub added : (scope : List Known) (c : Config) (t : Standing) (rest : List Task) (name : List ℕ) (key value : Expr) (table : ℕ) (key_val val : Val) (next : ℕ) → Stores tree.spec.decls scope c t
      → table_named tree.spec.decls name ≡ Some table → resolved tree.spec.decls scope key ≡ Some key_val → resolved tree.spec.decls scope value ≡ Some val → Leads tree marks scope rest next
      → Meets tree marks (after_miss c rest (Put name key value)) (after_store t (nodes.Store (changes.Add table key_val val) next))
  added scope c t rest name key value table key_val val next stores is key_is val_is leads =
      meets_bind_map tree marks (pairs_in c name) (slice_get t.tables table) _ _ (λ after. at_node after next) (pairs_same tree.spec.decls scope c t stores name table is)
      (λ pairs. meets_bind_map tree marks (text_of c key) (text_at t key_val) _ _ (λ after. at_node after next) (text_same tree.spec.decls scope c t stores key key_val key_is)
      (λ new_key. meets_bind_map tree marks (text_of c value) (text_at t val) _ _ (λ after. at_node after next) (text_same tree.spec.decls scope c t stores value val val_is)
      (λ new. table_changed scope c t rest name table (take most_pairs (record { key = new_key; value = new } ∷ pairs)) next stores is leads)))

  -- A comparison of a look-up: at an equal pair it ends, and otherwise it goes on.
  compared : (scope : List Known) (c : Config) (t : Standing) (rest : List Task) (stmt : Stmt) (kind : StmtKind) (found : Node) (holds : ℕ) (outcome : Bool) → Stores tree.spec.decls scope c t
      → slice_get tree.nodes holds ≡ Some found → Leads tree marks scope (Do stmt 0 ∷ rest) t.node → Meets tree marks (after_hit c rest t.compared kind) (after_store t found)
      → Meets tree marks (after_comparison c rest stmt t.compared kind outcome) (after_pair tree t holds outcome)
  compared scope c t rest stmt kind found holds true stores found_is leads hit = rw found_is hit
  compared scope c t rest stmt kind found holds false stores found_is leads hit =
      record {
        scope = scope;
        stores = record {
          locals = stores.locals;
          register_names = stores.register_names;
          registers = stores.registers;
          table_names = stores.table_names;
          tables = stores.tables;
          taken = stores.taken;
          sent = stores.sent;
        };
        leads = leads;
        compared = refl;
      }

  -- The test of a look-up.
  pub looked_up : (scope : List Known) (c : Config) (t : Standing) (rest : List Task) (stmt : Stmt) (kind : StmtKind) (name : List ℕ) (key : Expr) (table : ℕ) (key_val : Val) (found : Node)
      (holds : ℕ) (outcome : Bool) → Stores tree.spec.decls scope c t → table_named tree.spec.decls name ≡ Some table → resolved tree.spec.decls scope key ≡ Some key_val
      → slice_get tree.nodes holds ≡ Some found → Leads tree marks scope (Do stmt 0 ∷ rest) t.node → Meets tree marks (after_hit c rest t.compared kind) (after_store t found)
      → Meets tree marks (key_is_at c name key t.compared >>= (λ equal. only_if (beq equal outcome) (after_comparison c rest stmt t.compared kind outcome)))
      (next_has_key t table key_val >>= (λ equal. only_if (beq equal outcome) (after_pair tree t holds outcome)))
  looked_up scope c t rest stmt kind name key table key_val found holds outcome stores is key_is found_is leads hit =
      meets_bind tree marks (key_is_at c name key t.compared) (next_has_key t table key_val) _ _ (key_same tree.spec.decls scope c t stores name key table key_val is key_is)
      (λ equal. meets_if tree marks (beq equal outcome) _ _ (compared scope c t rest stmt kind found holds outcome stores found_is leads hit))

  -- The end of a look-up that has passed all pairs.
  pub passed_all : (scope : List Known) (c : Config) (t : Standing) (rest : List Task) (kind : StmtKind) (name : List ℕ) (table : ℕ) (missing : ℕ) (node : Node)
      → Stores tree.spec.decls scope c t → table_named tree.spec.decls name ≡ Some table → slice_get tree.nodes missing ≡ Some node
      → Meets tree marks (after_miss c rest kind) (after_last_pair (at_node t missing) node)
      → Meets tree marks (pairs_in c name >>= (λ pairs. only_if (t.compared == length pairs) (after_miss c rest kind)))
      (slice_get t.tables table >>= (λ pairs. slice_get tree.nodes missing >>= (λ node. only_if (t.compared == length pairs) (after_last_pair (at_node t missing) node))))
  passed_all scope c t rest kind name table missing node stores is node_is miss =
      meets_bind tree marks (pairs_in c name) (slice_get t.tables table) _ _ (pairs_same tree.spec.decls scope c t stores name table is)
      (λ pairs. rw node_is (meets_if tree marks (t.compared == length pairs) _ _ miss))

  register_set : (scope : List Known) (c : Config) (t : Standing) (rest : List Task) (name : List ℕ) (register : ℕ) (value : Value) (next : ℕ) → Stores tree.spec.decls scope c t
      → register_named tree.spec.decls name ≡ Some register → Leads tree marks scope rest next
      → Follows tree marks (record c { todo = rest; registers = with_value c.registers name value }) (at_node (record t { registers = slice_set t.registers register value }) next)
  register_set scope c t rest name register value next stores is leads =
      let is_name : Binding → Bool = λ (one : Binding). bytes_eq one.name name in
      let new : Binding → Binding = λ (one : Binding). record one { value = value } in
      let place = place_among (λ (one : Binding). one.name) (λ (decl : Decl). decl.name) c.registers (filter declares_register tree.spec.decls) name register stores.register_names is in
      let once = distinct_once (λ (one : Binding). one.name) name c.registers (subst Distinct (sym stores.register_names) registers_distinct) in
      let kept = changed_keeps is_name new (λ (one : Binding). one.name) c.registers (λ one. refl) in
      let set = changed_once is_name new (λ (one : Binding). one.value) value c.registers (λ one. refl) once in
      let stored : Stores tree.spec.decls scope (record c { registers = with_value c.registers name value }) (record t { registers = slice_set t.registers register value })
      = record {
        locals = stores.locals;
        register_names = kept ∙ stores.register_names;
        registers = ap (λ registers. slice_set registers register value) stores.registers ∙ sym (set ∙ ap (λ n. slice_set (values_of c.registers) n value) place);
        table_names = stores.table_names;
        tables = stores.tables;
        taken = stores.taken;
        sent = stores.sent;
      } in
      goes_behind_plain tree marks marked scope (record c { registers = with_value c.registers name value }) (record t { registers = slice_set t.registers register value }) rest next stored leads

  map_of_maps : (o p : Option Value) (f : Value → Config) (g : Value → Standing) (h : Standing → Standing) → o ≡ p → ((value : Value) → Follows tree marks (f value) (h (g value)))
      → Meets tree marks (option_map f o) (option_map h (option_map g p))
  map_of_maps o p f g h same follows = subst (λ p. Meets tree marks (option_map f o) (option_map h (option_map g p))) same (go o)
    where
      go : (o : Option Value) → Meets tree marks (option_map f o) (option_map h (option_map g o))
      go None = tt
      go (Some value) = follows value

  -- An assignment is done by both.
  pub assigned : (scope : List Known) (c : Config) (t : Standing) (rest : List Task) (name : List ℕ) (left : Expr) (tail : Option (Sign × Expr)) (register : ℕ) (val : Val) (tail_val : Option (Sign × Val))
      (next : ℕ) → Stores tree.spec.decls scope c t → register_named tree.spec.decls name ≡ Some register → resolved tree.spec.decls scope left ≡ Some val
      → tail_resolved tree.spec.decls scope tail ≡ Some tail_val → Leads tree marks scope rest next
      → Meets tree marks (option_map (λ value. record c { todo = rest; registers = with_value c.registers name value }) (assigned_value c left tail))
      (option_map (λ after. at_node after next) (option_map (λ value. record t { registers = slice_set t.registers register value }) (value_assigned t val tail_val)))
  assigned scope c t rest name left tail register val tail_val next stores is val_is tail_is leads =
      map_of_maps (assigned_value c left tail) (value_assigned t val tail_val) (λ value. record c { todo = rest; registers = with_value c.registers name value })
      (λ value. record t { registers = slice_set t.registers register value }) (λ after. at_node after next) (assigned_same tree.spec.decls scope c t stores left tail val tail_val val_is tail_is)
      (λ value. register_set scope c t rest name register value next stores is leads)
