-- Where a tree follows a specification, each event and each piece of silent work of one is one of the other.
use Rattle.std.proofs.Common.{◌≡◌, ℕ, zero, suc, List, [], ◌∷◌, take, Option, Some, refl, sym, ◌∙◌, ap, subst, arith}
use Rattle.std.specs.Prelude.{slice_get}
use Rattle.std.proofs.lemmas.List.{take-map}
use Rattle.spec_model.specs.declared.config.Binding.{Binding}
use Rattle.spec_model.specs.declared.config.Config.{Config}
use Rattle.spec_model.specs.declared.config.Task.{Task}
use Rattle.spec_model.specs.declared.config.Task.TheVariants.{Do, Forget}
use Rattle.spec_model.specs.declared.event.ServerEvent.{ServerEvent}
use Rattle.spec_model.specs.declared.event.ServerEvent.TheVariants as events
use Rattle.spec_model.specs.declared.tree.Kind.TheOpen.{Recv, Send, Pick, Assign, If, Either, Assume, Put, Lookup, Delete}
use Rattle.spec_model.specs.declared.tree.Stmt.{Stmt}
use Rattle.spec_model.specs.Config.{StmtKind, after_entering, kind_of}
use Rattle.spec_model.specs.Step.{after_event, after_event_at, after_silent_stmt, after_silent_work, after_silent_work_at, after_stmt}
use Rattle.spec_model.specs.Value.{◌>>=◌}
use Rattle.spec_rules.specs.declared.names.Known.{Known}
use Rattle.spec_rules.specs.Bad.{declares_register, declares_table}
use Rattle.itree_data.specs.declared.node.Change.TheVariants as changes
use Rattle.itree_data.specs.declared.node.Check.TheVariants as checks
use Rattle.itree_data.specs.declared.node.Node.{Node}
use Rattle.itree_data.specs.declared.node.Node.TheVariants as nodes
use Rattle.itree_data.specs.Fields.{Fields}
use Rattle.itree_data.specs.Marks.{DoesKind, IsMarked, Mark, Stands, entered, ready, marked_of}
use Rattle.itree_data.specs.Standing.{Standing, at_node}
use Rattle.itree_data.specs.Step.{after_event as after_tree_event, after_last_pair, after_node, after_silent_node, after_silent_work as after_tree_work}
use Rattle.itree_data.proofs.Choosing.{does_assume, does_either, does_if, does_pick, does_send}
use Rattle.itree_data.proofs.Follows.{Follows, Leads, Meets, goes_behind_plain, goes_in_plain, goes_on, passed_of, unbegun, zero_done}
use Rattle.itree_data.proofs.Searching.{added, assigned, bound_found, looked_up, moved, passed_all, removed, renewed}
use Rattle.itree_data.proofs.Stored.{Stores, declared_names, taken_twice}
use Rattle.itree_data.proofs.Taking.{does_recv}
use Rattle.itree_data.proofs.Updates.{Distinct}

-- what is first to do is no end of a block
abbrev pub IsReady : List Task → Type 0
IsReady (Forget count ∷ rest) = ⊥
IsReady _ = Unit {0}

module _ (tree : Fields) (marks : List (Option Mark)) (marked : IsMarked tree.spec.decls (marked_of tree marks)) (shape : tree.shape ≡ tree.spec.shape)
    (rd : Distinct (declared_names declares_register tree.spec.decls)) (td : Distinct (declared_names declares_table tree.spec.decls))
    (first : ℕ) (back : slice_get tree.nodes 0 ≡ Some (nodes.Back first)) (body_leads : Leads tree marks [] (entered [] tree.spec.body []) first) where
  abbrev Does : List Known → List Task → StmtKind → Node → Type 0
  Does scope rest kind node = DoesKind tree.spec.decls (marked_of tree marks) scope rest kind node

  -- An event of a statement is one of its node.
  kind_event : (scope : List Known) (c : Config) (t : Standing) (rest : List Task) (stmt : Stmt) (kind : StmtKind) (node : Node) → Stores tree.spec.decls scope c t
      → Leads tree marks scope (Do stmt 0 ∷ rest) t.node → Does scope rest kind node → (event : ServerEvent)
      → Meets tree marks (after_stmt tree.spec c rest stmt t.compared kind event) (after_node tree t node event)
  kind_event scope c t rest stmt (Recv chan cases other block) node stores here does event = does_recv tree marks marked shape scope c t rest stmt t.compared chan cases other block node stores does event
  kind_event scope c t rest stmt (Send named parts) node stores here does event = does_send tree marks marked shape scope c t rest stmt t.compared named parts node stores does event
  kind_event scope c t rest stmt (Pick name len alphabet) node stores here (next, is, leads) event =
      subst (λ node. Meets tree marks (after_stmt tree.spec c rest stmt t.compared (Pick name len alphabet) event) (after_node tree t node event)) (sym is)
      (does_pick tree marks marked shape scope c t rest stmt t.compared name len alphabet next stores leads event)
  kind_event scope c t rest stmt (Assign name left tail) node stores here does event =
      subst (λ node. Meets tree marks (after_stmt tree.spec c rest stmt t.compared (Assign name left tail) event) (after_node tree t node event)) (sym does.is) (none event)
    where
      none : (event : ServerEvent) → Meets tree marks (after_stmt tree.spec c rest stmt t.compared (Assign name left tail) event) (after_node tree t (nodes.Store (changes.Assign does.register does.val does.tail_val) does.next) event)
      none (events.Take conn message) = tt
      none (events.Arm arm) = tt
      none (events.Test outcome) = tt
      none (events.Pick text) = tt
      none (events.Send conn message) = tt
  kind_event scope c t rest stmt (If cond holds fails) node stores here (on_true, on_false, asks, leads, other_leads) event =
      subst (λ node. Meets tree marks (after_stmt tree.spec c rest stmt t.compared (If cond holds fails) event) (after_node tree t node event)) (sym asks.is)
      (does_if tree marks marked shape scope c t rest stmt t.compared cond holds fails asks.left asks.right on_true on_false stores asks.left_is asks.right_is leads other_leads event)
  kind_event scope c t rest stmt (Either arms) node stores here (targets, is, lead) event =
      subst (λ node. Meets tree marks (after_stmt tree.spec c rest stmt t.compared (Either arms) event) (after_node tree t node event)) (sym is)
      (does_either tree marks marked shape scope c t rest stmt t.compared arms targets stores lead event)
  kind_event scope c t rest stmt (Assume cond) node stores here (next, asks, leads) event =
      subst (λ node. Meets tree marks (after_stmt tree.spec c rest stmt t.compared (Assume cond) event) (after_node tree t node event)) (sym asks.is)
      (does_assume tree marks marked shape scope c t rest stmt t.compared cond asks.left asks.right next stores asks.left_is asks.right_is leads event)
  kind_event scope c t rest stmt (Put name key value) node stores here (table, key_val, val, missing, next, asks, add_is, key_is, val_is, leads) event =
      subst (λ node. Meets tree marks (after_stmt tree.spec c rest stmt t.compared (Put name key value) event) (after_node tree t node event)) (sym asks.is) (by event)
    where
      by : (event : ServerEvent) → Meets tree marks (after_stmt tree.spec c rest stmt t.compared (Put name key value) event) (after_node tree t (nodes.Branch (checks.Scan table asks.key_val) asks.holds (Some missing)) event)
      by (events.Test outcome) = looked_up tree marks marked rd td scope c t rest stmt (Put name key value) name key table asks.key_val _ asks.holds outcome stores asks.table_is asks.key_is asks.found_is here
          (renewed tree marks marked rd td scope c t rest name key value table val next stores asks.table_is val_is leads)
      by (events.Take conn message) = tt
      by (events.Arm arm) = tt
      by (events.Pick text) = tt
      by (events.Send conn message) = tt
  kind_event scope c t rest stmt (Lookup name key bound found absent) node stores here (table, first, otherwise, asks, leads, other_leads) event =
      subst (λ node. Meets tree marks (after_stmt tree.spec c rest stmt t.compared (Lookup name key bound found absent) event) (after_node tree t node event)) (sym asks.is) (by event)
    where
      by : (event : ServerEvent) → Meets tree marks (after_stmt tree.spec c rest stmt t.compared (Lookup name key bound found absent) event) (after_node tree t (nodes.Branch (checks.Scan table asks.key_val) asks.holds (Some otherwise)) event)
      by (events.Test outcome) = looked_up tree marks marked rd td scope c t rest stmt (Lookup name key bound found absent) name key table asks.key_val _ asks.holds outcome stores asks.table_is asks.key_is asks.found_is here
          (bound_found tree marks marked rd td scope c t rest name key bound found absent table first stores asks.table_is leads)
      by (events.Take conn message) = tt
      by (events.Arm arm) = tt
      by (events.Pick text) = tt
      by (events.Send conn message) = tt
  kind_event scope c t rest stmt (Delete name key) node stores here (table, next, asks, leads) event =
      subst (λ node. Meets tree marks (after_stmt tree.spec c rest stmt t.compared (Delete name key) event) (after_node tree t node event)) (sym asks.is) (by event)
    where
      by : (event : ServerEvent) → Meets tree marks (after_stmt tree.spec c rest stmt t.compared (Delete name key) event) (after_node tree t (nodes.Branch (checks.Scan table asks.key_val) asks.holds (Some next)) event)
      by (events.Test outcome) = looked_up tree marks marked rd td scope c t rest stmt (Delete name key) name key table asks.key_val _ asks.holds outcome stores asks.table_is asks.key_is asks.found_is here
          (removed tree marks marked rd td scope c t rest name key table next stores asks.table_is leads)
      by (events.Take conn message) = tt
      by (events.Arm arm) = tt
      by (events.Pick text) = tt
      by (events.Send conn message) = tt

  -- A node that does a statement is no change of a look-up.
  kind_goes_on : (u : Standing) (scope : List Known) (rest : List Task) (kind : StmtKind) (node : Node) → Does scope rest kind node → after_last_pair u node ≡ Some u
  kind_goes_on u scope rest (Recv chan cases other block) node does = ap (after_last_pair u) does.is
  kind_goes_on u scope rest (Send named parts) node does = ap (after_last_pair u) does.is
  kind_goes_on u scope rest (Pick name len alphabet) node (next, is, leads) = ap (after_last_pair u) is
  kind_goes_on u scope rest (Assign name left tail) node does = ap (after_last_pair u) does.is
  kind_goes_on u scope rest (If cond holds fails) node (on_true, on_false, asks, leads, other_leads) = ap (after_last_pair u) asks.is
  kind_goes_on u scope rest (Either arms) node (targets, is, lead) = ap (after_last_pair u) is
  kind_goes_on u scope rest (Assume cond) node (next, asks, leads) = ap (after_last_pair u) asks.is
  kind_goes_on u scope rest (Put name key value) node (table, key_val, val, missing, next, asks, add_is, key_is, val_is, leads) = ap (after_last_pair u) asks.is
  kind_goes_on u scope rest (Lookup name key bound found absent) node (table, inside, otherwise, asks, leads, other_leads) = ap (after_last_pair u) asks.is
  kind_goes_on u scope rest (Delete name key) node (table, next, asks, leads) = ap (after_last_pair u) asks.is

  -- The node to which another leads, at which a tree goes on.
  record GoesOn (number : ℕ) : Type 0 where
    node : Node
    there : slice_get tree.nodes number ≡ Some node
    goes : (u : Standing) → after_last_pair u node ≡ Some u

  by_todo : (number : ℕ) (scope : List Known) (todo : List Task) → Stands tree.spec.decls (marked_of tree marks) number (record { scope = scope; todo = todo }) → GoesOn number
  by_todo number scope [] stands = absurd stands.does
  by_todo number scope (Forget count ∷ rest) stands = absurd stands.does
  by_todo number scope (Do stmt passed ∷ rest) stands =
      record { node = stands.node; there = stands.there; goes = λ u. kind_goes_on u scope rest (kind_of stmt) stands.node stands.does.1 }

  goes_from : (number : ℕ) (mark : Mark) → slice_get marks number ≡ Some (Some mark) → GoesOn number
  goes_from zero mark is = record { node = nodes.Back first; there = back; goes = λ u. refl }
  goes_from (suc number) mark is = by_todo (suc number) mark.scope mark.todo (marked.each (suc number) mark (omega arith) is)

  led_to : (scope : List Known) (todo : List Task) (number : ℕ) → Leads tree marks scope todo number → GoesOn number
  led_to scope todo number leads = goes_from number _ leads.marked

  -- The silent work of a statement is that of its node.
  kind_work : (scope : List Known) (c : Config) (t : Standing) (rest : List Task) (kind : StmtKind) (node : Node) → Stores tree.spec.decls scope c t
      → Does scope rest kind node → Meets tree marks (after_silent_stmt c rest t.compared kind) (after_silent_node tree t node)
  kind_work scope c t rest (Recv chan cases other block) node stores does = rw does.is tt
  kind_work scope c t rest (Send named parts) node stores does = rw does.is tt
  kind_work scope c t rest (Pick name len alphabet) node stores (next, is, leads) = rw is tt
  kind_work scope c t rest (Assign name left tail) node stores does =
      rw does.is (assigned tree marks marked rd td scope c t rest name left tail does.register does.val does.tail_val does.next stores does.register_is does.val_is does.tail_is does.leads)
  kind_work scope c t rest (If cond holds fails) node stores (on_true, on_false, asks, leads, other_leads) = rw asks.is tt
  kind_work scope c t rest (Either arms) node stores (targets, is, lead) = rw is tt
  kind_work scope c t rest (Assume cond) node stores (next, asks, leads) = rw asks.is tt
  kind_work scope c t rest (Put name key value) node stores (table, key_val, val, missing, next, asks, add_is, key_is, val_is, leads) =
      rw asks.is (passed_all tree marks marked rd td scope c t rest (Put name key value) name table missing (nodes.Store (changes.Add table key_val val) next) stores asks.table_is add_is
      (added tree marks marked rd td scope c (at_node t missing) rest name key value table key_val val next (moved tree marks marked rd td scope c t missing stores) asks.table_is key_is val_is leads))
  kind_work scope c t rest (Lookup name key bound found absent) node stores (table, inside, otherwise, asks, leads, other_leads) =
      let on = led_to scope (entered scope absent rest) otherwise other_leads in
      rw asks.is (passed_all tree marks marked rd td scope c t rest (Lookup name key bound found absent) name table otherwise on.node stores asks.table_is on.there
      (rw (on.goes (at_node t otherwise)) (goes_in_plain tree marks marked scope c t rest absent otherwise stores other_leads)))
  kind_work scope c t rest (Delete name key) node stores (table, next, asks, leads) =
      let on = led_to scope rest next leads in
      rw asks.is (passed_all tree marks marked rd td scope c t rest (Delete name key) name table next on.node stores asks.table_is on.there
      (rw (on.goes (at_node t next)) (goes_behind_plain tree marks marked scope c t rest next stores leads)))

  stands_from : (number : ℕ) (scope : List Known) (stmt : Stmt) (rest : List Task) → slice_get marks number ≡ Some (Some (record { scope = scope; todo = Do stmt 0 ∷ rest }))
      → Stands tree.spec.decls (marked_of tree marks) number (record { scope = scope; todo = Do stmt 0 ∷ rest })
  stands_from zero scope stmt rest is = absurd (let none = zero_done tree marks marked (record { scope = scope; todo = Do stmt 0 ∷ rest }) is in cc)
  stands_from (suc number) scope stmt rest is = marked.each (suc number) (record { scope = scope; todo = Do stmt 0 ∷ rest }) (omega arith) is

  -- The node at which a tree stands for a statement.
  pub stands_at : (number : ℕ) (scope : List Known) (stmt : Stmt) (rest : List Task) → Leads tree marks scope (Do stmt 0 ∷ rest) number
      → Stands tree.spec.decls (marked_of tree marks) number (record { scope = scope; todo = Do stmt 0 ∷ rest })
  stands_at number scope stmt rest leads = stands_from number scope stmt rest leads.marked

  event_at : (c : Config) (t : Standing) (scope : List Known) (stmt : Stmt) (passed : ℕ) (rest : List Task) → Stores tree.spec.decls scope c t
      → Leads tree marks scope (Do stmt 0 ∷ rest) t.node → t.compared ≡ passed → (event : ServerEvent)
      → Meets tree marks (after_event_at tree.spec c (Do stmt passed ∷ rest) event) (after_tree_event tree t event)
  event_at c t scope stmt passed rest stores leads same event =
      let stands = stands_at t.node scope stmt rest leads in
      subst (λ p. Meets tree marks (after_event_at tree.spec c (Do stmt p ∷ rest) event) (after_tree_event tree t event)) same
      (subst (λ o. Meets tree marks (after_stmt tree.spec c rest stmt t.compared (kind_of stmt) event) (o >>= (λ node. after_node tree t node event))) (sym stands.there)
      (kind_event scope c t rest stmt (kind_of stmt) stands.node stores leads stands.does.1 event))

  work_at : (c : Config) (t : Standing) (scope : List Known) (stmt : Stmt) (passed : ℕ) (rest : List Task) → Stores tree.spec.decls scope c t
      → Leads tree marks scope (Do stmt 0 ∷ rest) t.node → t.compared ≡ passed
      → Meets tree marks (after_silent_work_at tree.spec c (Do stmt passed ∷ rest)) (after_tree_work tree t)
  work_at c t scope stmt passed rest stores leads same =
      let stands = stands_at t.node scope stmt rest leads in
      subst (λ p. Meets tree marks (after_silent_work_at tree.spec c (Do stmt p ∷ rest)) (after_tree_work tree t)) same
      (subst (λ o. Meets tree marks (after_silent_stmt c rest t.compared (kind_of stmt)) (o >>= after_silent_node tree t)) (sym stands.there)
      (kind_work scope c t rest (kind_of stmt) stands.node stores stands.does.1))

  -- With nothing to do the tree stands at the loop's end, with no locals.
  only_zero : (number : ℕ) (scope : List Known) → slice_get marks number ≡ Some (Some (record { scope = scope; todo = [] })) → (number ≡ 0) × (scope ≡ [])
  only_zero zero scope is = let same : Some (Some (record { scope = []; todo = [] })) ≡ Some (Some (record { scope = scope; todo = [] })) = sym marked.zero ∙ is in
      let one : record { scope = []; todo = [] } ≡ record { scope = scope; todo = [] } = cc in (refl, sym (ap (λ (mark : Mark). mark.scope) one))
  only_zero (suc number) scope is = absurd (let stands = marked.each (suc number) (record { scope = scope; todo = [] }) (omega arith) is in stands.does)

  work_at_end : (c : Config) (t : Standing) (scope : List Known) → Stores tree.spec.decls scope c t → Leads tree marks scope [] t.node
      → Meets tree marks (after_silent_work_at tree.spec c []) (after_tree_work tree t)
  work_at_end c t scope stores leads =
      let zero_here = only_zero t.node scope leads.marked in
      let there : slice_get tree.nodes t.node ≡ Some (nodes.Back first) = ap (slice_get tree.nodes) zero_here.0 ∙ back in
      let stored = subst (λ scope. Stores tree.spec.decls scope c t) zero_here.1 stores in
      subst (λ o. Meets tree marks (Some (after_entering c [] tree.spec.body [])) (o >>= after_silent_node tree t)) (sym there)
      (goes_in_plain tree marks marked [] c t [] tree.spec.body first stored body_leads)

  by_event : (c : Config) (t : Standing) (scope : List Known) (todo : List Task) → IsReady todo → Stores tree.spec.decls scope c t
      → Leads tree marks scope (unbegun todo) t.node → t.compared ≡ passed_of todo → (event : ServerEvent)
      → Meets tree marks (after_event_at tree.spec c todo event) (after_tree_event tree t event)
  by_event c t scope [] ready stores leads same event =
      let zero_here = only_zero t.node scope leads.marked in
      let there : slice_get tree.nodes t.node ≡ Some (nodes.Back first) = ap (slice_get tree.nodes) zero_here.0 ∙ back in
      rw there tt
  by_event c t scope (Forget count ∷ rest) ready stores leads same event = absurd ready
  by_event c t scope (Do stmt passed ∷ rest) ready stores leads same event = event_at c t scope stmt passed rest stores leads same event

  by_work : (c : Config) (t : Standing) (scope : List Known) (todo : List Task) → IsReady todo → Stores tree.spec.decls scope c t
      → Leads tree marks scope (unbegun todo) t.node → t.compared ≡ passed_of todo
      → Meets tree marks (after_silent_work_at tree.spec c todo) (after_tree_work tree t)
  by_work c t scope [] ready stores leads same = work_at_end c t scope stores leads
  by_work c t scope (Forget count ∷ rest) ready stores leads same = absurd ready
  by_work c t scope (Do stmt passed ∷ rest) ready stores leads same = work_at c t scope stmt passed rest stores leads same

  -- Both have the same events.
  pub events_meet : (c : Config) (t : Standing) → Follows tree marks c t → IsReady c.todo → (event : ServerEvent) → Meets tree marks (after_event tree.spec c event) (after_tree_event tree t event)
  events_meet c t follows ready event = by_event c t follows.scope c.todo ready follows.stores follows.leads follows.compared event

  -- Both have the same silent work, but for ends of blocks.
  pub work_meets : (c : Config) (t : Standing) → Follows tree marks c t → IsReady c.todo → Meets tree marks (after_silent_work tree.spec c) (after_tree_work tree t)
  work_meets c t follows ready = by_work c t follows.scope c.todo ready follows.stores follows.leads follows.compared

  -- At the end of a block the tree follows as it stands.
  pub forgets : (c : Config) (t : Standing) (count : ℕ) (rest : List Task) → c.todo ≡ Forget count ∷ rest → Follows tree marks c t
      → Follows tree marks (record c { todo = rest; locals = take count c.locals }) t
  forgets c t count rest is follows =
      let less = take count follows.scope in
      let leads : Leads tree marks less rest t.node
      = record { marked = follows.leads.marked ∙ ap (λ todo. Some (Some (ready follows.scope (unbegun todo)))) is } in
      let stored : Stores tree.spec.decls less (record c { todo = rest; locals = take count c.locals }) t
      = record {
        locals = record {
          names = sym (take-map (λ (b : Binding). b.name) count c.locals) ∙ ap (take count) follows.stores.locals.names ∙ take-map (λ (k : Known). k.name) count follows.scope;
          values = taken_twice count follows.scope t.locals ∙ ap (take count) follows.stores.locals.values ∙ take-map (λ (b : Binding). b.value) count c.locals;
        };
        register_names = follows.stores.register_names;
        registers = follows.stores.registers;
        table_names = follows.stores.table_names;
        tables = follows.stores.tables;
        taken = follows.stores.taken;
        sent = follows.stores.sent;
      } in
      goes_on tree marks marked less (record c { todo = rest; locals = take count c.locals }) t stored leads (follows.compared ∙ ap passed_of is)
