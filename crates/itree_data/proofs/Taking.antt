-- A tree takes a message as its specification does.
use Rattle.std.proofs.Common.{◌≡◌, ℕ, ◌&&◌, ◌==◌, List, [], ◌∷◌, ◌++◌, length, map, Option, Some, None, option_map, refl, sym, ◌∙◌, ap, subst, append-nil, append_assoc}
use Rattle.spec_model.specs.declared.config.Binding.{Binding}
use Rattle.spec_model.specs.declared.config.Config.{Config}
use Rattle.spec_model.specs.declared.config.Task.{Task}
use Rattle.spec_model.specs.declared.config.Value.{Value}
use Rattle.spec_model.specs.declared.config.Value.TheVariants.{Text, Number}
use Rattle.spec_model.specs.declared.event.ServerEvent.{ServerEvent}
use Rattle.spec_model.specs.declared.event.ServerEvent.TheVariants as events
use Rattle.spec_model.specs.declared.event.Shape.{Shape}
use Rattle.spec_model.specs.declared.tree.Block.{Block}
use Rattle.spec_model.specs.declared.tree.Case.{Case, out-Case}
use Rattle.spec_model.specs.declared.tree.Chan.{Chan}
use Rattle.spec_model.specs.declared.tree.Chan.TheVariants.{Bind, From}
use Rattle.spec_model.specs.declared.tree.Kind.TheOpen.{Recv}
use Rattle.spec_model.specs.declared.tree.Stmt.{Stmt}
use Rattle.spec_model.specs.Config.{with_item_at}
use Rattle.spec_model.specs.Message.{may_pass}
use Rattle.spec_model.specs.Pattern.{bindings_of, pieces_of}
use Rattle.spec_model.specs.Step.{BlockEntry, after_stmt, after_take, bound_conn, chosen_case, first_fit, may_take}
use Rattle.spec_model.specs.Value.{only_if}
use Rattle.spec_rules.specs.declared.names.Known.{Known}
use Rattle.spec_rules.specs.declared.names.ValueType.TheVariants.{Conn, Text as TextType}
use Rattle.spec_rules.specs.Names.{local, names_of_chan, names_of_pattern}
use Rattle.itree_data.specs.declared.node.Node.{Node}
use Rattle.itree_data.specs.declared.node.Node.TheVariants as nodes
use Rattle.itree_data.specs.declared.node.TakeCase.{TakeCase}
use Rattle.itree_data.specs.declared.node.Val.{Val}
use Rattle.itree_data.specs.Fields.{Fields}
use Rattle.itree_data.specs.Marks.{CasesLead, ChanIs, DoesRecv, IsMarked, Mark, entered, marked_of}
use Rattle.itree_data.specs.Resolve.{slotted}
use Rattle.itree_data.specs.Standing.{Standing}
use Rattle.itree_data.specs.Step.{Entry, after_node, after_taking, case_fit, case_taken, item_of, takes_from, with_conn, with_holes}
use Rattle.itree_data.proofs.Binding.{bound_next, holes_bound, slotted_pieces}
use Rattle.itree_data.proofs.Follows.{Follows, Leads, Meets, goes_in, meets_bind, meets_if}
use Rattle.itree_data.proofs.Stored.{InScope, Stores, conn_same}

module _ (tree : Fields) (marks : List (Option Mark)) (marked : IsMarked tree.spec.decls (marked_of tree marks)) (shape : tree.shape ≡ tree.spec.shape) where
  -- The tree goes on in the same block, with the same names bound.
  record Enters (scope : List Known) (rest : List Task) (before : List Binding) (entry : BlockEntry) (there : Entry) : Type 0 where
    inner : List Known
    inside : InScope inner (before ++ entry.bound) there.locals
    leads : Leads tree marks inner (entered scope entry.block rest) there.next

  enters_fit : (scope named : List Known) (rest : List Task) (before : List Binding) (locals : List Value) (case : Case) (first : TakeCase) (message : List ℕ) (later : BlockEntry) (after : Entry)
      → InScope named before locals → first.items ≡ slotted (length named) (out-Case case).items
      → Leads tree marks (named ++ names_of_pattern (out-Case case).items) (entered scope (out-Case case).block rest) first.next
      → Enters scope rest before later after → (fit : Option (List (List ℕ))) → pieces_of (out-Case case).items message ≡ fit
      → Enters scope rest before (first_fit case fit later) (case_fit locals first fit after)
  enters_fit scope named rest before locals case first message later after inside items leads more None fits = more
  enters_fit scope named rest before locals case first message later after inside items leads more (Some pieces) fits =
      let bound = holes_bound (out-Case case).items message pieces fits named before locals inside in
      record {
        inner = named ++ names_of_pattern (out-Case case).items;
        inside = subst (λ slots. InScope (named ++ names_of_pattern (out-Case case).items) (before ++ bindings_of (out-Case case).items pieces) (with_holes locals slots pieces)) (sym items) bound;
        leads = leads;
      }

  enters_case : (scope named : List Known) (rest : List Task) (before : List Binding) (locals : List Value) (cases : List Case) (taken : List TakeCase) (other : List ℕ) (block : Block) (next : ℕ)
      (message : List ℕ) → InScope named before locals → CasesLead marks scope named rest cases taken
      → Leads tree marks (named ++ local other TextType ∷ []) (entered scope block rest) next
      → Enters scope rest before (chosen_case cases other block message) (case_taken locals taken (length named) next message)
  enters_case scope named rest before locals [] taken other block next message inside none leads =
      let one : Binding = record { name = other; value = Text message } in
      let last = bound_next named before locals one (local other TextType) inside refl in
      subst (λ taken. Enters scope rest before (record { block = block; bound = one ∷ [] }) (case_taken locals taken (length named) next message)) (sym none)
      (record { inner = named ++ local other TextType ∷ []; inside = last; leads = leads })
  enters_case scope named rest before locals (case ∷ cases) taken other block next message inside (first, later, is, items, case_leads, more) leads =
      let after = enters_case scope named rest before locals cases later other block next message inside more leads in
      let fits : pieces_of (map item_of first.items) message ≡ pieces_of (out-Case case).items message
      = ap (λ slots. pieces_of (map item_of slots) message) items ∙ slotted_pieces (out-Case case).items (length named) message in
      let fit = enters_fit scope named rest before locals case first message (chosen_case cases other block message) (case_taken locals later (length named) next message) inside items case_leads
      after (pieces_of (out-Case case).items message) refl in
      let whole = subst (λ fit. Enters scope rest before (chosen_case (case ∷ cases) other block message) (case_fit locals first fit (case_taken locals later (length named) next message))) (sym fits) fit in
      subst (λ taken. Enters scope rest before (chosen_case (case ∷ cases) other block message) (case_taken locals taken (length named) next message)) (sym is) whole

  takes_from_same : (scope : List Known) (c : Config) (t : Standing) (chan : Chan) (from : Option Val) (bound : Option ℕ) (conn : ℕ) → Stores tree.spec.decls scope c t
      → ChanIs tree.spec.decls scope chan from bound → may_take c chan conn ≡ takes_from t from conn
  takes_from_same scope c t (Bind name) from bound conn stores (any, slot) = ap (λ from. takes_from t from conn) (sym any)
  takes_from_same scope c t (From named) from bound conn stores (val, is, some, none) =
      ap (option_map (λ number. number == conn)) (conn_same tree.spec.decls scope c t stores named val is) ∙ ap (λ from. takes_from t from conn) (sym some)

  conn_bound : (scope : List Known) (before : List Binding) (locals : List Value) (chan : Chan) (from : Option Val) (bound : Option ℕ) (conn : ℕ) → InScope scope before locals
      → ChanIs tree.spec.decls scope chan from bound → InScope (scope ++ names_of_chan chan) (before ++ bound_conn chan conn) (with_conn locals bound conn)
  conn_bound scope before locals (Bind name) from bound conn inside (any, slot) =
      let one : Binding = record { name = name; value = Number conn } in
      subst (λ bound. InScope (scope ++ local name Conn ∷ []) (before ++ one ∷ []) (with_conn locals bound conn)) (sym slot) (bound_next scope before locals one (local name Conn) inside refl)
  conn_bound scope before locals (From named) from bound conn inside (val, is, some, none) =
      rw (none, append-nil scope, append-nil before) inside

  take_follows : (scope : List Known) (c : Config) (t : Standing) (rest : List Task) (chan : Chan) (conn : ℕ) (message : List ℕ) (entry : BlockEntry) (there : Entry) → Stores tree.spec.decls scope c t
      → Enters scope rest (c.locals ++ bound_conn chan conn) entry there → Follows tree marks (after_take c rest chan conn message entry) (after_taking t conn message there)
  take_follows scope c t rest chan conn message entry there stores enters =
      let took : Config = record c { taken = with_item_at c.taken conn message } in
      let has_taken : Standing = record t { taken = with_item_at t.taken conn message } in
      let stored : Stores tree.spec.decls scope took has_taken
      = record {
        locals = stores.locals;
        register_names = stores.register_names;
        registers = stores.registers;
        table_names = stores.table_names;
        tables = stores.tables;
        taken = ap (λ lists. with_item_at lists conn message) stores.taken;
        sent = stores.sent;
      } in
      let inside = rw append_assoc at enters.inside in
      goes_in tree marks marked scope enters.inner took has_taken rest entry.block (bound_conn chan conn ++ entry.bound) there.locals there.next stored inside enters.leads

  recv_meets : (scope : List Known) (c : Config) (t : Standing) (rest : List Task) (stmt : Stmt) (passed : ℕ) (chan : Chan) (cases : List Case) (other : List ℕ) (block : Block)
      (from : Option Val) (bound : Option ℕ) (taken : List TakeCase) (next : ℕ) → Stores tree.spec.decls scope c t → ChanIs tree.spec.decls scope chan from bound
      → CasesLead marks scope (scope ++ names_of_chan chan) rest cases taken
      → Leads tree marks ((scope ++ names_of_chan chan) ++ local other TextType ∷ []) (entered scope block rest) next → (event : ServerEvent)
      → Meets tree marks (after_stmt tree.spec c rest stmt passed (Recv chan cases other block) event)
      (after_node tree t (nodes.Take from bound taken (length (scope ++ names_of_chan chan)) next) event)
  recv_meets scope c t rest stmt passed chan cases other block from bound taken next stores chan_is cases_lead leads (events.Take conn message) =
      let named = conn_bound scope c.locals t.locals chan from bound conn stores.locals chan_is in
      let enters = enters_case scope (scope ++ names_of_chan chan) rest (c.locals ++ bound_conn chan conn) (with_conn t.locals bound conn) cases taken other block next message named cases_lead leads in
      let follows = take_follows scope c t rest chan conn message (chosen_case cases other block message)
      (case_taken (with_conn t.locals bound conn) taken (length (scope ++ names_of_chan chan)) next message) stores enters in
      meets_bind tree marks (may_take c chan conn) (takes_from t from conn) _ _ (takes_from_same scope c t chan from bound conn stores chan_is)
      (λ allowed. subst (λ (s : Shape). Meets tree marks (only_if (allowed && may_pass tree.spec.shape conn message) (Some (after_take c rest chan conn message (chosen_case cases other block message))))
      (only_if (allowed && may_pass s conn message) (Some (after_taking t conn message (case_taken (with_conn t.locals bound conn) taken (length (scope ++ names_of_chan chan)) next message))))) (sym shape)
      (meets_if tree marks (allowed && may_pass tree.spec.shape conn message) (Some _) (Some _) follows))
  recv_meets scope c t rest stmt passed chan cases other block from bound taken next stores chan_is cases_lead leads (events.Arm arm) = tt
  recv_meets scope c t rest stmt passed chan cases other block from bound taken next stores chan_is cases_lead leads (events.Test outcome) = tt
  recv_meets scope c t rest stmt passed chan cases other block from bound taken next stores chan_is cases_lead leads (events.Pick text) = tt
  recv_meets scope c t rest stmt passed chan cases other block from bound taken next stores chan_is cases_lead leads (events.Send conn message) = tt

  pub does_recv : (scope : List Known) (c : Config) (t : Standing) (rest : List Task) (stmt : Stmt) (passed : ℕ) (chan : Chan) (cases : List Case) (other : List ℕ) (block : Block)
      (node : Node) → Stores tree.spec.decls scope c t → DoesRecv tree.spec.decls (marked_of tree marks) scope rest chan cases other block node → (event : ServerEvent)
      → Meets tree marks (after_stmt tree.spec c rest stmt passed (Recv chan cases other block) event) (after_node tree t node event)
  does_recv scope c t rest stmt passed chan cases other block node stores does event =
      subst (λ node. Meets tree marks (after_stmt tree.spec c rest stmt passed (Recv chan cases other block) event) (after_node tree t node event)) (sym does.is)
      (recv_meets scope c t rest stmt passed chan cases other block does.from does.conn does.taken does.next stores does.chan_is does.cases_lead does.other_leads event)
