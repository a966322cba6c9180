-- A tree sends, picks, chooses and tests conditions as its specification does.
use Rattle.std.proofs.Common.{◌≡◌, ℕ, zero, suc, Bool, true, false, ◌&&◌, ◌==◌, List, [], ◌∷◌, ◌++◌, length, Option, Some, None, option_map, refl, sym, ap, subst}
use Rattle.std.specs.Prelude.{slice_get, bytes_eq, if◌then◌else◌}
use Rattle.std.specs.Bool.{beq}
use Rattle.std.specs.List.{concat}
use Rattle.spec_model.specs.declared.config.Binding.{Binding}
use Rattle.spec_model.specs.declared.config.Config.{Config}
use Rattle.spec_model.specs.declared.config.Task.{Task}
use Rattle.spec_model.specs.declared.config.Value.TheVariants.{Text}
use Rattle.spec_model.specs.declared.event.ServerEvent.{ServerEvent}
use Rattle.spec_model.specs.declared.event.ServerEvent.TheVariants as events
use Rattle.spec_model.specs.declared.event.Shape.{Shape}
use Rattle.spec_model.specs.declared.tree.Alphabet.{Alphabet}
use Rattle.spec_model.specs.declared.tree.Block.{Block}
use Rattle.spec_model.specs.declared.tree.Cond.{Cond}
use Rattle.spec_model.specs.declared.tree.Expr.{Expr}
use Rattle.spec_model.specs.declared.tree.Kind.TheOpen.{Send, Pick, If, Either, Assume}
use Rattle.spec_model.specs.declared.tree.Stmt.{Stmt}
use Rattle.spec_model.specs.Config.{after_entering, with_item_at}
use Rattle.spec_model.specs.Message.{may_pass}
use Rattle.spec_model.specs.Step.{after_send, after_stmt, may_be_picked, parts_sent}
use Rattle.spec_model.specs.Value.{only_if, number_of, truth_of}
use Rattle.spec_rules.specs.declared.names.Known.{Known}
use Rattle.spec_rules.specs.declared.names.ValueType.TheVariants.{Text as TextType}
use Rattle.spec_rules.specs.Names.{local}
use Rattle.itree_data.specs.declared.node.Check.TheVariants as checks
use Rattle.itree_data.specs.declared.node.Node.{Node}
use Rattle.itree_data.specs.declared.node.Node.TheVariants as nodes
use Rattle.itree_data.specs.declared.node.Val.{Val}
use Rattle.itree_data.specs.Fields.{Fields}
use Rattle.itree_data.specs.Marks.{ArmsLead, DoesSend, IsMarked, Mark, entered, marked_of}
use Rattle.itree_data.specs.Resolve.{all_resolved, resolved, resolved_conn}
use Rattle.itree_data.specs.Standing.{Standing, at_node, with_local}
use Rattle.itree_data.specs.Step.{after_node, after_sending, side_of}
use Rattle.itree_data.specs.Value.{number_at, pieces_at, truth_at}
use Rattle.itree_data.proofs.Binding.{bound_next}
use Rattle.itree_data.proofs.Follows.{Follows, Leads, Meets, goes_behind, goes_behind_plain, goes_in_plain, meets_bind, meets_if}
use Rattle.itree_data.proofs.Stored.{Stores, conn_same, parts_same, truth_same}

module _ (tree : Fields) (marks : List (Option Mark)) (marked : IsMarked tree.spec.decls (marked_of tree marks)) (shape : tree.shape ≡ tree.spec.shape) where
  send_follows : (scope : List Known) (c : Config) (t : Standing) (rest : List Task) (conn : ℕ) (pieces : List (List ℕ)) (next : ℕ) → Stores tree.spec.decls scope c t
      → Leads tree marks scope rest next → Follows tree marks (after_send c rest conn pieces) (after_sending t conn pieces next)
  send_follows scope c t rest conn pieces next stores leads =
      let sent : Config = record c { sent = with_item_at c.sent conn pieces } in
      let has_sent : Standing = record t { sent = with_item_at t.sent conn pieces } in
      let stored : Stores tree.spec.decls scope sent has_sent
      = record {
        locals = stores.locals;
        register_names = stores.register_names;
        registers = stores.registers;
        table_names = stores.table_names;
        tables = stores.tables;
        taken = stores.taken;
        sent = ap (λ lists. with_item_at lists conn pieces) stores.sent;
      } in
      goes_behind_plain tree marks marked scope sent has_sent rest next stored leads

  send_meets : (scope : List Known) (c : Config) (t : Standing) (rest : List Task) (stmt : Stmt) (passed : ℕ) (named : Expr) (parts : List Expr) (conn_val : Val) (vals : List Val) (next : ℕ)
      → Stores tree.spec.decls scope c t → resolved_conn tree.spec.decls scope named ≡ Some conn_val → all_resolved tree.spec.decls scope parts ≡ Some vals → Leads tree marks scope rest next
      → (event : ServerEvent) → Meets tree marks (after_stmt tree.spec c rest stmt passed (Send named parts) event) (after_node tree t (nodes.Send conn_val vals next) event)
  send_meets scope c t rest stmt passed named parts conn_val vals next stores conn_is vals_are leads (events.Send conn message) =
      meets_bind tree marks (number_of c named) (number_at t conn_val) _ _ (conn_same tree.spec.decls scope c t stores named conn_val conn_is)
      (λ number. meets_bind tree marks (parts_sent c parts) (pieces_at t vals) _ _ (parts_same tree.spec.decls scope c t stores parts vals vals_are)
      (λ pieces. subst (λ (s : Shape). Meets tree marks (only_if ((number == conn) && bytes_eq message (concat pieces) && may_pass tree.spec.shape conn message) (Some (after_send c rest conn pieces)))
      (only_if ((number == conn) && bytes_eq message (concat pieces) && may_pass s conn message) (Some (after_sending t conn pieces next)))) (sym shape)
      (meets_if tree marks ((number == conn) && bytes_eq message (concat pieces) && may_pass tree.spec.shape conn message) (Some _) (Some _) (send_follows scope c t rest conn pieces next stores leads))))
  send_meets scope c t rest stmt passed named parts conn_val vals next stores conn_is vals_are leads (events.Take conn message) = tt
  send_meets scope c t rest stmt passed named parts conn_val vals next stores conn_is vals_are leads (events.Arm arm) = tt
  send_meets scope c t rest stmt passed named parts conn_val vals next stores conn_is vals_are leads (events.Test outcome) = tt
  send_meets scope c t rest stmt passed named parts conn_val vals next stores conn_is vals_are leads (events.Pick text) = tt

  pub does_send : (scope : List Known) (c : Config) (t : Standing) (rest : List Task) (stmt : Stmt) (passed : ℕ) (named : Expr) (parts : List Expr) (node : Node)
      → Stores tree.spec.decls scope c t → DoesSend tree.spec.decls (marked_of tree marks) scope rest named parts node → (event : ServerEvent)
      → Meets tree marks (after_stmt tree.spec c rest stmt passed (Send named parts) event) (after_node tree t node event)
  does_send scope c t rest stmt passed named parts node stores does event =
      subst (λ node. Meets tree marks (after_stmt tree.spec c rest stmt passed (Send named parts) event) (after_node tree t node event)) (sym does.is)
      (send_meets scope c t rest stmt passed named parts does.conn does.vals does.next stores does.conn_is does.vals_are does.leads event)

  pub does_pick : (scope : List Known) (c : Config) (t : Standing) (rest : List Task) (stmt : Stmt) (passed : ℕ) (name : List ℕ) (len : ℕ) (alphabet : Alphabet) (next : ℕ)
      → Stores tree.spec.decls scope c t → Leads tree marks (scope ++ local name TextType ∷ []) rest next → (event : ServerEvent)
      → Meets tree marks (after_stmt tree.spec c rest stmt passed (Pick name len alphabet) event) (after_node tree t (nodes.Choose (length scope) len alphabet next) event)
  does_pick scope c t rest stmt passed name len alphabet next stores leads (events.Pick text) =
      let one : Binding = record { name = name; value = Text text } in
      let inside = bound_next scope c.locals t.locals one (local name TextType) stores.locals refl in
      let follows = goes_behind tree marks marked scope (scope ++ local name TextType ∷ []) c t rest (c.locals ++ one ∷ []) (with_local t.locals (length scope) (Text text)) next stores inside leads in
      subst (λ (s : Shape). Meets tree marks (only_if (may_be_picked tree.spec.shape.framing len alphabet text) (Some (record c { todo = rest; locals = c.locals ++ one ∷ [] })))
      (only_if (may_be_picked s.framing len alphabet text) (Some (record (at_node t next) { locals = with_local t.locals (length scope) (Text text) })))) (sym shape)
      (meets_if tree marks (may_be_picked tree.spec.shape.framing len alphabet text) (Some _) (Some _) follows)
  does_pick scope c t rest stmt passed name len alphabet next stores leads (events.Take conn message) = tt
  does_pick scope c t rest stmt passed name len alphabet next stores leads (events.Arm arm) = tt
  does_pick scope c t rest stmt passed name len alphabet next stores leads (events.Test outcome) = tt
  does_pick scope c t rest stmt passed name len alphabet next stores leads (events.Send conn message) = tt

  -- The arm of that number leads to its block, on both sides.
  arm_meets : (scope : List Known) (c : Config) (t : Standing) (rest : List Task) (arms : List Block) (targets : List ℕ) (arm : ℕ) → Stores tree.spec.decls scope c t
      → ArmsLead marks scope rest arms targets
      → Meets tree marks (option_map (λ block. after_entering c rest block []) (slice_get arms arm)) (option_map (at_node t) (slice_get targets arm))
  arm_meets scope c t rest [] targets arm stores none = rw none tt
  arm_meets scope c t rest (block ∷ arms) targets zero stores (first, later, is, leads, more) =
      rw is (goes_in_plain tree marks marked scope c t rest block first stores leads)
  arm_meets scope c t rest (block ∷ arms) targets (suc arm) stores (first, later, is, leads, more) =
      rw is (arm_meets scope c t rest arms later arm stores more)

  pub does_either : (scope : List Known) (c : Config) (t : Standing) (rest : List Task) (stmt : Stmt) (passed : ℕ) (arms : List Block) (targets : List ℕ)
      → Stores tree.spec.decls scope c t → ArmsLead marks scope rest arms targets → (event : ServerEvent)
      → Meets tree marks (after_stmt tree.spec c rest stmt passed (Either arms) event) (after_node tree t (nodes.Fork targets) event)
  does_either scope c t rest stmt passed arms targets stores lead (events.Arm arm) = arm_meets scope c t rest arms targets arm stores lead
  does_either scope c t rest stmt passed arms targets stores lead (events.Take conn message) = tt
  does_either scope c t rest stmt passed arms targets stores lead (events.Pick text) = tt
  does_either scope c t rest stmt passed arms targets stores lead (events.Test outcome) = tt
  does_either scope c t rest stmt passed arms targets stores lead (events.Send conn message) = tt

  side_meets : (scope : List Known) (c : Config) (t : Standing) (rest : List Task) (holds fails : Block) (on_true on_false : ℕ) (outcome : Bool) → Stores tree.spec.decls scope c t
      → Leads tree marks scope (entered scope holds rest) on_true → Leads tree marks scope (entered scope fails rest) on_false
      → Meets tree marks (Some (after_entering c rest (if outcome then holds else fails) [])) (option_map (at_node t) (side_of outcome on_true (Some on_false)))
  side_meets scope c t rest holds fails on_true on_false true stores here there = goes_in_plain tree marks marked scope c t rest holds on_true stores here
  side_meets scope c t rest holds fails on_true on_false false stores here there = goes_in_plain tree marks marked scope c t rest fails on_false stores there

  pub does_if : (scope : List Known) (c : Config) (t : Standing) (rest : List Task) (stmt : Stmt) (passed : ℕ) (cond : Cond) (holds fails : Block) (left right : Val) (on_true on_false : ℕ)
      → Stores tree.spec.decls scope c t → resolved tree.spec.decls scope cond.left ≡ Some left → resolved tree.spec.decls scope cond.right ≡ Some right
      → Leads tree marks scope (entered scope holds rest) on_true → Leads tree marks scope (entered scope fails rest) on_false → (event : ServerEvent)
      → Meets tree marks (after_stmt tree.spec c rest stmt passed (If cond holds fails) event) (after_node tree t (nodes.Branch (checks.Cond left cond.op right) on_true (Some on_false)) event)
  does_if scope c t rest stmt passed cond holds fails left right on_true on_false stores left_is right_is here there (events.Test outcome) =
      meets_bind tree marks (truth_of c cond) (truth_at t left cond.op right) _ _ (truth_same tree.spec.decls scope c t stores cond left right left_is right_is)
      (λ truth. meets_if tree marks (beq truth outcome) _ _ (side_meets scope c t rest holds fails on_true on_false outcome stores here there))
  does_if scope c t rest stmt passed cond holds fails left right on_true on_false stores left_is right_is here there (events.Take conn message) = tt
  does_if scope c t rest stmt passed cond holds fails left right on_true on_false stores left_is right_is here there (events.Arm arm) = tt
  does_if scope c t rest stmt passed cond holds fails left right on_true on_false stores left_is right_is here there (events.Pick text) = tt
  does_if scope c t rest stmt passed cond holds fails left right on_true on_false stores left_is right_is here there (events.Send conn message) = tt

  only_true : (scope : List Known) (c : Config) (t : Standing) (rest : List Task) (next : ℕ) (truth outcome : Bool) → Stores tree.spec.decls scope c t → Leads tree marks scope rest next
      → Meets tree marks (only_if (truth && outcome) (Some (record c { todo = rest }))) (only_if (beq truth outcome) (option_map (at_node t) (side_of outcome next None)))
  only_true scope c t rest next true true stores leads = goes_behind_plain tree marks marked scope c t rest next stores leads
  only_true scope c t rest next true false stores leads = tt
  only_true scope c t rest next false true stores leads = tt
  only_true scope c t rest next false false stores leads = tt

  pub does_assume : (scope : List Known) (c : Config) (t : Standing) (rest : List Task) (stmt : Stmt) (passed : ℕ) (cond : Cond) (left right : Val) (next : ℕ)
      → Stores tree.spec.decls scope c t → resolved tree.spec.decls scope cond.left ≡ Some left → resolved tree.spec.decls scope cond.right ≡ Some right → Leads tree marks scope rest next
      → (event : ServerEvent)
      → Meets tree marks (after_stmt tree.spec c rest stmt passed (Assume cond) event) (after_node tree t (nodes.Branch (checks.Cond left cond.op right) next None) event)
  does_assume scope c t rest stmt passed cond left right next stores left_is right_is leads (events.Test outcome) =
      meets_bind tree marks (truth_of c cond) (truth_at t left cond.op right) _ _ (truth_same tree.spec.decls scope c t stores cond left right left_is right_is)
      (λ truth. only_true scope c t rest next truth outcome stores leads)
  does_assume scope c t rest stmt passed cond left right next stores left_is right_is leads (events.Take conn message) = tt
  does_assume scope c t rest stmt passed cond left right next stores left_is right_is leads (events.Arm arm) = tt
  does_assume scope c t rest stmt passed cond left right next stores left_is right_is leads (events.Pick text) = tt
  does_assume scope c t rest stmt passed cond left right next stores left_is right_is leads (events.Send conn message) = tt
