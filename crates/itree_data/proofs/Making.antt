-- Nodes that are put one behind the other stand for their marks.
use Rattle.std.proofs.Common.{◌≡◌, ℕ, zero, suc, ◌+◌, ◌<◌, ◌≤◌, ◌⊎◌, inl, inr, List, [], ◌∷◌, ◌++◌, length, Option, Some, None, refl, sym, ◌∙◌, ap, subst, arith, length-append}
use Rattle.std.specs.Prelude.{slice_get}
use Rattle.std.specs.List.{AllByRecursion}
use Rattle.spec_model.specs.declared.config.Task.{Task}
use Rattle.spec_model.specs.declared.config.Task.TheVariants.{Do, Forget}
use Rattle.spec_model.specs.declared.tree.Block.{Block}
use Rattle.spec_model.specs.declared.tree.Case.{Case}
use Rattle.spec_model.specs.declared.tree.Decl.{Decl}
use Rattle.spec_model.specs.declared.tree.Kind.TheOpen.{Recv, Send, Pick, Assign, If, Either, Assume, Put as PutPair, Lookup, Delete}
use Rattle.spec_model.specs.declared.tree.Stmt.{Stmt}
use Rattle.spec_model.specs.Config.{StmtKind, begin, kind_of}
use Rattle.spec_rules.specs.declared.names.Known.{Known}
use Rattle.itree_data.specs.declared.node.Change.{Change}
use Rattle.itree_data.specs.declared.node.Node.{Node}
use Rattle.itree_data.specs.declared.node.Node.TheVariants as nodes
use Rattle.itree_data.specs.declared.node.TakeCase.{TakeCase}
use Rattle.itree_data.specs.declared.nodes.Nodes.{Nodes}
use Rattle.itree_data.specs.Making.{Ascends, Grown, Made, Put, with_marks}
use Rattle.itree_data.specs.Marks.{ArmsLead, CasesLead, DoesKind, DoesTasks, GoesDown, LeadsTo, Mark, Marked, Stands, ready}
use Rattle.itree_data.specs.Slots.{ReadsBelow}
use Rattle.itree_data.proofs.SlotsRead.{kind_reads}

pub ascends_least : (least : ℕ) (places : List ℕ) (most : ℕ) → Ascends least places most → least ≤ most
ascends_least least [] most up = up
ascends_least least (place ∷ places) most up = let later = ascends_least (place + 1) places most up.1 in let first = up.0 in omega arith

-- Numbers that ascend do so in both parts.
pub ascends_split : (least : ℕ) (front back : List ℕ) (most : ℕ) → Ascends least (front ++ back) most → (middle : ℕ) × Ascends least front middle × Ascends middle back most
ascends_split least [] back most up = (least, omega arith, up)
ascends_split least (place ∷ front) back most up = let later = ascends_split (place + 1) front back most up.1 in (later.0, (up.0, later.1), later.2)

pub front_get : {A : Type 0} (xs ys : List A) (n : ℕ) (x : A) → slice_get xs n ≡ Some x → slice_get (xs ++ ys) n ≡ Some x
front_get [] ys n x is = absurd (cc)
front_get (y ∷ xs) ys zero x is = is
front_get (y ∷ xs) ys (suc n) x is = front_get xs ys n x is

pub last_get : {A : Type 0} (xs : List A) (x : A) → slice_get (xs ++ x ∷ []) (length xs) ≡ Some x
last_get [] x = refl
last_get (y ∷ xs) x = last_get xs x

front_or_last : {A : Type 0} (xs : List A) (x : A) (n : ℕ) (y : A) → slice_get (xs ++ x ∷ []) n ≡ Some y → (slice_get xs n ≡ Some y) ⊎ ((n ≡ length xs) × (x ≡ y))
front_or_last [] x zero y is = inr (refl, cc)
front_or_last [] x (suc n) y is = absurd (cc)
front_or_last (z ∷ xs) x zero y is = inl is
front_or_last (z ∷ xs) x (suc n) y is = elim (front_or_last xs x n y is) [ inl before ↦ inl before | inr last ↦ inr (ap suc last.0, last.1) ]

get_within : {A : Type 0} (xs : List A) (n : ℕ) (x : A) → slice_get xs n ≡ Some x → n < length xs
get_within [] n x is = absurd (cc)
get_within (y ∷ xs) zero x is = omega arith
get_within (y ∷ xs) (suc n) x is = let later = get_within xs n x is in omega (arith, later)

-- A node to which another leads has a mark.
pub leads_within : (marks : List (Option Mark)) (scope : List Known) (todo : List Task) (node : ℕ) → LeadsTo marks scope todo node → node < length marks
leads_within marks scope todo node leads = get_within marks node (Some (ready scope todo)) leads.marked

-- The node of a statement goes on, silently, at nodes that were there before.
module _ (decls : List Decl) (m : Marked) (number : ℕ) (marks_long : length m.marks ≡ number) (nodes_long : length m.nodes ≡ number) where
  leads_down : (scope : List Known) (todo : List Task) (node : ℕ) → LeadsTo m.marks scope todo node → node < number
  leads_down scope todo node leads = let within = leads_within m.marks scope todo node leads in omega arith

  down_as : (node one : Node) → node ≡ one → GoesDown number one → GoesDown number node
  down_as node one is down = subst (GoesDown number) (sym is) down

  cases_down : (scope named : List Known) (rest : List Task) (cases : List Case) (taken : List TakeCase) → CasesLead m.marks scope named rest cases taken
      → AllByRecursion (λ (case : TakeCase). case.next < number) taken
  cases_down scope named rest [] taken none = rw none tt
  cases_down scope named rest (case ∷ cases) taken (first, later, are, items, leads, others) =
      rw are (leads_down _ _ first.next leads, cases_down scope named rest cases later others)

  arms_down : (scope : List Known) (rest : List Task) (arms : List Block) (targets : List ℕ) → ArmsLead m.marks scope rest arms targets → AllByRecursion (λ arm. arm < number) targets
  arms_down scope rest [] targets none = rw none tt
  arms_down scope rest (arm ∷ arms) targets (first, later, are, leads, others) = rw are (leads_down _ _ first leads, arms_down scope rest arms later others)

  found_down : (node : Node) (holds : ℕ) → slice_get m.nodes holds ≡ Some node → holds < number
  found_down node holds is = let within = get_within m.nodes holds node is in omega arith

  kind_down : (scope : List Known) (rest : List Task) (kind : StmtKind) (node : Node) → DoesKind decls m scope rest kind node → GoesDown number node
  kind_down scope rest (Recv chan cases other block) node does =
      down_as node _ does.is (cases_down _ _ rest cases does.taken does.cases_lead, leads_down _ _ does.next does.other_leads)
  kind_down scope rest (Send named parts) node does = down_as node _ does.is (leads_down scope rest does.next does.leads)
  kind_down scope rest (Pick name len alphabet) node (next, is, leads) = down_as node _ is (leads_down _ _ next leads)
  kind_down scope rest (Assign name left tail) node does = down_as node _ does.is (leads_down scope rest does.next does.leads)
  kind_down scope rest (If cond holds fails) node (on_true, on_false, asks, leads, other_leads) =
      down_as node _ asks.is (leads_down _ _ on_true leads, leads_down _ _ on_false other_leads)
  kind_down scope rest (Either arms) node (targets, is, lead) = down_as node _ is (arms_down scope rest arms targets lead)
  kind_down scope rest (Assume cond) node (next, asks, leads) = down_as node _ asks.is (leads_down _ _ next leads)
  kind_down scope rest (PutPair name key value) node (table, key_val, val, missing, next, asks, add_is, key_is, val_is, leads) =
      down_as node _ asks.is (found_down _ asks.holds asks.found_is, found_down _ missing add_is)
  kind_down scope rest (Lookup name key bound found absent) node (table, first, otherwise, asks, leads, other_leads) =
      down_as node _ asks.is (found_down _ asks.holds asks.found_is, leads_down _ _ otherwise other_leads)
  kind_down scope rest (Delete name key) node (table, next, asks, leads) = down_as node _ asks.is (found_down _ asks.holds asks.found_is, leads_down scope rest next leads)

-- The marks stay, and the changes that nodes make.
pub record Extends (old new : Marked) : Type 0 where
  pub marks : (number : ℕ) (mark : Option Mark) → slice_get old.marks number ≡ Some mark → slice_get new.marks number ≡ Some mark
  pub stores : (number : ℕ) (what : Change) (next : ℕ) → slice_get old.nodes number ≡ Some (nodes.Store what next) → slice_get new.nodes number ≡ Some (nodes.Store what next)

module _ (decls : List Decl) (old new : Marked) (extends : Extends old new) where
  pub leads_still : (scope : List Known) (todo : List Task) (node : ℕ) → LeadsTo old.marks scope todo node → LeadsTo new.marks scope todo node
  leads_still scope todo node leads = record { marked = extends.marks node (Some (ready scope todo)) leads.marked }

  pub cases_still : (scope named : List Known) (rest : List Task) (cases : List Case) (taken : List TakeCase) → CasesLead old.marks scope named rest cases taken → CasesLead new.marks scope named rest cases taken
  cases_still scope named rest [] taken none = none
  cases_still scope named rest (case ∷ cases) taken (first, later, is, items, leads, more) =
      (first, later, is, items, leads_still _ _ _ leads, cases_still scope named rest cases later more)

  pub arms_still : (scope : List Known) (rest : List Task) (arms : List Block) (targets : List ℕ) → ArmsLead old.marks scope rest arms targets → ArmsLead new.marks scope rest arms targets
  arms_still scope rest [] targets none = none
  arms_still scope rest (arm ∷ arms) targets (first, later, is, leads, more) = (first, later, is, leads_still _ _ _ leads, arms_still scope rest arms later more)

  does_still : (scope : List Known) (rest : List Task) (kind : StmtKind) (node : Node) → DoesKind decls old scope rest kind node → DoesKind decls new scope rest kind node
  does_still scope rest (Recv chan cases other block) node does = record {
    from = does.from;
    conn = does.conn;
    taken = does.taken;
    next = does.next;
    is = does.is;
    chan_is = does.chan_is;
    cases_lead = cases_still _ _ rest cases does.taken does.cases_lead;
    other_leads = leads_still _ _ _ does.other_leads;
  }
  does_still scope rest (Send named parts) node does = record {
    conn = does.conn;
    vals = does.vals;
    next = does.next;
    is = does.is;
    conn_is = does.conn_is;
    vals_are = does.vals_are;
    leads = leads_still _ _ _ does.leads;
  }
  does_still scope rest (Pick name len alphabet) node (next, is, leads) = (next, is, leads_still _ _ _ leads)
  does_still scope rest (Assign name left tail) node does = record {
    register = does.register;
    val = does.val;
    tail_val = does.tail_val;
    next = does.next;
    is = does.is;
    register_is = does.register_is;
    val_is = does.val_is;
    tail_is = does.tail_is;
    leads = leads_still _ _ _ does.leads;
  }
  does_still scope rest (If cond holds fails) node (on_true, on_false, asks, leads, other_leads) = (
    on_true,
    on_false,
    record { left = asks.left; right = asks.right; is = asks.is; left_is = asks.left_is; right_is = asks.right_is },
    leads_still _ _ _ leads,
    leads_still _ _ _ other_leads,
  )
  does_still scope rest (Either arms) node (targets, is, lead) = (targets, is, arms_still scope rest arms targets lead)
  does_still scope rest (Assume cond) node (next, asks, leads) =
      (next, record { left = asks.left; right = asks.right; is = asks.is; left_is = asks.left_is; right_is = asks.right_is }, leads_still _ _ _ leads)
  does_still scope rest (PutPair name key value) node (table, key_val, val, missing, next, asks, add_is, key_is, val_is, leads) = (
    table,
    key_val,
    val,
    missing,
    next,
    record { key_val = asks.key_val; holds = asks.holds; is = asks.is; table_is = asks.table_is; key_is = asks.key_is; found_is = extends.stores asks.holds _ next asks.found_is },
    extends.stores missing _ next add_is,
    key_is,
    val_is,
    leads_still _ _ _ leads,
  )
  does_still scope rest (Lookup name key bound found absent) node (table, first, otherwise, asks, leads, other_leads) = (
    table,
    first,
    otherwise,
    record { key_val = asks.key_val; holds = asks.holds; is = asks.is; table_is = asks.table_is; key_is = asks.key_is; found_is = extends.stores asks.holds _ first asks.found_is },
    leads_still _ _ _ leads,
    leads_still _ _ _ other_leads,
  )
  does_still scope rest (Delete name key) node (table, next, asks, leads) = (
    table,
    next,
    record { key_val = asks.key_val; holds = asks.holds; is = asks.is; table_is = asks.table_is; key_is = asks.key_is; found_is = extends.stores asks.holds _ next asks.found_is },
    leads_still _ _ _ leads,
  )

  tasks_still : (scope : List Known) (todo : List Task) (node : Node) → DoesTasks decls old scope todo node → DoesTasks decls new scope todo node
  tasks_still scope [] node does = does
  tasks_still scope (Forget count ∷ rest) node does = does
  tasks_still scope (Do stmt passed ∷ rest) node does = (does.0, does_still scope rest (kind_of stmt) node does.1)

  -- A node that is still there stands for its mark.
  pub stands_still : (number : ℕ) (mark : Mark) (stands : Stands decls old number mark) → slice_get new.nodes number ≡ Some stands.node → slice_get new.scopes number ≡ Some (length mark.scope)
      → Stands decls new number mark
  stands_still number mark stands there scope = record { node = stands.node; there = there; scope = scope; does = tasks_still mark.scope mark.todo stands.node stands.does }

module _ (decls : List Decl) (old new : Nodes) (marks : List (Option Mark)) (node : Node) (count first : ℕ) (put : Put old new node count first) where
  pub put_extends : (mark : Option Mark) → Extends (with_marks old marks) (with_marks new (marks ++ mark ∷ []))
  put_extends mark = record {
    marks = λ number one is. front_get marks (mark ∷ []) number one is;
    stores = λ number what next is.
        subst (λ all. slice_get all number ≡ Some (nodes.Store what next)) (sym put.nodes) (front_get old.nodes.items (node ∷ []) number (nodes.Store what next) is);
  }

  -- One node more, with its mark.
  put_made : (mark : Option Mark) (least most : ℕ) → Made decls old marks most → least ≤ most → GoesDown first node → ReadsBelow count node
      → ((m : Mark) → mark ≡ Some m → Stands decls (with_marks new (marks ++ mark ∷ [])) first m)
      → ((m : Mark) (stmt : Stmt) (rest : List Task) → mark ≡ Some m → m.todo ≡ Do stmt 0 ∷ rest → (least ≤ stmt.at) × (stmt.at < most))
      → Made decls new (marks ++ mark ∷ []) least
  put_made mark least most made lower goes_down in_scope fits low =
      let long : length marks ≡ first = made.marked.marks_long ∙ sym put.number in
      let within : (n : ℕ) (m : Mark) → slice_get (marks ++ mark ∷ []) n ≡ Some (Some m) → n < length marks + 1
      = λ n m is. (let inside = get_within (marks ++ mark ∷ []) n (Some m) is in omega (arith, inside, length-append marks (mark ∷ []))) in
      record {
        marked = record {
          scopes_long = ap length put.scopes ∙ sums old.scopes.items count old.nodes.items node made.marked.scopes_long ∙ sym (ap length put.nodes);
          marks_long = sums marks mark old.nodes.items node made.marked.marks_long ∙ sym (ap length put.nodes);
          zero = front_get marks (mark ∷ []) 0 _ made.marked.zero;
          each = λ number m positive is.
              elim (front_or_last marks mark number (Some m) is) [
                | inl before ↦ (let stands = made.marked.each number m positive before in
                    stands_still decls (with_marks old marks) (with_marks new (marks ++ mark ∷ [])) (put_extends mark) number m stands
                    (subst (λ all. slice_get all number ≡ Some stands.node) (sym put.nodes) (front_get old.nodes.items (node ∷ []) number stands.node stands.there))
                    (subst (λ all. slice_get all number ≡ Some (length m.scope)) (sym put.scopes) (front_get old.scopes.items (count ∷ []) number (length m.scope) stands.scope)))
                | inr last ↦ subst (λ n. Stands decls (with_marks new (marks ++ mark ∷ [])) n m) (sym (last.0 ∙ long)) (fits m last.1)
              ];
        };
        falls = record {
          falls = λ number other m other_m stmt other_stmt rest other_rest less is other_is todo other_todo.
              elim (front_or_last marks mark number (Some m) is) [
                | inl before ↦ elim (front_or_last marks mark other (Some other_m) other_is) [
                  | inl other_before ↦ made.falls.falls number other m other_m stmt other_stmt rest other_rest less before other_before todo other_todo
                  | inr other_last ↦ (let above = made.falls.above number m stmt rest before todo in let below = (low other_m other_stmt other_rest other_last.1 other_todo).1 in omega arith)
                ]
                | inr last ↦ (let past = within other other_m other_is in let here = last.0 in absurd (omega arith))
              ];
          above = λ number m stmt rest is todo.
              elim (front_or_last marks mark number (Some m) is) [
                | inl before ↦ (let above = made.falls.above number m stmt rest before todo in omega arith)
                | inr last ↦ (low m stmt rest last.1 todo).0
              ];
        };
        zero_node = subst (λ all. slice_get all 0 ≡ Some (nodes.Back 0)) (sym put.nodes) (front_get old.nodes.items (node ∷ []) 0 (nodes.Back 0) made.zero_node);
        zero_scope = subst (λ all. slice_get all 0 ≡ Some 0) (sym put.scopes) (front_get old.scopes.items (count ∷ []) 0 0 made.zero_scope);
        down = λ number one is.
            elim (front_or_last old.nodes.items node number one (subst (λ all. slice_get all number ≡ Some one) put.nodes is)) [
              | inl before ↦ made.down number one before
              | inr last ↦ subst (GoesDown number) last.1 (subst (λ n. GoesDown n node) (put.number ∙ sym last.0) goes_down)
            ];
        reads = λ number slots one is counted.
            elim (front_or_last old.nodes.items node number one (subst (λ all. slice_get all number ≡ Some one) put.nodes is)) [
              | inl before ↦ elim (front_or_last old.scopes.items count number slots (subst (λ all. slice_get all number ≡ Some slots) put.scopes counted)) [
                | inl scope_before ↦ made.reads number slots one before scope_before
                | inr scope_last ↦ (let inside = get_within old.nodes.items number one before in let past = scope_last.0 in absurd (omega (arith, inside, past, made.marked.scopes_long)))
              ]
              | inr last ↦ elim (front_or_last old.scopes.items count number slots (subst (λ all. slice_get all number ≡ Some slots) put.scopes counted)) [
                | inl scope_before ↦ (let inside = get_within old.scopes.items number slots scope_before in let past = last.0 in absurd (omega (arith, inside, past, made.marked.scopes_long)))
                | inr scope_last ↦ subst (λ slots. ReadsBelow slots one) scope_last.1 (subst (ReadsBelow count) last.1 in_scope)
              ]
            ];
      }
    where
      sums : {A B : Type 0} (xs : List A) (x : A) (ys : List B) (y : B) → length xs ≡ length ys → length (xs ++ x ∷ []) ≡ length (ys ++ y ∷ [])
      sums xs x ys y same = omega (arith, same, length-append xs (x ∷ []), length-append ys (y ∷ []))

  -- The change of a look-up is put.
  pub put_unmarked : (what : Change) (next most : ℕ) → node ≡ nodes.Store what next → next < length marks → ReadsBelow count node → Made decls old marks most
      → Made decls new (marks ++ None ∷ []) most
  put_unmarked what next most is within reads made =
      let lower : next < first = omega (arith, within, made.marked.marks_long, put.number) in
      put_made None most most made (omega arith) (subst (GoesDown first) (sym is) lower) reads (λ m e. absurd (cc)) (λ m stmt rest e todo. absurd (cc))

  -- The node of a statement is put, and leads to it.
  pub put_marked : (scope : List Known) (stmt : Stmt) (rest : List Task) (least most : ℕ) → count ≡ length scope → Made decls old marks most → Ascends least (stmt.at ∷ []) most
      → DoesKind decls (with_marks old marks) scope rest (kind_of stmt) node → Grown decls new marks least scope (begin stmt ∷ rest) first
  put_marked scope stmt rest least most many made up does =
      let mark : Mark = record { scope = scope; todo = Do stmt 0 ∷ rest } in
      let up_to = up.1 in let lower = up.0 in
      let still = does_still decls (with_marks old marks) (with_marks new (marks ++ Some mark ∷ [])) (put_extends (Some mark)) scope rest (kind_of stmt) node does in
      let at_first : slice_get new.nodes.items first ≡ Some node
      = subst (λ all. slice_get all first ≡ Some node) (sym put.nodes) (subst (λ n. slice_get (old.nodes.items ++ node ∷ []) n ≡ Some node) (sym put.number) (last_get old.nodes.items node)) in
      let scopes_long : first ≡ length old.scopes.items = put.number ∙ sym made.marked.scopes_long in
      let counted : slice_get new.scopes.items first ≡ Some (length scope)
      = subst (λ all. slice_get all first ≡ Some (length scope)) (sym put.scopes)
      (subst (λ n. slice_get (old.scopes.items ++ count ∷ []) n ≡ Some (length scope)) (sym scopes_long) (last_get old.scopes.items count ∙ ap (λ n. Some n) many)) in
      let stands : Stands decls (with_marks new (marks ++ Some mark ∷ [])) first mark = record { node = node; there = at_first; scope = counted; does = (refl, still) } in
      let marks_long : first ≡ length marks = put.number ∙ sym made.marked.marks_long in
      record {
        more = Some mark ∷ [];
        made = put_made (Some mark) least most made (omega arith)
            (kind_down decls (with_marks old marks) first (made.marked.marks_long ∙ sym put.number) (sym put.number) scope rest (kind_of stmt) node does)
            (subst (λ slots. ReadsBelow slots node) (sym many) (kind_reads decls scope (with_marks old marks) rest (kind_of stmt) node does))
            (λ m e. (let same : mark ≡ m = cc in subst (λ m. Stands decls (with_marks new (marks ++ Some mark ∷ [])) first m) same stands))
            (λ m other other_rest e todo. (let same : mark ≡ m = cc in let tasks : Do stmt 0 ∷ rest ≡ Do other 0 ∷ other_rest = ap (λ (m : Mark). m.todo) same ∙ todo in
            let same_stmt : stmt ≡ other = cc in subst (λ (s : Stmt). (least ≤ s.at) × (s.at < most)) same_stmt (lower, omega arith)));
        leads = record { marked = subst (λ n. slice_get (marks ++ Some mark ∷ []) n ≡ Some (Some mark)) (sym marks_long) (last_get marks (Some mark)) };
      }
