-- The nodes of a statement are made of those of its blocks.
use Rattle.std.proofs.Common.{◌≡◌, ℕ, ◌+◌, ◌≤◌, List, [], ◌∷◌, ◌++◌, length, map, take, Option, Some, None, refl, sym, ◌∙◌, ap, subst, arith, append_assoc, append-nil}
use Rattle.std.specs.Prelude.{slice_get}
use Rattle.std.specs.List.{concat}
use Rattle.std.proofs.lemmas.List.{take_at}
use Rattle.spec_model.specs.declared.config.Task.{Task}
use Rattle.spec_model.specs.declared.config.Task.TheVariants.{Forget}
use Rattle.spec_model.specs.declared.tree.Block.{Block}
use Rattle.spec_model.specs.declared.tree.Case.{Case, out-Case}
use Rattle.spec_model.specs.declared.tree.Chan.{Chan}
use Rattle.spec_model.specs.declared.tree.Cond.{Cond}
use Rattle.spec_model.specs.declared.tree.Decl.{Decl}
use Rattle.spec_model.specs.declared.tree.Expr.{Expr}
use Rattle.spec_model.specs.declared.tree.Kind.TheOpen.{Recv, If, Either, Put as PutPair, Lookup, Delete}
use Rattle.spec_model.specs.declared.tree.Stmt.{Stmt}
use Rattle.spec_model.specs.Config.{StmtKind, begin, kind_of, stmts_of}
use Rattle.spec_rules.specs.declared.names.Known.{Known}
use Rattle.spec_rules.specs.declared.names.ValueType.TheVariants.{Text as TextType}
use Rattle.spec_rules.specs.Bad.{places_in}
use Rattle.spec_rules.specs.Names.{local, names_of_chan, names_of_pattern}
use Rattle.spec_rules.specs.Place.{bound_behind}
use Rattle.itree_data.specs.declared.node.Change.TheVariants as changes
use Rattle.itree_data.specs.declared.node.Check.TheVariants as checks
use Rattle.itree_data.specs.declared.node.Node.{Node}
use Rattle.itree_data.specs.declared.node.Node.TheVariants as nodes
use Rattle.itree_data.specs.declared.node.TakeCase.{TakeCase}
use Rattle.itree_data.specs.declared.node.Val.{Val}
use Rattle.itree_data.specs.declared.nodes.Nodes.{Nodes}
use Rattle.itree_data.specs.Making.{Ascends, Grown, Made, MakesArms, MakesBlock, MakesCases, MakesStmt, MakesStmts, Put, PutsKind, places_inside, places_of, with_marks}
use Rattle.itree_data.specs.Marks.{ArmsLead, CasesLead, ChanIs, DoesKind, LeadsTo, Mark, entered, ready}
use Rattle.itree_data.specs.Resolve.{resolved, slotted, table_named}
use Rattle.itree_data.specs.Scope.{bound_by}
use Rattle.itree_data.proofs.Making.{ascends_split, front_get, last_get, leads_within, put_marked, put_unmarked}
use Rattle.itree_data.proofs.SlotsRead.{read_below}

-- what a node stands for it stands for among more marks
pub leads_more : (marks more : List (Option Mark)) (scope : List Known) (todo : List Task) (node : ℕ) → LeadsTo marks scope todo node → LeadsTo (marks ++ more) scope todo node
leads_more marks more scope todo node leads = record { marked = front_get marks more node (Some (ready scope todo)) leads.marked }

-- nodes that were added behind others
pub grown_behind : (decls : List Decl) (new : Nodes) (marks more : List (Option Mark)) (least : ℕ) (scope : List Known) (todo : List Task) (first : ℕ)
    → Grown decls new (marks ++ more) least scope todo first → Grown decls new marks least scope todo first
grown_behind decls new marks more least scope todo first grown = record {
  more = more ++ grown.more;
  made = subst (λ all. Made decls new all least) (append_assoc marks more grown.more) grown.made;
  leads = subst (λ all. LeadsTo all scope todo first) (append_assoc marks more grown.more) grown.leads;
}

pub made_lower : (decls : List Decl) (new : Nodes) (marks : List (Option Mark)) (least most : ℕ) → least ≤ most → Made decls new marks most → Made decls new marks least
made_lower decls new marks least most lower made = record {
  marked = made.marked;
  falls = record {
    falls = made.falls.falls;
    above = λ number mark stmt rest is todo. (let above = made.falls.above number mark stmt rest is todo in omega arith);
  };
  zero_node = made.zero_node;
  zero_scope = made.zero_scope;
  down = made.down;
  reads = made.reads;
}

pub arms_more : (marks more : List (Option Mark)) (scope : List Known) (rest : List Task) (arms : List Block) (targets : List ℕ) → ArmsLead marks scope rest arms targets
    → ArmsLead (marks ++ more) scope rest arms targets
arms_more marks more scope rest [] targets none = none
arms_more marks more scope rest (arm ∷ arms) targets (first, later, is, leads, others) =
    (first, later, is, leads_more marks more _ _ first leads, arms_more marks more scope rest arms later others)

pub cases_more : (marks more : List (Option Mark)) (scope named : List Known) (rest : List Task) (cases : List Case) (taken : List TakeCase) → CasesLead marks scope named rest cases taken
    → CasesLead (marks ++ more) scope named rest cases taken
cases_more marks more scope named rest [] taken none = none
cases_more marks more scope named rest (case ∷ cases) taken (first, later, is, items, leads, others) =
    (first, later, is, items, leads_more marks more _ _ first.next leads, cases_more marks more scope named rest cases later others)

module _ (decls : List Decl) where
  -- A statement whose node alone is put.
  pub puts_makes : (scope : List Known) (stmt : Stmt) (kind : StmtKind) (next : ℕ) (old new : Nodes) (first : ℕ) → kind_of stmt ≡ kind → places_inside kind ≡ []
      → PutsKind decls scope kind next old new first → MakesStmt decls scope stmt next old new first
  puts_makes scope stmt kind next old new first is none puts marks rest least most up made leads =
      let alone : Ascends least (stmt.at ∷ []) most = subst (λ places. Ascends least (stmt.at ∷ places) most) (ap places_inside is ∙ none) up in
      let there = subst (λ kind. LeadsTo marks (scope ++ bound_behind kind) rest next) is leads in
      let does = subst (λ kind. DoesKind decls (with_marks old marks) scope rest kind puts.node) (sym is) (puts.does (with_marks old marks) rest there) in
      put_marked decls old new marks puts.node (length scope) first puts.put scope stmt rest least most refl made alone does

  -- A statement before others.
  pub stmts_step : (scope : List Known) (stmt : Stmt) (stmts : List Stmt) (next then : ℕ) (old middle new : Nodes) (first : ℕ)
      → MakesStmts decls (scope ++ bound_behind (kind_of stmt)) stmts next old middle then → MakesStmt decls scope stmt then middle new first → MakesStmts decls scope (stmt ∷ stmts) next old new first
  stmts_step scope stmt stmts next then old middle new first makes_later makes marks tail least most up made leads =
      let parts = ascends_split least (stmt.at ∷ places_inside (kind_of stmt)) (places_of stmts) most up in
      let there = subst (λ all. LeadsTo marks all tail next) (sym (append_assoc scope (bound_behind (kind_of stmt)) (bound_by stmts))) leads in
      let later = makes_later marks tail parts.0 most parts.2 made there in
      let now = makes (marks ++ later.more) (map begin stmts ++ tail) least parts.0 parts.1 later.made later.leads in
      grown_behind decls new marks later.more least scope (begin stmt ∷ map begin stmts ++ tail) first now

  pub no_stmts : (scope : List Known) (next : ℕ) (nodes : Nodes) → MakesStmts decls scope [] next nodes nodes next
  no_stmts scope next nodes marks tail least most up made leads = record {
    more = [];
    made = subst (λ all. Made decls nodes all least) (sym (append-nil marks)) (made_lower decls nodes marks least most up made);
    leads = subst (λ all. LeadsTo all scope tail next) (sym (append-nil marks)) (subst (λ scope. LeadsTo marks scope tail next) (append-nil scope) leads);
  }

  -- The statements of a block.
  pub block_makes : (scope names : List Known) (block : Block) (next : ℕ) (old new : Nodes) (first : ℕ) → places_in block ≡ places_of (stmts_of block)
      → MakesStmts decls (scope ++ names) (stmts_of block) next old new first → MakesBlock decls scope names block next old new first
  block_makes scope names block next old new first places makes marks rest least most up made leads =
      let bound = bound_by (stmts_of block) in
      let kept : take (length scope) ((scope ++ names) ++ bound) ≡ scope
      = ap (take (length scope)) (append_assoc scope names bound) ∙ take_at scope (names ++ bound) (length scope) refl in
      let there : LeadsTo marks ((scope ++ names) ++ bound) (Forget (length scope) ∷ rest) next
      = record { marked = leads.marked ∙ ap (λ scope. Some (Some (ready scope rest))) (sym kept) } in
      makes marks (Forget (length scope) ∷ rest) least most (subst (λ places. Ascends least places most) places up) made there

  pub if_makes : (scope : List Known) (stmt : Stmt) (cond : Cond) (holds fails : Block) (left right : Val) (next on_true on_false : ℕ) (old middle last new : Nodes) (first : ℕ)
      → kind_of stmt ≡ If cond holds fails → resolved decls scope cond.left ≡ Some left → resolved decls scope cond.right ≡ Some right
      → MakesBlock decls scope [] fails next old middle on_false → MakesBlock decls scope [] holds next middle last on_true
      → Put last new (nodes.Branch (checks.Cond left cond.op right) on_true (Some on_false)) (length scope) first → MakesStmt decls scope stmt next old new first
  if_makes scope stmt cond holds fails left right next on_true on_false old middle last new first is left_is right_is makes_fails makes_holds put marks rest least most up made leads =
      let up_inside = subst (λ places. Ascends least (stmt.at ∷ places) most) (ap places_inside is) up in
      let parts = ascends_split (stmt.at + 1) (places_in holds) (places_in fails) most up_inside.1 in
      let here : LeadsTo marks scope rest next = rw append-nil at (subst (λ kind. LeadsTo marks (scope ++ bound_behind kind) rest next) is leads) in
      let one = makes_fails marks rest parts.0 most parts.2 made here in
      let two = makes_holds (marks ++ one.more) rest (stmt.at + 1) parts.0 parts.1 one.made (leads_more marks one.more scope rest next here) in
      let all = (marks ++ one.more) ++ two.more in
      let true_leads : LeadsTo all scope (entered scope holds rest) on_true = rw append-nil at two.leads in
      let false_leads : LeadsTo all scope (entered scope fails rest) on_false = leads_more (marks ++ one.more) two.more scope (entered scope fails rest) on_false (rw append-nil at one.leads) in
      let does : DoesKind decls (with_marks last all) scope rest (If cond holds fails) (nodes.Branch (checks.Cond left cond.op right) on_true (Some on_false))
      = (on_true, on_false, record { left = left; right = right; is = refl; left_is = left_is; right_is = right_is }, true_leads, false_leads) in
      let grown = put_marked decls last new all (nodes.Branch (checks.Cond left cond.op right) on_true (Some on_false)) (length scope) first put scope stmt rest least (stmt.at + 1) refl two.made
      (up_inside.0, omega arith) (subst (λ kind. DoesKind decls (with_marks last all) scope rest kind (nodes.Branch (checks.Cond left cond.op right) on_true (Some on_false))) (sym is) does) in
      grown_behind decls new marks one.more least scope (begin stmt ∷ rest) first (grown_behind decls new (marks ++ one.more) two.more least scope (begin stmt ∷ rest) first grown)

  -- The last node of a statement is put, behind those of its blocks.
  ends_with : (scope : List Known) (stmt : Stmt) (kind : StmtKind) (rest : List Task) (least : ℕ) (last new : Nodes) (marks more : List (Option Mark)) (node : Node) (first : ℕ) → kind_of stmt ≡ kind
      → least ≤ stmt.at → Put last new node (length scope) first → Made decls last (marks ++ more) (stmt.at + 1) → DoesKind decls (with_marks last (marks ++ more)) scope rest kind node
      → Grown decls new marks least scope (begin stmt ∷ rest) first
  ends_with scope stmt kind rest least last new marks more node first is lower put made does =
      grown_behind decls new marks more least scope (begin stmt ∷ rest) first
      (put_marked decls last new (marks ++ more) node (length scope) first put scope stmt rest least (stmt.at + 1) refl made (lower, omega arith)
      (subst (λ kind. DoesKind decls (with_marks last (marks ++ more)) scope rest kind node) (sym is) does))

  pub either_makes : (scope : List Known) (stmt : Stmt) (arms : List Block) (targets : List ℕ) (next : ℕ) (old last new : Nodes) (first : ℕ) → kind_of stmt ≡ Either arms
      → MakesArms decls scope arms next old last targets → Put last new (nodes.Fork targets) (length scope) first → MakesStmt decls scope stmt next old new first
  either_makes scope stmt arms targets next old last new first is makes put marks rest least most up made leads =
      let up_inside = subst (λ places. Ascends least (stmt.at ∷ places) most) (ap places_inside is) up in
      let here : LeadsTo marks scope rest next = rw append-nil at (subst (λ kind. LeadsTo marks (scope ++ bound_behind kind) rest next) is leads) in
      let grown = makes marks rest (stmt.at + 1) most up_inside.1 made here in
      ends_with scope stmt (Either arms) rest least last new marks grown.more (nodes.Fork targets) first is up_inside.0 put grown.made (targets, refl, grown.lead)

  pub recv_makes : (scope : List Known) (stmt : Stmt) (chan : Chan) (cases : List Case) (other : List ℕ) (block : Block) (from : Option Val) (conn : Option ℕ) (taken : List TakeCase) (next inside : ℕ)
      (old middle last new : Nodes) (first : ℕ) → kind_of stmt ≡ Recv chan cases other block → ChanIs decls scope chan from conn
      → MakesBlock decls scope (names_of_chan chan ++ local other TextType ∷ []) block next old middle inside
      → MakesCases decls scope (scope ++ names_of_chan chan) cases next middle last taken
      → Put last new (nodes.Take from conn taken (length (scope ++ names_of_chan chan)) inside) (length scope) first → MakesStmt decls scope stmt next old new first
  recv_makes scope stmt chan cases other block from conn taken next inside old middle last new first is chan_is makes_block makes_cases put marks rest least most up made leads =
      let up_inside = subst (λ places. Ascends least (stmt.at ∷ places) most) (ap places_inside is) up in
      let parts = ascends_split (stmt.at + 1) (concat (map (λ case. places_in (out-Case case).block) cases)) (places_in block) most up_inside.1 in
      let here : LeadsTo marks scope rest next = rw append-nil at (subst (λ kind. LeadsTo marks (scope ++ bound_behind kind) rest next) is leads) in
      let one = makes_block marks rest parts.0 most parts.2 made here in
      let two = makes_cases (marks ++ one.more) rest (stmt.at + 1) parts.0 parts.1 one.made (leads_more marks one.more scope rest next here) in
      let other_leads : LeadsTo ((marks ++ one.more) ++ two.more) (scope ++ names_of_chan chan ++ local other TextType ∷ []) (entered scope block rest) inside
      = leads_more (marks ++ one.more) two.more _ _ inside (subst (λ names. LeadsTo (marks ++ one.more) names (entered scope block rest) inside)
      (sym (append_assoc scope (names_of_chan chan) (local other TextType ∷ []))) one.leads) in
      grown_behind decls new marks one.more least scope (begin stmt ∷ rest) first
      (ends_with scope stmt (Recv chan cases other block) rest least last new (marks ++ one.more) two.more _ first is up_inside.0 put two.made
      (record { from = from; conn = conn; taken = taken; next = inside; is = refl; chan_is = chan_is; cases_lead = two.lead; other_leads = other_leads }))

  pub lookup_makes : (scope : List Known) (stmt : Stmt) (name : List ℕ) (key : Expr) (bound : List ℕ) (found absent : Block) (table : ℕ) (key_val : Val) (next inside otherwise holds : ℕ)
      (old middle later last new : Nodes) (first : ℕ) → kind_of stmt ≡ Lookup name key bound found absent → table_named decls name ≡ Some table → resolved decls scope key ≡ Some key_val
      → MakesBlock decls scope [] absent next old middle otherwise → MakesBlock decls scope (local bound TextType ∷ []) found next middle later inside
      → Put later last (nodes.Store (changes.Bind (length scope) table) inside) (length scope) holds
      → Put last new (nodes.Branch (checks.Scan table key_val) holds (Some otherwise)) (length scope) first → MakesStmt decls scope stmt next old new first
  lookup_makes scope stmt name key bound found absent table key_val next inside otherwise holds old middle later last new first is table_is key_is makes_absent makes_found put_bind put
      marks rest least most up made leads =
      let up_inside = subst (λ places. Ascends least (stmt.at ∷ places) most) (ap places_inside is) up in
      let parts = ascends_split (stmt.at + 1) (places_in found) (places_in absent) most up_inside.1 in
      let here : LeadsTo marks scope rest next = rw append-nil at (subst (λ kind. LeadsTo marks (scope ++ bound_behind kind) rest next) is leads) in
      let one = makes_absent marks rest parts.0 most parts.2 made here in
      let two = makes_found (marks ++ one.more) rest (stmt.at + 1) parts.0 parts.1 one.made (leads_more marks one.more scope rest next here) in
      let all = (marks ++ one.more) ++ two.more in
      let three = put_unmarked decls later last all (nodes.Store (changes.Bind (length scope) table) inside) (length scope) holds put_bind
      (changes.Bind (length scope) table) inside (stmt.at + 1) refl (leads_within all _ _ inside two.leads) tt two.made in
      let found_is : slice_get last.nodes.items holds ≡ Some (nodes.Store (changes.Bind (length scope) table) inside)
      = subst (λ ns. slice_get ns holds ≡ Some (nodes.Store (changes.Bind (length scope) table) inside)) (sym put_bind.nodes)
      (subst (λ n. slice_get (later.nodes.items ++ nodes.Store (changes.Bind (length scope) table) inside ∷ []) n ≡ Some (nodes.Store (changes.Bind (length scope) table) inside)) (sym put_bind.number) (last_get later.nodes.items _)) in
      let other_leads : LeadsTo (all ++ None ∷ []) scope (entered scope absent rest) otherwise
      = leads_more all (None ∷ []) _ _ otherwise (leads_more (marks ++ one.more) two.more _ _ otherwise (rw append-nil at one.leads)) in
      grown_behind decls new marks one.more least scope (begin stmt ∷ rest) first (grown_behind decls new (marks ++ one.more) two.more least scope (begin stmt ∷ rest) first
      (ends_with scope stmt (Lookup name key bound found absent) rest least last new all (None ∷ []) (nodes.Branch (checks.Scan table key_val) holds (Some otherwise)) first is up_inside.0 put three (
        table,
        inside,
        otherwise,
        record { key_val = key_val; holds = holds; is = refl; table_is = table_is; key_is = key_is; found_is = found_is },
        leads_more all (None ∷ []) _ _ inside two.leads,
        other_leads,
      )))

  pub delete_makes : (scope : List Known) (stmt : Stmt) (name : List ℕ) (key : Expr) (table : ℕ) (key_val : Val) (next holds : ℕ) (old last new : Nodes) (first : ℕ)
      → kind_of stmt ≡ Delete name key → table_named decls name ≡ Some table → resolved decls scope key ≡ Some key_val
      → Put old last (nodes.Store (changes.Remove table) next) (length scope) holds → Put last new (nodes.Branch (checks.Scan table key_val) holds (Some next)) (length scope) first
      → MakesStmt decls scope stmt next old new first
  delete_makes scope stmt name key table key_val next holds old last new first is table_is key_is put_remove put marks rest least most up made leads =
      let up_inside = subst (λ places. Ascends least (stmt.at ∷ places) most) (ap places_inside is) up in
      let here : LeadsTo marks scope rest next = rw append-nil at (subst (λ kind. LeadsTo marks (scope ++ bound_behind kind) rest next) is leads) in
      let one = put_unmarked decls old last marks (nodes.Store (changes.Remove table) next) (length scope) holds put_remove
      (changes.Remove table) next most refl (leads_within marks _ _ next here) tt made in
      let found_is : slice_get last.nodes.items holds ≡ Some (nodes.Store (changes.Remove table) next)
      = subst (λ ns. slice_get ns holds ≡ Some (nodes.Store (changes.Remove table) next)) (sym put_remove.nodes)
      (subst (λ n. slice_get (old.nodes.items ++ nodes.Store (changes.Remove table) next ∷ []) n ≡ Some (nodes.Store (changes.Remove table) next)) (sym put_remove.number) (last_get old.nodes.items _)) in
      ends_with scope stmt (Delete name key) rest least last new marks (None ∷ []) (nodes.Branch (checks.Scan table key_val) holds (Some next)) first is up_inside.0 put
      (made_lower decls last (marks ++ None ∷ []) (stmt.at + 1) most (up_inside.1) one)
      (table, next, record { key_val = key_val; holds = holds; is = refl; table_is = table_is; key_is = key_is; found_is = found_is }, leads_more marks (None ∷ []) scope rest next here)

  pub put_makes : (scope : List Known) (stmt : Stmt) (name : List ℕ) (key value : Expr) (table : ℕ) (key_val val : Val) (next missing holds : ℕ) (old middle last new : Nodes) (first : ℕ)
      → kind_of stmt ≡ PutPair name key value → table_named decls name ≡ Some table → resolved decls scope key ≡ Some key_val → resolved decls scope value ≡ Some val
      → Put old middle (nodes.Store (changes.Add table key_val val) next) (length scope) missing → Put middle last (nodes.Store (changes.Renew table val) next) (length scope) holds
      → Put last new (nodes.Branch (checks.Scan table key_val) holds (Some missing)) (length scope) first → MakesStmt decls scope stmt next old new first
  put_makes scope stmt name key value table key_val val next missing holds old middle last new first is table_is key_is val_is put_add put_renew put marks rest least most up made leads =
      let up_inside = subst (λ places. Ascends least (stmt.at ∷ places) most) (ap places_inside is) up in
      let here : LeadsTo marks scope rest next = rw append-nil at (subst (λ kind. LeadsTo marks (scope ++ bound_behind kind) rest next) is leads) in
      let add = nodes.Store (changes.Add table key_val val) next in
      let renew = nodes.Store (changes.Renew table val) next in
      let one = put_unmarked decls old middle marks add (length scope) missing put_add
      (changes.Add table key_val val) next most refl (leads_within marks _ _ next here) (read_below decls scope key key_val key_is, read_below decls scope value val val_is) made in
      let two = put_unmarked decls middle last (marks ++ None ∷ []) renew (length scope) holds put_renew
      (changes.Renew table val) next most refl (leads_within (marks ++ None ∷ []) _ _ next (leads_more marks (None ∷ []) scope rest next here)) (read_below decls scope value val val_is) one in
      let add_first : slice_get middle.nodes.items missing ≡ Some add
      = subst (λ ns. slice_get ns missing ≡ Some add) (sym put_add.nodes) (subst (λ n. slice_get (old.nodes.items ++ add ∷ []) n ≡ Some add) (sym put_add.number) (last_get old.nodes.items _)) in
      let add_is : slice_get last.nodes.items missing ≡ Some add
      = subst (λ ns. slice_get ns missing ≡ Some add) (sym put_renew.nodes) (front_get middle.nodes.items (renew ∷ []) missing add add_first) in
      let renew_is : slice_get last.nodes.items holds ≡ Some renew
      = subst (λ ns. slice_get ns holds ≡ Some renew) (sym put_renew.nodes) (subst (λ n. slice_get (middle.nodes.items ++ renew ∷ []) n ≡ Some renew) (sym put_renew.number) (last_get middle.nodes.items _)) in
      grown_behind decls new marks (None ∷ []) least scope (begin stmt ∷ rest) first
      (ends_with scope stmt (PutPair name key value) rest least last new (marks ++ None ∷ []) (None ∷ []) (nodes.Branch (checks.Scan table key_val) holds (Some missing)) first is up_inside.0 put
      (made_lower decls last ((marks ++ None ∷ []) ++ None ∷ []) (stmt.at + 1) most (up_inside.1) two) (
        table,
        key_val,
        val,
        missing,
        next,
        record { key_val = key_val; holds = holds; is = refl; table_is = table_is; key_is = key_is; found_is = renew_is },
        add_is,
        key_is,
        val_is,
        leads_more (marks ++ None ∷ []) (None ∷ []) scope rest next (leads_more marks (None ∷ []) scope rest next here),
      ))

  pub no_arms : (scope : List Known) (next : ℕ) (nodes : Nodes) → MakesArms decls scope [] next nodes nodes []
  no_arms scope next nodes marks rest least most up made leads = record {
    more = [];
    made = subst (λ all. Made decls nodes all least) (sym (append-nil marks)) (made_lower decls nodes marks least most up made);
    lead = refl;
  }

  pub arms_step : (scope : List Known) (arm : Block) (arms : List Block) (targets : List ℕ) (next target : ℕ) (old middle new : Nodes)
      → MakesArms decls scope arms next old middle targets → MakesBlock decls scope [] arm next middle new target → MakesArms decls scope (arm ∷ arms) next old new (target ∷ targets)
  arms_step scope arm arms targets next target old middle new makes_later makes marks rest least most up made leads =
      let parts = ascends_split least (places_in arm) (concat (map places_in arms)) most up in
      let later = makes_later marks rest parts.0 most parts.2 made leads in
      let now = makes (marks ++ later.more) rest least parts.0 parts.1 later.made (leads_more marks later.more scope rest next leads) in
      let arm_leads : LeadsTo ((marks ++ later.more) ++ now.more) scope (entered scope arm rest) target = rw append-nil at now.leads in
      record {
        more = later.more ++ now.more;
        made = subst (λ all. Made decls new all least) (append_assoc marks later.more now.more) now.made;
        lead = subst (λ all. ArmsLead all scope rest (arm ∷ arms) (target ∷ targets)) (append_assoc marks later.more now.more)
            (target, targets, refl, arm_leads, arms_more (marks ++ later.more) now.more scope rest arms targets later.lead);
      }

  pub no_cases : (scope named : List Known) (next : ℕ) (nodes : Nodes) → MakesCases decls scope named [] next nodes nodes []
  no_cases scope named next nodes marks rest least most up made leads = record {
    more = [];
    made = subst (λ all. Made decls nodes all least) (sym (append-nil marks)) (made_lower decls nodes marks least most up made);
    lead = refl;
  }

  pub cases_step : (scope names : List Known) (case : Case) (cases : List Case) (one : TakeCase) (taken : List TakeCase) (next : ℕ) (old middle new : Nodes)
      → one.items ≡ slotted (length (scope ++ names)) (out-Case case).items
      → MakesCases decls scope (scope ++ names) cases next old middle taken
      → MakesBlock decls scope (names ++ names_of_pattern (out-Case case).items) (out-Case case).block next middle new one.next
      → MakesCases decls scope (scope ++ names) (case ∷ cases) next old new (one ∷ taken)
  cases_step scope names case cases one taken next old middle new items makes_later makes marks rest least most up made leads =
      let places : Case → List ℕ = λ case. places_in (out-Case case).block in
      let parts = ascends_split least (places case) (concat (map places cases)) most up in
      let later = makes_later marks rest parts.0 most parts.2 made leads in
      let now = makes (marks ++ later.more) rest least parts.0 parts.1 later.made (leads_more marks later.more scope rest next leads) in
      let here : LeadsTo ((marks ++ later.more) ++ now.more) ((scope ++ names) ++ names_of_pattern (out-Case case).items) (entered scope (out-Case case).block rest) one.next
      = subst (λ names. LeadsTo ((marks ++ later.more) ++ now.more) names (entered scope (out-Case case).block rest) one.next) (sym (append_assoc scope names (names_of_pattern (out-Case case).items))) now.leads in
      record {
        more = later.more ++ now.more;
        made = subst (λ all. Made decls new all least) (append_assoc marks later.more now.more) now.made;
        lead = subst (λ all. CasesLead all scope (scope ++ names) rest (case ∷ cases) (one ∷ taken)) (append_assoc marks later.more now.more)
            (one, taken, refl, items, here, cases_more (marks ++ later.more) now.more scope (scope ++ names) rest cases taken later.lead);
      }
