-- Silent work ends.
use Rattle.std.proofs.Common.{◌≡◌, ℕ, zero, suc, ◌+◌, ◌<◌, ◌≤◌, ◌==◌, List, [], ◌∷◌, ◌++◌, length, map, Option, Some, None, option_map, sym, ◌∙◌, ap, subst, arith}
use Rattle.std.specs.Prelude.{slice_get, IfOk, IfSome, Result, Ok, Err}
use Rattle.spec_model.specs.declared.config.Task.{Task}
use Rattle.spec_model.specs.declared.config.Task.TheVariants.{Do, Forget}
use Rattle.spec_model.specs.declared.tree.Block.{Block}
use Rattle.spec_model.specs.declared.tree.Case.{Case}
use Rattle.spec_model.specs.declared.tree.Chan.{Chan}
use Rattle.spec_model.specs.declared.tree.Kind.TheOpen.{Recv}
use Rattle.spec_model.specs.Config.{StmtKind, begin, kind_of}
use Rattle.spec_model.specs.Run.{BeginsWithRecv}
use Rattle.spec_model.proofs.Partial.{bind_gave, map_gave, only_if_gave}
use Rattle.spec_rules.specs.Accepted.{IsAccepted}
use Rattle.spec_rules.proofs.Standing.{begins}
use Rattle.dual_step.specs.declared.state.State.{State}
use Rattle.dual_step.specs.Left.{left_at, work_left}
use Rattle.dual_step.specs.State.{standing_of}
use Rattle.itree_data.specs.declared.node.Change.{Change}
use Rattle.itree_data.specs.declared.node.Change.TheVariants.{Add}
use Rattle.itree_data.specs.declared.node.Check.TheVariants.{Scan}
use Rattle.itree_data.specs.declared.node.Node.{Node}
use Rattle.itree_data.specs.declared.node.Node.TheVariants.{Take, Branch, Store, Back}
use Rattle.itree_data.specs.declared.node.TakeCase.{TakeCase}
use Rattle.itree_data.specs.declared.node.Val.{Val}
use Rattle.itree_data.specs.Change.{after_change}
use Rattle.itree_data.specs.Fields.{Fields}
use Rattle.itree_data.specs.Marks.{DoesKind, IsCompiled, IsTree, Mark, marked_of, ready}
use Rattle.itree_data.specs.Run.{TreeSettles, passes}
use Rattle.itree_data.specs.Standing.{Standing, at_node}
use Rattle.itree_data.specs.Step.{after_last_pair, after_silent_node, after_silent_work, after_store}

-- what silent work leads to from the second configuration, it leads to from the first
abbrev pub Continues : Fields → Standing → Standing → Type 0
Continues tree from now = (to : Standing) → TreeSettles tree now to → TreeSettles tree from to

pub continues_more : (tree : Fields) (from now next : Standing) → Continues tree from now → after_silent_work tree now ≡ Some next → Continues tree from next
continues_more tree from now next so_far gave = λ to settles. so_far to (passes gave settles)

left_most : (number : ℕ) (node : Option Node) → left_at number node ≤ number + 1
left_most number (Some (Take from conn cases other next)) = omega arith
left_most number _ = omega arith

-- A message is taken at the node of this number.
record Takes (tree : Fields) (number : ℕ) : Type 0 where
  from : Option Val
  conn : Option ℕ
  cases : List TakeCase
  other : ℕ
  next : ℕ
  there : slice_get tree.nodes number ≡ Some (Take from conn cases other next)

none_left : (tree : Fields) (number : ℕ) → Takes tree number → left_at number (slice_get tree.nodes number) ≡ 0
none_left tree number takes = ap (left_at number) takes.there

does_recv : (tree : Fields) (marks : List (Option Mark)) (number : ℕ) (rest : List Task) (kind : StmtKind) (chan : Chan) (cases : List Case) (other : List ℕ) (block : Block) (node : Node)
    → kind ≡ Recv chan cases other block → slice_get tree.nodes number ≡ Some node
    → DoesKind tree.spec.decls (marked_of tree marks) [] rest kind node → Takes tree number
does_recv tree marks number rest kind chan cases other block node is there does =
    let recv = subst (λ kind. DoesKind tree.spec.decls (marked_of tree marks) [] rest kind node) is does in record {
      from = recv.from;
      conn = recv.conn;
      cases = recv.taken;
      other = _;
      next = recv.next;
      there = there ∙ ap Some recv.is;
    }

not_zero : (marks : List (Option Mark)) (number : ℕ) (first : Task) (rest : List Task) → slice_get marks 0 ≡ Some (Some (record { scope = []; todo = [] }))
    → slice_get marks number ≡ Some (Some (record { scope = []; todo = first ∷ rest })) → 0 < number
not_zero marks zero first rest zero_is is =
    let none : Mark = record { scope = []; todo = [] } in
    let some : Mark = record { scope = []; todo = first ∷ rest } in
    let both : Some (Some none) ≡ Some (Some some) = sym zero_is ∙ is in
    let same : none ≡ some = cc in
    let wrong : [] ≡ first ∷ rest = ap (λ (mark : Mark). mark.todo) same in absurd (cc)
not_zero marks (suc number) first rest zero_is is = omega arith

-- the loop begins with a `recv`
loop_takes : (tree : Fields) (compiled : IsCompiled tree) → BeginsWithRecv tree.spec → Takes tree compiled.first
loop_takes tree compiled begins =
    let todo = map begin begins.more ++ Forget 0 ∷ [] in
    let mark : Mark = record { scope = []; todo = Do begins.recv 0 ∷ todo } in
    let marked : slice_get compiled.marks compiled.first ≡ Some (Some mark) =
    subst (λ stmts. slice_get compiled.marks compiled.first ≡ Some (Some (ready [] (map begin stmts ++ Forget 0 ∷ [])))) begins.body compiled.body_leads.marked in
    let later = not_zero compiled.marks compiled.first (Do begins.recv 0) todo compiled.marked.zero marked in
    let stands = compiled.marked.each compiled.first mark later marked in
    does_recv tree compiled.marks compiled.first todo (kind_of begins.recv) begins.chan begins.cases begins.other begins.rest stands.node begins.takes stands.there stands.does.1

down_to : (tree : Fields) (number : ℕ) (t : Standing) → t.node < number → work_left tree t < number + 1
down_to tree number t below = let most = left_most t.node (slice_get tree.nodes t.node) in omega (arith, most)

-- behind a change the next node is that of the change
stored_at : (t u : Standing) (what : Change) (next : ℕ) → after_store t (Store what next) ≡ Some u → u.node ≡ next
stored_at t u what next gave =
    let after = map_gave (λ after. at_node after next) (after_change t what) u gave in sym (ap (λ (t : Standing). t.node) after.2)

stays_below : (t u : Standing) (number : ℕ) → t.node < number → Some t ≡ Some u → u.node < number
stays_below t u number below e = let same : t ≡ u = cc in subst (λ (u : Standing). u.node < number) same below

-- behind the last pair the node is the one where no pair was equal, or a lower one
last_pair_below : (tree : Fields) (compiled : IsCompiled tree) (t u : Standing) (number : ℕ) (node : Node) → t.node < number → slice_get tree.nodes t.node ≡ Some node
    → after_last_pair t node ≡ Some u → u.node < number
last_pair_below tree compiled t u number (Store (Add table key value) next) below there gave =
    let at = stored_at t u (Add table key value) next gave in
    let lower : next < t.node = compiled.down t.node (Store (Add table key value) next) there in omega (arith, at, lower)
last_pair_below tree compiled t u number _ below there gave = stays_below t u number below gave

falls_at : (tree : Fields) (compiled : IsCompiled tree) → BeginsWithRecv tree.spec → (t u : Standing) (node : Node) → slice_get tree.nodes t.node ≡ Some node
    → after_silent_node tree t node ≡ Some u → work_left tree u < left_at t.node (Some node)
falls_at tree compiled begins t u (Store what next) there gave =
    let at = stored_at t u what next gave in
    let lower : next < t.node = compiled.down t.node (Store what next) there in down_to tree t.node u (omega (arith, at, lower))
falls_at tree compiled begins t u (Back next) there gave =
    let zero_here : t.node ≡ 0 = compiled.down t.node (Back next) there in
    let back : slice_get tree.nodes t.node ≡ Some (Back compiled.first) = ap (slice_get tree.nodes) zero_here ∙ compiled.back in
    let same : Some (Back next) ≡ Some (Back compiled.first) = sym there ∙ back in
    let first : next ≡ compiled.first = cc in
    let after : at_node t next ≡ u = cc in
    let here : compiled.first ≡ u.node = sym first ∙ ap (λ (t : Standing). t.node) after in
    let takes = subst (Takes tree) here (loop_takes tree compiled begins) in
    let none = none_left tree u.node takes in omega (arith, none)
falls_at tree compiled begins t u (Branch (Scan table key) holds None) there gave =
    let pairs = bind_gave (slice_get t.tables table) _ u gave in absurd (let wrong = pairs.2 in cc)
falls_at tree compiled begins t u (Branch (Scan table key) holds (Some missing)) there gave =
    let pairs = bind_gave (slice_get t.tables table) _ u gave in
    let next = bind_gave (slice_get tree.nodes missing) _ u pairs.2 in
    let last = (only_if_gave (t.compared == length pairs.0) (after_last_pair (at_node t missing) next.0) u next.2).1 in
    let lower : missing < t.node = (compiled.down t.node (Branch (Scan table key) holds (Some missing)) there).1 in
    down_to tree t.node u (last_pair_below tree compiled (at_node t missing) u t.node next.0 lower next.1 last)
falls_at tree compiled begins t u _ there gave = absurd (cc)

-- each piece leaves less
pub work_falls : (tree : Fields) → IsCompiled tree → BeginsWithRecv tree.spec → (t u : Standing) → after_silent_work tree t ≡ Some u → work_left tree u < work_left tree t
work_falls tree compiled begins t u gave =
    let here = bind_gave (slice_get tree.nodes t.node) (after_silent_node tree t) u gave in
    let falls = falls_at tree compiled begins t u here.0 here.1 here.2 in
    subst (λ node. work_left tree u < left_at t.node node) (sym here.1) falls

-- the same of a state
pub state_falls : (tree : Fields) (t : Standing) → IsTree tree → IsAccepted tree.spec → {E : Type 0} (result : Result (Option State) E)
    → IfOk result (λ after. option_map standing_of after ≡ after_silent_work tree t) → IfOk result (λ after. IfSome after (λ next. work_left tree (standing_of next) < work_left tree t))
state_falls tree t is accepted (Err error) work = tt
state_falls tree t is accepted (Ok None) work = tt
state_falls tree t is accepted (Ok (Some next)) work = work_falls tree is.compiled (begins tree.spec accepted) t (standing_of next) (sym work)
