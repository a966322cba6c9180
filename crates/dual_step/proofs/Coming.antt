-- No event is a step but one of those that may come next.
use Rattle.std.proofs.Common.{◌≡◌, ℕ, ◌&&◌, ◌==◌, nat_lt, List, Option, Some, None, Result, Ok, Err, IfOk, slice_get, bytes_eq, refl, subst, ◌∙◌}
use Rattle.std.specs.List.{concat}
use Rattle.std.proofs.lemmas.Bool.{eqb-true}
use Rattle.std.proofs.lemmas.Option.{slice_get_within}
use Rattle.std.proofs.lemmas.Slice.Eq.{bytes_eq-Decides}
use Rattle.spec_model.specs.declared.event.ServerEvent.{ServerEvent}
use Rattle.spec_model.specs.declared.event.ServerEvent.TheVariants as events
use Rattle.spec_model.specs.Message.{is_message, may_pass}
use Rattle.spec_model.proofs.Partial.{bind_gave, both_passed, map_gave, only_if_gave}
use Rattle.itree_data.specs.declared.node.Check.TheVariants.{Cond, Scan}
use Rattle.itree_data.specs.declared.node.Node.{Node}
use Rattle.itree_data.specs.declared.node.Node.TheVariants.{Take, Send, Choose, Branch, Fork}
use Rattle.itree_data.specs.declared.node.TakeCase.{TakeCase}
use Rattle.itree_data.specs.declared.node.Val.{Val}
use Rattle.itree_data.specs.Fields.{Fields}
use Rattle.itree_data.specs.Standing.{Standing, at_node}
use Rattle.itree_data.specs.Step.{after_event, after_node, takes_from}
use Rattle.itree_data.specs.Value.{number_at, pieces_at}
use Rattle.dual_step.specs.declared.next.Next.{Next}
use Rattle.dual_step.specs.Next.{Allows, next_at}

-- a message is taken from the named connection alone
takes_from_named : (tree : Fields) (t : Standing) (named : Val) (bound : Option ℕ) (cases : List TakeCase) (other next conn : ℕ) (message : List ℕ) (middle : Standing)
    → after_node tree t (Take (Some named) bound cases other next) (events.Take conn message) ≡ Some middle
    → Allows (next_at tree t (Take (Some named) bound cases other next)) (events.Take conn message)
takes_from_named tree t named bound cases other next conn message middle step =
    let allowed = bind_gave (takes_from t (Some named) conn) _ middle step in
    let tests = both_passed allowed.0 (may_pass tree.shape conn message) (only_if_gave (allowed.0 && may_pass tree.shape conn message) _ middle allowed.2).0 in
    let number = map_gave (λ number. number == conn) (number_at t named) allowed.0 allowed.1 in
    let same : number.0 ≡ conn = eqb-true number.0 conn (number.2 ∙ tests.0) in
    let is_conn = (both_passed (nat_lt conn tree.shape.conns) (is_message tree.shape message) tests.1).0 in
    rw (number.1, same, is_conn) refl

-- the joined pieces are sent on the named connection alone
sends_on_named : (tree : Fields) (t : Standing) (named : Val) (parts : List Val) (next conn : ℕ) (message : List ℕ) (middle : Standing)
    → after_node tree t (Send named parts next) (events.Send conn message) ≡ Some middle
    → Allows (next_at tree t (Send named parts next)) (events.Send conn message)
sends_on_named tree t named parts next conn message middle step =
    let number = bind_gave (number_at t named) _ middle step in
    let pieces = bind_gave (pieces_at t parts) _ middle number.2 in
    let tests = (only_if_gave ((number.0 == conn) && bytes_eq message (concat pieces.0) && may_pass tree.shape conn message) _ middle pieces.2).0 in
    let first = both_passed ((number.0 == conn) && bytes_eq message (concat pieces.0)) (may_pass tree.shape conn message) tests in
    let second = both_passed (number.0 == conn) (bytes_eq message (concat pieces.0)) first.0 in
    let is_conn = (both_passed (nat_lt conn tree.shape.conns) (is_message tree.shape message) first.1).0 in
    let same_conn : number.0 ≡ conn = eqb-true number.0 conn second.0 in
    let same_text : message ≡ concat pieces.0 = (bytes_eq-Decides message (concat pieces.0)).0 second.1 in
    rw (number.1, same_conn, is_conn, pieces.1) (refl, same_text)

-- No event of a node is a step but one of those that may come next there.
pub only_allowed : (tree : Fields) (t : Standing) (node : Node) (event : ServerEvent) (middle : Standing)
    → after_node tree t node event ≡ Some middle → Allows (next_at tree t node) event
only_allowed tree t (Take None bound cases other next) (events.Take conn message) middle step = tt
only_allowed tree t (Take (Some named) bound cases other next) (events.Take conn message) middle step =
    takes_from_named tree t named bound cases other next conn message middle step
only_allowed tree t (Send named parts next) (events.Send conn message) middle step = sends_on_named tree t named parts next conn message middle step
only_allowed tree t (Choose slot len alphabet next) (events.Pick text) middle step = tt
only_allowed tree t (Branch (Cond left op right) holds fails) (events.Test outcome) middle step = tt
only_allowed tree t (Branch (Scan table key) holds fails) (events.Test outcome) middle step = tt
only_allowed tree t (Fork arms) (events.Arm arm) middle step =
    let there = map_gave (at_node t) (slice_get arms arm) middle step in slice_get_within arms arm there.0 there.1
only_allowed tree t _ _ middle step = absurd (cc)

-- Nothing else is a step from a place of that node.
pub next_allows : {E : Type 0} (tree : Fields) (t : Standing) (node : Node) (told : Result Next E) → slice_get tree.nodes t.node ≡ Some node
    → IfOk told (λ next. next ≡ next_at tree t node)
    → IfOk told (λ next. (event : ServerEvent) (middle : Standing) → after_event tree t event ≡ Some middle → Allows next event)
next_allows tree t node (Ok next) there is =
    λ event middle step.
    let found = bind_gave (slice_get tree.nodes t.node) (λ node. after_node tree t node event) middle step in
    let same : found.0 ≡ node = cc in
    rw is (only_allowed tree t node event middle (subst (λ node. after_node tree t node event ≡ Some middle) same found.2))
next_allows tree t node (Err error) there is = tt
