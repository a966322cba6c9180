use Rattle.std.proofs.Common.{rules, ◌≤◌, [], sym, ◌∙◌, ap, subst, filter, length}
use Rattle.std.specs.List.{AllByRecursion}
use Rattle.spec_model.specs.declared.tree.Spec.{Spec}
use Rattle.spec_model.specs.Config.{stmts_of}
use Rattle.spec_rules.specs.Bad.{declares_table, stmt_places}
use Rattle.itree_data.specs.Fields.{first_values}
use Rattle.itree_data.specs.Making.{AreInOrder, AreNodesOf, AreSound, IsStartSound}
use Rattle.itree_data.specs.Slots.{BindsBelow}
use Rattle.itree_data.proofs.AllNodes.{body_sound, is_tree_of, start_sound}
use Rattle.itree_data.proofs.TextOrder.{written_in_order}
use Rattle.itree_data.proofs.tree.Tree.of.Goals as goal

pub nodes_of-requires-clause-order : goal.nodes_of-requires-clause-order
nodes_of-requires-clause-order c =
    subst (λ (spec : Spec). AreInOrder (stmt_places spec)) (sym c.spec-2.ensures.same) (written_in_order c.args.spec c.spec-2.ensures.accepted.written)

pub nodes_of-requires-clause-body : goal.nodes_of-requires-clause-body
nodes_of-requires-clause-body c =
    subst (λ (spec : Spec). AreSound spec.decls [] (stmts_of spec.body)) (sym c.spec-2.ensures.same) (body_sound c.args.spec c.spec-2.ensures.accepted)

pub nodes_of-requires-clause-start : goal.nodes_of-requires-clause-start
nodes_of-requires-clause-start c =
    subst (λ (spec : Spec). IsStartSound spec.decls spec.start) (sym c.spec-2.ensures.same) (start_sound c.args.spec c.spec-2.ensures.accepted)

pub invariant_of-result : goal.invariant_of-result
invariant_of-result c =
    let whole = c.in_ok-nodes.field-0 in
    let nodes_are : AreNodesOf c.args.spec whole.nodes whole.root = subst (λ (spec : Spec). AreNodesOf spec whole.nodes whole.root) c.spec-2.ensures.same c.in_ok-nodes.ensures in
    let registers_are = c.in_ok-registers.ensures ∙ ap first_values (c.as_slice.ensures ∙ ap (λ (spec : Spec). spec.decls) c.spec-3.ensures.same) in
    let tables_are = c.in_ok-tables.ensures ∙ ap (λ decls. length (filter declares_table decls)) (c.as_slice-2.ensures ∙ ap (λ (spec : Spec). spec.decls) c.spec-4.ensures.same) in
    let scopes_are = c.from_vec-2.ensures in
    let slots = c.in_ok-slots.slots in
    let nodes_in_tree = c.from_vec.ensures in
    let in_scope = subst (AllByRecursion (λ count. count ≤ slots)) (c.as_slice-3.ensures.value ∙ sym scopes_are) c.in_ok-slots.ensures.in_scope in
    let bound = subst (AllByRecursion (BindsBelow slots)) (c.as_slice-4.ensures.value ∙ sym nodes_in_tree) c.in_ok-slots.ensures.bound in
    is_tree_of c.args.spec whole.nodes whole.root slots c.in_ok-tables.tables c.spec-5.result.now.shape c.in_ok-registers.registers c.from_vec.result c.from_vec-2.result
    (first_of (search rules, cc)) (first_of (search rules, cc)) (ap (λ (spec : Spec). spec.shape) c.spec-5.ensures.same) registers_are tables_are
    in_scope bound c.spec-2.ensures.accepted nodes_are
