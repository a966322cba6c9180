use Rattle.std.proofs.Common.{◌∙◌, refl, subst, arith}
use Rattle.spec_model.specs.Config.{stmts_of}
use Rattle.itree_data.specs.declared.node.Node.TheVariants as nodes
use Rattle.itree_data.specs.Making.{MakesStart, MakesStmts}
use Rattle.itree_data.proofs.AllNodes.{all_open, closed, has_first}
use Rattle.itree_data.proofs.whole.nodes_of.Goals as goal

pub index_mut-requires : goal.index_mut-requires
index_mut-requires c =
    let spec = c.args.spec.now in
    let body = subst (λ scope. MakesStmts spec.decls scope (stmts_of spec.body) 0 c.in_ok-nodes.nodes c.statements.new.nodes c.in_ok-first.first) (c.as_slice.ensures.value ∙ c.new-scope.ensures.items)
    (subst (λ decls. MakesStmts decls c.as_slice.result.now (stmts_of spec.body) 0 c.in_ok-nodes.nodes c.statements.new.nodes c.in_ok-first.first) c.as_slice-decls.ensures c.in_ok-first.ensures) in
    let start = subst (λ decls. MakesStart decls spec.start c.statements.new.nodes c.start_nodes.new.nodes c.in_ok-root.root) c.as_slice-decls.ensures c.in_ok-root.ensures in
    let all = all_open spec c.in_ok-nodes.nodes c.statements.new.nodes c.in_ok-first.first c.start_nodes.new.nodes c.in_ok-root.root c.requires.order c.in_ok-nodes.ensures body start in
    omega (arith, has_first c.start_nodes.new.nodes.nodes.items (nodes.Back 0) all.made_so_far.zero_node, c.start_nodes.new.nodes.nodes.ok.0)

pub returns : goal.returns
returns c =
    let spec = c.args.spec.now in
    let body = subst (λ scope. MakesStmts spec.decls scope (stmts_of spec.body) 0 c.in_ok-nodes.nodes c.statements.new.nodes c.in_ok-first.first) (c.as_slice.ensures.value ∙ c.new-scope.ensures.items)
    (subst (λ decls. MakesStmts decls c.as_slice.result.now (stmts_of spec.body) 0 c.in_ok-nodes.nodes c.statements.new.nodes c.in_ok-first.first) c.as_slice-decls.ensures c.in_ok-first.ensures) in
    let start = subst (λ decls. MakesStart decls spec.start c.statements.new.nodes c.start_nodes.new.nodes c.in_ok-root.root) c.as_slice-decls.ensures c.in_ok-root.ensures in
    let all = all_open spec c.in_ok-nodes.nodes c.statements.new.nodes c.in_ok-first.first c.start_nodes.new.nodes c.in_ok-root.root c.requires.order c.in_ok-nodes.ensures body start in
    closed spec c.start_nodes.new.nodes _ c.in_ok-first.first c.in_ok-root.root all refl refl
