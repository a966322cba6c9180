-- What a dual holds, and the tree that it mirrors.
use Rattle.std.specs.Prelude.{ℕ, List, map}
use Rattle.spec_model.specs.declared.event.Shape.{Shape}
use Rattle.spec_model.specs.declared.tree.First.{First}
use Rattle.spec_model.specs.declared.tree.Spec.{Spec}
use Rattle.itree_data.specs.declared.node.Node.{Node}
use Rattle.itree_data.specs.declared.node.Node.TheVariants as nodes
use Rattle.itree_data.specs.Fields.{Fields}
use Rattle.itree_data.specs.Marks.{IsTree}
use Rattle.dual_tree.specs.declared.node.DualNode.{DualNode}
use Rattle.dual_tree.specs.declared.node.DualNode.TheVariants.{Offer, Expect, Fresh, Compare, Split, Store, Back}

-- The fields of a dual: for each node the slots in scope there are those below its number in `scopes`.
pub record DualFields : Type 0 where
  pub shape : Shape
  pub registers : List First
  pub tables : ℕ
  pub slots : ℕ
  pub nodes : List DualNode
  pub scopes : List ℕ
  pub root : ℕ
  pub spec : Spec

-- The node that a node of a dual mirrors: both have the same data, and the same nodes are next.
abbrev pub mirrored : DualNode → Node
mirrored (Offer from conn cases other next) = nodes.Take from conn cases other next
mirrored (Expect conn parts next) = nodes.Send conn parts next
mirrored (Fresh slot len alphabet next) = nodes.Choose slot len alphabet next
mirrored (Compare test holds fails) = nodes.Branch test holds fails
mirrored (Split arms) = nodes.Fork arms
mirrored (Store what next) = nodes.Store what next
mirrored (Back next) = nodes.Back next

-- the tree that a dual mirrors, node by node
abbrev pub tree_of : DualFields → Fields
tree_of dual = record {
  shape = dual.shape;
  registers = dual.registers;
  tables = dual.tables;
  slots = dual.slots;
  nodes = map mirrored dual.nodes;
  scopes = dual.scopes;
  root = dual.root;
  spec = dual.spec;
}

-- These are the fields of the dual of their specification: what they mirror is its tree.
abbrev pub IsDual : DualFields → Type 0
IsDual dual = IsTree (tree_of dual)
