-- How much silent work may be left.
use Rattle.std.specs.Prelude.{ℕ, ◌+◌, slice_get, Option, Some}
use Rattle.itree_data.specs.declared.node.Node.{Node}
use Rattle.itree_data.specs.declared.node.Node.TheVariants.{Take}
use Rattle.itree_data.specs.Fields.{Fields}
use Rattle.itree_data.specs.Standing.{Standing}

-- what may be left at the node of this number: nothing where a message is taken
abbrev pub left_at : ℕ → Option Node → ℕ
left_at number (Some (Take from conn cases other next)) = 0
left_at number _ = number + 1

-- Silent work goes down to nodes of lower numbers, and from node 0 to one that takes a message.
abbrev pub work_left : Fields → Standing → ℕ
work_left tree t = left_at t.node (slice_get tree.nodes t.node)
