use Rattle.std.proofs.Common.{◌≤◌, arith}
use Rattle.itree_data.specs.Slots.{BindsBelow}
use Rattle.itree_data.proofs.SlotsBound.{all_next, all_weaker, nodes_more}
use Rattle.itree_data.proofs.slots.slots_needed.Goals as goal

pub loop-node-preserved : goal.loop-node-preserved
loop-node-preserved c =
    let before = c.loop-node.slots in
    let after = c.in_ok-slots.slots in
    let more : before ≤ after = c.in_ok-slots.ensures.0 in
    record {
      in_scope = all_weaker (λ count. count ≤ before) (λ count. count ≤ after) (λ count within. omega arith) c.args.scopes.now c.loop-node.invariant.in_scope;
      bound = all_next (BindsBelow after) c.args.nodes.now c.loop-node.node-index c.node-item.result c.loop-node-test.true c.node-item.is
          (nodes_more before after more _ c.loop-node.invariant.bound) c.in_ok-slots.ensures.1;
    }
