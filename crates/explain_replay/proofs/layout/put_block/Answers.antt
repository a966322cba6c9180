use Rattle.std.proofs.Common.{◌≡◌, [], ◌∷◌, ◌++◌, drop, sym, ◌∙◌, ap}
use Rattle.std.specs.Vec.Iter.{into_iter_items}
use Rattle.spec_model.specs.declared.event.WorldEvent.TheVariants.{Server}
use Rattle.explain_replay.proofs.Laying.{block_more, drop_next}
use Rattle.explain_replay.proofs.layout.put_block.Goals as goal

pub loop-preserved : goal.loop-preserved
loop-preserved c =
    let all = into_iter_items c.args.left.now in
    let rest = into_iter_items c.next.new.self in
    let there : drop c.loop.counter all ≡ c.in-Some.event ∷ rest = sym c.loop.invariant.left ∙ c.in-Some.ensures.cases.0 in
    record {
      block =
          c.in_ok-push.ensures.items ∙ ap (λ world. world ++ Server c.in-Some.event ∷ []) c.loop.invariant.block
          ∙ block_more all rest c.args.world.now.items c.in-Some.event c.loop.counter there;
      left = sym (drop_next all rest c.in-Some.event c.loop.counter there);
    }
