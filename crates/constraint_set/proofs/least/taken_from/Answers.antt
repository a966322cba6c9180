use Rattle.std.proofs.Common.{arith}
use Rattle.constraint_set.specs.Least.{taken_by}
use Rattle.constraint_set.proofs.Lists.{filter_map_more}
use Rattle.constraint_set.proofs.least.taken_from.Goals as goal

pub loop-difference-preserved : goal.loop-difference-preserved
loop-difference-preserved c =
    let takes = taken_by c.args.symbols.now c.args.texts.now c.args.number in
    let one_more = filter_map_more takes c.args.differences.now c.loop-difference.difference-index c.difference-item.result (omega arith) c.difference-item.is in
    cc (c.in_ok-push_copy.ensures, c.taken_by-text.ensures, one_more)
