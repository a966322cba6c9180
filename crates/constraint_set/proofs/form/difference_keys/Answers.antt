use Rattle.std.proofs.Common.{arith}
use Rattle.constraint_set.specs.Form.{difference_key}
use Rattle.constraint_set.proofs.Lists.{filter_map_more}
use Rattle.constraint_set.proofs.form.difference_keys.Goals as goal

pub loop-difference-preserved : goal.loop-difference-preserved
loop-difference-preserved c =
    let keys = difference_key c.args.framing c.args.seen.symbols.now c.args.seen.roots.now in
    let one_more = filter_map_more keys c.args.differences.now c.loop-difference.difference-index c.difference-item.result (omega arith) c.difference-item.is in
    cc (c.in_ok-push_some.ensures, c.in_ok-key.ensures, one_more)
