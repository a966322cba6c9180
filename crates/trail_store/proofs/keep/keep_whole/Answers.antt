use Rattle.std.proofs.Common.{◌-◌, ◌<◌, length, arith}
use Rattle.std.proofs.lemmas.Option.{slice_get-get_or}
use Rattle.trail_store.proofs.Keeping.{IsKeptDownTo-more, some_before}
use Rattle.trail_store.proofs.keep.keep_whole.Goals as goal

pub loop-kept-preserved : goal.loop-kept-preserved
loop-kept-preserved c =
    let steps = c.args.steps.now in
    let old = c.args.kept.now in
    let new = c.loop-kept.kept in
    let current = c.loop-kept.number in
    let so_far = c.loop-kept.invariant in
    let some = some_before steps old c.args.step new current c.requires.closed so_far c.loop-kept-test.true in
    let within : current - 1 < length steps = omega (arith, so_far.there, so_far.each) in
    let there = slice_get-get_or steps (current - 1) _ within in
    IsKeptDownTo-more steps old c.args.step new current _ c.requires.steps so_far c.loop-kept-test.true some there
