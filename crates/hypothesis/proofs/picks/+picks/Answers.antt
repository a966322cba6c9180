use Rattle.std.proofs.Common.{ap, sym, ◌∙◌, take_all}
use Rattle.std.proofs.lemmas.List.Folds.{list_all_at}
use Rattle.spec_model.specs.declared.tree.Kind.{out-Kind}
use Rattle.spec_model.specs.declared.tree.Kind.TheVariants as kinds
use Rattle.hypothesis.specs.PickTest.{stmt_picks_nothing}
use Rattle.hypothesis.proofs.PickFree.{block_picks_nothing-out, stmt_picks-either, stmt_picks-recv}
use Rattle.hypothesis.proofs.picks.+picks.Goals as goal

pub stmt_picks_nothing-returns-then-cases_pick_nothing : goal.stmt_picks_nothing-returns-then-cases_pick_nothing
stmt_picks_nothing-returns-then-cases_pick_nothing t c =
    let kind = ap out-Kind c.in-Recv.is ∙ kinds.outs-Recv c.in-Recv.chan c.in-Recv.cases c.in-Recv.other c.in-Recv.rest in
    let told = stmt_picks-recv c.args.stmt.now c.in-Recv.chan c.in-Recv.cases c.in-Recv.other c.in-Recv.rest kind in
    let cases = rw c.as_slice.ensures at (sym c.cases_pick_nothing.ensures ∙ c.if-cases_pick_nothing.true) in
    rw (told, cases) c.block_picks_nothing.ensures

pub stmt_picks_nothing-returns-else-cases_pick_nothing : goal.stmt_picks_nothing-returns-else-cases_pick_nothing
stmt_picks_nothing-returns-else-cases_pick_nothing t c =
    let kind = ap out-Kind c.in-Recv.is ∙ kinds.outs-Recv c.in-Recv.chan c.in-Recv.cases c.in-Recv.other c.in-Recv.rest in
    let told = stmt_picks-recv c.args.stmt.now c.in-Recv.chan c.in-Recv.cases c.in-Recv.other c.in-Recv.rest kind in
    let cases = rw c.as_slice.ensures at (sym c.cases_pick_nothing.ensures ∙ c.if-cases_pick_nothing.false) in
    rw (told, cases) c.if-cases_pick_nothing.false

pub stmt_picks_nothing-returns-in-Either : goal.stmt_picks_nothing-returns-in-Either
stmt_picks_nothing-returns-in-Either t c =
    let kind = ap out-Kind c.in-Either.is ∙ kinds.outs-Either c.in-Either.arms in
    rw (c.arms_pick_nothing.ensures, c.as_slice-in-Either.ensures) (sym (stmt_picks-either c.args.stmt.now c.in-Either.arms kind))

pub block_picks_nothing-returns : goal.block_picks_nothing-returns
block_picks_nothing-returns t c =
    let stmts = c.as_slice-stmt-items.result.now in
    let all = rw (take_all c.loop-stmt.stmt-index stmts c.loop-stmt-test.false) at c.loop-stmt.invariant in
    sym (block_picks_nothing-out c.args.block.now ∙ rw (← c.as_slice-stmt-items.ensures) all)

pub block_picks_nothing-returns-then-not-stmt_picks_nothing : goal.block_picks_nothing-returns-then-not-stmt_picks_nothing
block_picks_nothing-returns-then-not-stmt_picks_nothing t c =
    let stmts = c.as_slice-stmt-items.result.now in
    let fails = list_all_at stmt_picks_nothing stmts c.loop-stmt.stmt-index c.stmt-item.result c.loop-stmt-test.true
    (rw (← c.stmt-item.is) (sym c.stmt_picks_nothing.ensures ∙ c.if-not-stmt_picks_nothing.true)) in
    sym (block_picks_nothing-out c.args.block.now ∙ rw (← c.as_slice-stmt-items.ensures) fails)
