use Rattle.std.proofs.Common.{false, true, [], ◌∷◌, ◌++◌, None, Some, ap, ◌∙◌, drop, map, refl, subst, sym}
use Rattle.spec_model.specs.declared.tree.Kind.{out-Kind}
use Rattle.spec_model.specs.declared.tree.Kind.TheVariants as kinds
use Rattle.spec_paths.specs.Ahead.{IsAhead, IsAheadInOne, both_ahead, crowded_from}
use Rattle.spec_paths.specs.Bounds.{lesser_of}
use Rattle.spec_paths.specs.Crowded.{block_of_case}
use Rattle.spec_paths.proofs.AheadLoops.{drop-all, drop-earlier, drop-none, map-more, take-all, take-more}
use Rattle.spec_paths.proofs.KindsSeen.{out-If, out-Lookup}
use Rattle.spec_paths.proofs.PathsAhead.{ahead_alone, ahead_at_recv, ahead_in_one_more, ahead_of_both, ahead_of_none, ahead_of_two, ahead_through, arms_in, cases_in}
use Rattle.spec_paths.proofs.StraightOn.{ahead_of_straight, comparing_straight, silent_straight}
use Rattle.spec_paths.proofs.crowded.+ahead.Goals as goal

pub ahead_of_stmt-returns-in-If : goal.ahead_of_stmt-returns-in-If
ahead_of_stmt-returns-in-If t c = λ stmts behind is_later.
    ahead_of_two c.args.stmt.now _ c.in-If.yes c.in-If.no stmts behind c.ahead_of_block-in-If.result c.ahead_of_block-in-If-2.result c.or-inside-in-If.result
    c.past_comparison.result c.before-in-If.result c.args.later (ap out-Kind c.in-If.is ∙ out-If c.in-If.cond c.in-If.yes c.in-If.no) refl refl refl refl
    c.or-inside-in-If.ensures c.past_comparison.ensures c.before-in-If.ensures
    (c.ahead_of_block-in-If.ensures (stmts ++ behind) is_later.most) (c.ahead_of_block-in-If-2.ensures (stmts ++ behind) is_later.most) is_later

pub ahead_of_stmt-returns-in-Lookup : goal.ahead_of_stmt-returns-in-Lookup
ahead_of_stmt-returns-in-Lookup t c = λ stmts behind is_later.
    ahead_of_two c.args.stmt.now _ c.in-Lookup.found c.in-Lookup.missing stmts behind c.ahead_of_block-in-Lookup.result c.ahead_of_block-in-Lookup-2.result
    c.or-inside-in-Lookup.result c.past_comparison-in-Lookup.result c.before-in-Lookup.result c.args.later
    (ap out-Kind c.in-Lookup.is ∙ out-Lookup c.in-Lookup.table c.in-Lookup.key c.in-Lookup.name c.in-Lookup.found c.in-Lookup.missing) refl refl refl refl
    c.or-inside-in-Lookup.ensures c.past_comparison-in-Lookup.ensures c.before-in-Lookup.ensures
    (c.ahead_of_block-in-Lookup.ensures (stmts ++ behind) is_later.most) (c.ahead_of_block-in-Lookup-2.ensures (stmts ++ behind) is_later.most) is_later

pub ahead_of_block-loop-place-preserved : goal.ahead_of_block-loop-place-preserved
ahead_of_block-loop-place-preserved t c = λ behind is.
    subst (λ stmts. IsAhead stmts behind c.ahead_of_stmt-ahead.result)
    (drop-earlier c.as_slice-stmts.result.now c.loop-place.place c.index-stmts-place.result c.loop-place-test.true c.loop-place.auto.place c.index-stmts-place.is)
    (c.ahead_of_stmt-ahead.ensures (drop c.loop-place.place c.as_slice-stmts.result.now) behind (c.loop-place.invariant behind is))

pub ahead_of_block-loop-place-init : goal.ahead_of_block-loop-place-init
ahead_of_block-loop-place-init t c = λ behind is.
    subst (λ stmts. IsAhead stmts behind (record { most = c.args.most_behind; crowded = None })) (sym (drop-all c.as_slice-stmts.result.now)) (ahead_of_none behind c.args.most_behind is)

pub ahead_of_stmt-returns-in-Send : goal.ahead_of_stmt-returns-in-Send
ahead_of_stmt-returns-in-Send t c = λ stmts behind is_later. ahead_of_straight c.args.stmt.now false stmts behind c.args.later (silent_straight c.args.stmt.now c.in-Send.is) is_later

pub ahead_of_stmt-returns-in-Send-2 : goal.ahead_of_stmt-returns-in-Send-2
ahead_of_stmt-returns-in-Send-2 t c = λ stmts behind is_later. ahead_of_straight c.args.stmt.now false stmts behind c.args.later (silent_straight c.args.stmt.now c.in-Send.is) is_later

pub ahead_of_stmt-returns-in-Send-3 : goal.ahead_of_stmt-returns-in-Send-3
ahead_of_stmt-returns-in-Send-3 t c = λ stmts behind is_later. ahead_of_straight c.args.stmt.now false stmts behind c.args.later (silent_straight c.args.stmt.now c.in-Send.is) is_later

pub ahead_of_stmt-returns-in-Assume : goal.ahead_of_stmt-returns-in-Assume
ahead_of_stmt-returns-in-Assume t c = λ stmts behind is_later.
    subst (IsAhead (c.args.stmt.now ∷ stmts) behind) (sym c.past_comparison-in-Assume.ensures)
    (ahead_of_straight c.args.stmt.now true stmts behind c.args.later (comparing_straight c.args.stmt.now c.in-Assume.is) is_later)

pub ahead_of_stmt-returns-in-Recv : goal.ahead_of_stmt-returns-in-Recv
ahead_of_stmt-returns-in-Recv t c = λ stmts behind is_later.
    let kind = ap out-Kind c.in-Recv.is ∙ kinds.outs-Recv c.in-Recv.chan c.in-Recv.cases c.in-Recv.other c.in-Recv.rest in
    let crowded_is = c.lesser.ensures ∙ ap (λ from. lesser_of from c.args.later.crowded) (c.crowded_from.ensures ∙ ap (crowded_from c.args.stmt.now.at) c.or-inside.ensures) in
    subst (λ least. IsAhead (c.args.stmt.now ∷ stmts) behind (record { most = Some 0; crowded = least })) (sym crowded_is)
    (ahead_at_recv c.args.stmt.now _ (map block_of_case c.in-Recv.cases ++ c.in-Recv.rest ∷ []) stmts behind (both_ahead c.ahead_of_cases.result c.ahead_of_block.result) c.args.later
    kind refl (cases_in c.in-Recv.chan c.in-Recv.cases c.in-Recv.other c.in-Recv.rest)
    (ahead_of_both (map block_of_case c.in-Recv.cases) (c.in-Recv.rest ∷ []) (stmts ++ behind) c.ahead_of_cases.result c.ahead_of_block.result
    (c.ahead_of_cases.ensures (stmts ++ behind) is_later.most) (ahead_alone c.in-Recv.rest (stmts ++ behind) c.ahead_of_block.result (c.ahead_of_block.ensures (stmts ++ behind) is_later.most)))
    is_later)

pub ahead_of_stmt-returns-in-Either : goal.ahead_of_stmt-returns-in-Either
ahead_of_stmt-returns-in-Either t c = λ stmts behind is_later.
    subst (IsAhead (c.args.stmt.now ∷ stmts) behind) (sym c.before-in-Either.ensures)
    (ahead_through c.args.stmt.now _ c.in-Either.arms stmts behind c.ahead_of_arms.result c.args.later (ap out-Kind c.in-Either.is ∙ kinds.outs-Either c.in-Either.arms) refl refl (arms_in c.in-Either.arms)
    (c.ahead_of_arms.ensures (stmts ++ behind) is_later.most) is_later)

pub ahead_of_arms-loop-arm-preserved : goal.ahead_of_arms-loop-arm-preserved
ahead_of_arms-loop-arm-preserved t c = λ behind is.
    ahead_in_one_more _ _ c.arm-item.result behind c.loop-arm.ahead c.ahead_of_block.result c.or-ahead.result
    (take-more c.as_slice-arm-items.result.now c.loop-arm.arm-index c.arm-item.result c.loop-arm-test.true c.arm-item.is) c.or-ahead.ensures
    (c.loop-arm.invariant behind is) (c.ahead_of_block.ensures behind is)

pub ahead_of_arms-returns : goal.ahead_of_arms-returns
ahead_of_arms-returns t c = λ behind is.
    subst (λ blocks. IsAheadInOne blocks behind c.loop-arm.ahead)
    (take-all c.as_slice-arm-items.result.now c.args.arms.now c.loop-arm.arm-index c.as_slice-arm-items.ensures c.loop-arm.auto.arm-index-end c.loop-arm-test.false)
    (c.loop-arm.invariant behind is)

pub ahead_of_cases-loop-case-preserved : goal.ahead_of_cases-loop-case-preserved
ahead_of_cases-loop-case-preserved t c = λ behind is.
    ahead_in_one_more _ _ (block_of_case c.case-item.result) behind c.loop-case.ahead c.ahead_of_block.result c.or-ahead.result
    (sym (map-more block_of_case _ c.case-item.result)
    ∙ ap (map block_of_case) (take-more c.as_slice-case-items.result.now c.loop-case.case-index c.case-item.result c.loop-case-test.true c.case-item.is)) c.or-ahead.ensures
    (c.loop-case.invariant behind is) (c.ahead_of_block.ensures behind is)

pub ahead_of_cases-returns : goal.ahead_of_cases-returns
ahead_of_cases-returns t c = λ behind is.
    subst (λ cases. IsAheadInOne (map block_of_case cases) behind c.loop-case.ahead)
    (take-all c.as_slice-case-items.result.now c.args.cases.now c.loop-case.case-index c.as_slice-case-items.ensures c.loop-case.auto.case-index-end c.loop-case-test.false)
    (c.loop-case.invariant behind is)

pub ahead_of_block-returns : goal.ahead_of_block-returns
ahead_of_block-returns t c = λ behind is.
    subst (λ stmts. IsAhead stmts behind c.loop-place.ahead) (drop-none c.as_slice-stmts.result.now _ c.loop-place.place c.as_slice-stmts.ensures c.loop-place-test.false)
    (c.loop-place.invariant behind is)
