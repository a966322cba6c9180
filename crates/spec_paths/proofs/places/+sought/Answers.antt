use Rattle.std.proofs.Common.{◌-◌, map, ap, ◌∙◌, arith}
use Rattle.std.specs.List.{concat}
use Rattle.spec_model.specs.declared.tree.Kind.TheVariants as kinds
use Rattle.spec_model.specs.declared.tree.Kind.{out-Kind}
use Rattle.spec_rules.specs.Bad.{places_in}
use Rattle.spec_paths.specs.Crowded.{block_of_case}
use Rattle.spec_paths.specs.Sought.{places_of_stmt}
use Rattle.spec_paths.proofs.KindsSeen.{out-If, out-Lookup}
use Rattle.spec_paths.proofs.PlacesCounted.{counted_all, counted_on, found_by_loop, places_in-out, places-if, places-lookup, places-recv, sought_behind}
use Rattle.spec_paths.proofs.places.+sought.Goals as goal

pub seek_in_arms-returns-in-Found : goal.seek_in_arms-returns-in-Found
seek_in_arms-returns-in-Found t c =
    found_by_loop places_in c.args.arms.now c.as_slice-arm-items.result.now c.loop-arm.arm-index c.args.skipped c.loop-arm.left c.in-Found.at c.arm-item.result
    c.as_slice-arm-items.ensures c.loop-arm-test.true c.loop-arm.invariant c.arm-item.is c.in-Found.ensures

pub seek_in_arms-loop-arm-preserved : goal.seek_in_arms-loop-arm-preserved
seek_in_arms-loop-arm-preserved t c =
    counted_on places_in c.as_slice-arm-items.result.now c.loop-arm.arm-index c.args.skipped c.loop-arm.left c.in-Behind.more c.arm-item.result
    c.loop-arm-test.true c.loop-arm.invariant c.arm-item.is c.in-Behind.ensures

pub seek_in_block-returns-in-Found : goal.seek_in_block-returns-in-Found
seek_in_block-returns-in-Found t c =
    rw (places_in-out c.args.block.now)
    (found_by_loop places_of_stmt _ c.as_slice-stmt-items.result.now c.loop-stmt.stmt-index c.args.skipped c.loop-stmt.left c.in-Found.at c.stmt-item.result
    c.as_slice-stmt-items.ensures c.loop-stmt-test.true c.loop-stmt.invariant c.stmt-item.is c.in-Found.ensures)

pub seek_in_block-loop-stmt-preserved : goal.seek_in_block-loop-stmt-preserved
seek_in_block-loop-stmt-preserved t c =
    counted_on places_of_stmt c.as_slice-stmt-items.result.now c.loop-stmt.stmt-index c.args.skipped c.loop-stmt.left c.in-Behind.more c.stmt-item.result
    c.loop-stmt-test.true c.loop-stmt.invariant c.stmt-item.is c.in-Behind.ensures

pub seek_in_block-returns : goal.seek_in_block-returns
seek_in_block-returns t c =
    rw (places_in-out c.args.block.now)
    (counted_all places_of_stmt _ c.as_slice-stmt-items.result.now c.loop-stmt.stmt-index c.args.skipped c.loop-stmt.left c.as_slice-stmt-items.ensures
    c.loop-stmt.auto.stmt-index-end c.loop-stmt-test.false c.loop-stmt.invariant)

pub seek_in_cases-returns-in-Found : goal.seek_in_cases-returns-in-Found
seek_in_cases-returns-in-Found t c =
    found_by_loop (λ case. places_in (block_of_case case)) c.args.cases.now c.as_slice-case-items.result.now c.loop-case.case-index c.args.skipped c.loop-case.left c.in-Found.at c.case-item.result
    c.as_slice-case-items.ensures c.loop-case-test.true c.loop-case.invariant c.case-item.is c.in-Found.ensures

pub seek_in_cases-loop-case-preserved : goal.seek_in_cases-loop-case-preserved
seek_in_cases-loop-case-preserved t c =
    counted_on (λ case. places_in (block_of_case case)) c.as_slice-case-items.result.now c.loop-case.case-index c.args.skipped c.loop-case.left c.in-Behind.more c.case-item.result
    c.loop-case-test.true c.loop-case.invariant c.case-item.is c.in-Behind.ensures

pub seek_in_stmt-returns-in-Recv : goal.seek_in_stmt-returns-in-Recv
seek_in_stmt-returns-in-Recv t c =
    let kind = ap out-Kind c.in-Recv.is ∙ kinds.outs-Recv c.in-Recv.chan c.in-Recv.cases c.in-Recv.other c.in-Recv.rest in
    sought_behind c.args.stmt.now c.args.skipped _ c.seek_on.result (omega arith) (places-recv c.args.stmt.now.kind _ _ _ _ kind)
    (c.seek_on.ensures (concat (map (λ case. places_in (block_of_case case)) c.in-Recv.cases)) (c.args.skipped - 1) c.seek_in_cases.ensures)

pub seek_in_stmt-returns-in-If : goal.seek_in_stmt-returns-in-If
seek_in_stmt-returns-in-If t c =
    let kind = ap out-Kind c.in-If.is ∙ out-If c.in-If.cond c.in-If.yes c.in-If.no in
    sought_behind c.args.stmt.now c.args.skipped _ c.seek_on-in-If.result (omega arith) (places-if c.args.stmt.now.kind _ _ _ kind)
    (c.seek_on-in-If.ensures (places_in c.in-If.yes) (c.args.skipped - 1) c.seek_in_block.ensures)

pub seek_in_stmt-returns-in-Lookup : goal.seek_in_stmt-returns-in-Lookup
seek_in_stmt-returns-in-Lookup t c =
    let kind = ap out-Kind c.in-Lookup.is ∙ out-Lookup c.in-Lookup.table c.in-Lookup.key c.in-Lookup.name c.in-Lookup.found c.in-Lookup.missing in
    sought_behind c.args.stmt.now c.args.skipped _ c.seek_on-in-Lookup.result (omega arith) (places-lookup c.args.stmt.now.kind _ _ _ _ _ kind)
    (c.seek_on-in-Lookup.ensures (places_in c.in-Lookup.found) (c.args.skipped - 1) c.seek_in_block-in-Lookup.ensures)
