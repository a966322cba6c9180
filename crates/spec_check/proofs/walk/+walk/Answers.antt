use Rattle.std.proofs.Common.{◌+◌, ◌∷◌, ◌++◌, [], refl, sym, ap, subst, ◌∙◌, append_assoc, drop, length, map, take}
use Rattle.std.proofs.Math.Seq.{take-append_seam}
use Rattle.spec_model.specs.declared.tree.Case.{Case, out-Case}
use Rattle.spec_model.specs.declared.tree.Kind.{out-Kind}
use Rattle.spec_model.specs.declared.tree.Kind.TheVariants as kinds
use Rattle.spec_model.specs.Config.{kind_of, stmts_of}
use Rattle.spec_rules.specs.declared.names.ValueType.TheVariants.{Text}
use Rattle.spec_rules.specs.Names.{local, names_of_chan, names_of_pattern}
use Rattle.spec_rules.specs.Place.{Inner, blocks_of, bound_behind, without_names}
use Rattle.spec_check.specs.Least.{IsFirst, IsFirstBut}
use Rattle.spec_check.specs.Stmts.{IsBadIn, IsBadInBlocks, blocks_of_cases}
use Rattle.spec_check.proofs.Firsts.{begun}
use Rattle.spec_check.proofs.Walks.{among, at_stmt, in_two, past_item, past_items, walked, walked_all, with_last}
use Rattle.spec_check.proofs.walk.+walk.Goals as goal

pub stmt_fault-returns-clause-first : goal.stmt_fault-returns-clause-first
stmt_fault-returns-clause-first t c =
    λ behind. at_stmt c.args.rules c.args.known.now.items c.args.stmt.now behind c.in_ok-own.own c.in_ok-inner.inner c.earlier.result
    (rw c.as_slice.ensures.value at c.in_ok-own.ensures) (c.in_ok-inner.ensures.first behind) c.earlier.ensures

pub block_fault-loop-stmt-init : goal.block_fault-loop-stmt-init
block_fault-loop-stmt-init t c = record {
  kept = (c.args.bound.items, c.in_ok-append.ensures.items);
  first = λ behind. rw c.in_ok-append.ensures.items (begun (IsBadIn c.args.rules (c.args.known.now.items ++ c.args.bound.items) c.as_slice-stmt-items.result.now behind));
}

pub block_fault-loop-stmt-preserved : goal.block_fault-loop-stmt-preserved
block_fault-loop-stmt-preserved t c =
    let bound = bound_behind (kind_of c.stmt-item.result) in
    let names = (rw c.in_ok-behind.ensures at c.in_ok-append-2.ensures.items) ∙ ap (λ known. known ++ bound) c.in_ok-here.ensures.kept in
    let stmts = c.as_slice-stmt-items.result.now in
    let before = c.args.known.now.items ++ c.args.bound.items in
    record {
      kept = (c.loop-stmt.invariant.kept.0 ++ bound, names ∙ ap (λ known. known ++ bound) c.loop-stmt.invariant.kept.1 ∙ append_assoc c.args.known.now.items c.loop-stmt.invariant.kept.0 bound);
      first = λ behind. subst (λ known. IsFirstBut (IsBadIn c.args.rules known (drop (c.loop-stmt.stmt-index + 1) stmts) behind) (IsBadIn c.args.rules before stmts behind) c.earlier-found.result) (sym names)
          (walked c.args.rules c.loop-stmt.known.items before stmts c.loop-stmt.stmt-index c.stmt-item.result c.loop-stmt.found c.in_ok-here.here c.earlier-found.result
          c.loop-stmt-test.true c.stmt-item.is c.loop-stmt.invariant.first c.in_ok-here.ensures.first c.earlier-found.ensures behind);
    }

pub block_fault-returns-clause-first : goal.block_fault-returns-clause-first
block_fault-returns-clause-first t c =
    λ behind. subst (λ stmts. IsFirst (IsBadIn c.args.rules (c.args.known.now.items ++ c.args.bound.items) stmts behind) c.loop-stmt.found) c.as_slice-stmt-items.ensures
    (walked_all c.args.rules c.loop-stmt.known.items (c.args.known.now.items ++ c.args.bound.items) c.as_slice-stmt-items.result.now c.loop-stmt.stmt-index behind c.loop-stmt.found
    c.loop-stmt-test.false (c.loop-stmt.invariant.first behind))

pub block_fault-returns-clause-kept : goal.block_fault-returns-clause-kept
block_fault-returns-clause-kept t c =
    let known = c.args.known.now in
    c.truncate.ensures.items
    ∙ ap (λ outer. take outer c.loop-stmt.known.items) (c.len-outer.ensures ∙ known.ok.0)
    ∙ ap (take (length known.items)) c.loop-stmt.invariant.kept.1
    ∙ take-append_seam known.items c.loop-stmt.invariant.kept.0

pub blocks_fault-returns-in_ok-in_rest-in-Recv-clause-first : goal.blocks_fault-returns-in_ok-in_rest-in-Recv-clause-first
blocks_fault-returns-in_ok-in_rest-in-Recv-clause-first t c =
    let kind = ap out-Kind c.in-Recv.is ∙ kinds.outs-Recv c.in-Recv.chan c.in-Recv.cases c.in-Recv.other c.in-Recv.rest in
    let bound = names_of_chan c.in-Recv.chan ++ local c.in-Recv.other Text ∷ [] in
    λ behind. subst (λ kind. IsFirst (IsBadInBlocks c.args.rules c.args.known.now.items (blocks_of kind) behind) c.earlier.result) (sym kind)
    (with_last c.args.rules c.args.known.now.items (blocks_of_cases c.in-Recv.chan c.in-Recv.cases) (record { bound = bound; block = c.in-Recv.rest }) behind
    c.in_ok-in_cases-in-Recv.in_cases c.in_ok-in_rest-in-Recv.in_rest c.earlier.result (c.in_ok-in_cases-in-Recv.ensures.first behind)
    (among c.args.rules c.cases_fault.new.known.items c.args.known.now.items c.in_ok-bound-in-Recv.bound.items bound (stmts_of c.in-Recv.rest) behind c.in_ok-in_rest-in-Recv.in_rest
    c.in_ok-in_cases-in-Recv.ensures.kept c.in_ok-bound-in-Recv.ensures (c.in_ok-in_rest-in-Recv.ensures.first behind))
    c.earlier.ensures)

pub blocks_fault-returns-in_ok-in_no-in-If-clause-first : goal.blocks_fault-returns-in_ok-in_no-in-If-clause-first
blocks_fault-returns-in_ok-in_no-in-If-clause-first t c =
    let kind = ap out-Kind c.in-If.is ∙ kinds.outs-If c.in-If.cond c.in-If.yes c.in-If.no in
    λ behind. subst (λ kind. IsFirst (IsBadInBlocks c.args.rules c.args.known.now.items (blocks_of kind) behind) c.earlier-in-If.result) (sym kind)
    (in_two c.args.rules c.args.known.now.items (without_names c.in-If.yes) (without_names c.in-If.no) behind
    c.in_ok-in_yes-in-If.in_yes c.in_ok-in_no-in-If.in_no c.earlier-in-If.result
    (among c.args.rules c.args.known.now.items c.args.known.now.items c.new.result.items [] (stmts_of c.in-If.yes) behind c.in_ok-in_yes-in-If.in_yes
    refl c.new.ensures.items (c.in_ok-in_yes-in-If.ensures.first behind))
    (among c.args.rules c.block_fault-in-If.new.known.items c.args.known.now.items c.new-in-If.result.items [] (stmts_of c.in-If.no) behind c.in_ok-in_no-in-If.in_no
    c.in_ok-in_yes-in-If.ensures.kept c.new-in-If.ensures.items (c.in_ok-in_no-in-If.ensures.first behind))
    c.earlier-in-If.ensures)

pub blocks_fault-returns-in-Either-clause-first : goal.blocks_fault-returns-in-Either-clause-first
blocks_fault-returns-in-Either-clause-first t c =
    let kind = ap out-Kind c.in-Either.is ∙ kinds.outs-Either c.in-Either.arms in
    rw kind c.arms_fault.ensures.first

pub blocks_fault-returns-in_ok-in_missing-in-Lookup-clause-first : goal.blocks_fault-returns-in_ok-in_missing-in-Lookup-clause-first
blocks_fault-returns-in_ok-in_missing-in-Lookup-clause-first t c =
    let kind = ap out-Kind c.in-Lookup.is ∙ kinds.outs-Lookup c.in-Lookup.table c.in-Lookup.key c.in-Lookup.name c.in-Lookup.found c.in-Lookup.missing in
    let bound = local c.in-Lookup.name Text ∷ [] in
    λ behind. subst (λ kind. IsFirst (IsBadInBlocks c.args.rules c.args.known.now.items (blocks_of kind) behind) c.earlier-in-Lookup.result) (sym kind)
    (in_two c.args.rules c.args.known.now.items (record { bound = bound; block = c.in-Lookup.found }) (without_names c.in-Lookup.missing) behind
    c.in_ok-in_found-in-Lookup.in_found c.in_ok-in_missing-in-Lookup.in_missing c.earlier-in-Lookup.result
    (rw c.in_ok-bound-in-Lookup.ensures at (c.in_ok-in_found-in-Lookup.ensures.first behind))
    (among c.args.rules c.block_fault-in-Lookup.new.known.items c.args.known.now.items c.new-in-Lookup.result.items [] (stmts_of c.in-Lookup.missing) behind c.in_ok-in_missing-in-Lookup.in_missing
    c.in_ok-in_found-in-Lookup.ensures.kept c.new-in-Lookup.ensures.items (c.in_ok-in_missing-in-Lookup.ensures.first behind))
    c.earlier-in-Lookup.ensures)

pub cases_fault-loop-case-init : goal.cases_fault-loop-case-init
cases_fault-loop-case-init t c = record {
  kept = refl;
  first = λ behind. begun (IsBadInBlocks c.args.rules c.args.known.now.items (blocks_of_cases c.args.chan.now c.as_slice-case-items.result.now) behind);
}

pub cases_fault-loop-case-preserved : goal.cases_fault-loop-case-preserved
cases_fault-loop-case-preserved t c =
    let chan = names_of_chan c.args.chan.now in
    let bound = chan ++ names_of_pattern (out-Case c.case-item.result).items in
    let inner_of : Case → Inner = λ case. record { bound = chan ++ names_of_pattern (out-Case case).items; block = (out-Case case).block } in
    record {
      kept = c.in_ok-here.ensures.kept ∙ c.loop-case.invariant.kept;
      first = λ behind. past_item c.args.rules c.args.known.now.items inner_of c.as_slice-case-items.result.now c.loop-case.case-index c.case-item.result behind c.loop-case.found c.in_ok-here.here c.earlier-found.result
          c.loop-case-test.true c.case-item.is (c.loop-case.invariant.first behind)
          (among c.args.rules c.loop-case.known.items c.args.known.now.items c.in_ok-bound.bound.items bound (stmts_of (out-Case c.case-item.result).block) behind c.in_ok-here.here
          c.loop-case.invariant.kept (rw c.as_slice.ensures at c.in_ok-bound.ensures) (c.in_ok-here.ensures.first behind))
          c.earlier-found.ensures;
    }

pub cases_fault-returns-clause-first : goal.cases_fault-returns-clause-first
cases_fault-returns-clause-first t c =
    let chan = names_of_chan c.args.chan.now in
    let inner_of : Case → Inner = λ case. record { bound = chan ++ names_of_pattern (out-Case case).items; block = (out-Case case).block } in
    λ behind. subst (λ cases. IsFirst (IsBadInBlocks c.args.rules c.args.known.now.items (blocks_of_cases c.args.chan.now cases) behind) c.loop-case.found) c.as_slice-case-items.ensures
    (past_items c.args.rules c.args.known.now.items inner_of c.as_slice-case-items.result.now c.loop-case.case-index behind c.loop-case.found c.loop-case-test.false (c.loop-case.invariant.first behind))

pub arms_fault-loop-arm-init : goal.arms_fault-loop-arm-init
arms_fault-loop-arm-init t c = record {
  kept = refl;
  first = λ behind. begun (IsBadInBlocks c.args.rules c.args.known.now.items (map without_names c.as_slice-arm-items.result.now) behind);
}

pub arms_fault-loop-arm-preserved : goal.arms_fault-loop-arm-preserved
arms_fault-loop-arm-preserved t c = record {
  kept = c.in_ok-here.ensures.kept ∙ c.loop-arm.invariant.kept;
  first = λ behind. past_item c.args.rules c.args.known.now.items without_names c.as_slice-arm-items.result.now c.loop-arm.arm-index c.arm-item.result behind c.loop-arm.found c.in_ok-here.here c.earlier-found.result
      c.loop-arm-test.true c.arm-item.is (c.loop-arm.invariant.first behind)
      (among c.args.rules c.loop-arm.known.items c.args.known.now.items c.new.result.items [] (stmts_of c.arm-item.result) behind c.in_ok-here.here
      c.loop-arm.invariant.kept c.new.ensures.items (c.in_ok-here.ensures.first behind))
      c.earlier-found.ensures;
}

pub arms_fault-returns-clause-first : goal.arms_fault-returns-clause-first
arms_fault-returns-clause-first t c =
    λ behind. subst (λ arms. IsFirst (IsBadInBlocks c.args.rules c.args.known.now.items (map without_names arms) behind) c.loop-arm.found) c.as_slice-arm-items.ensures
    (past_items c.args.rules c.args.known.now.items without_names c.as_slice-arm-items.result.now c.loop-arm.arm-index behind c.loop-arm.found c.loop-arm-test.false (c.loop-arm.invariant.first behind))
