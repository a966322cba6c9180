use Rattle.std.proofs.Common.{◌++◌, [], refl, sym, ap, ◌∙◌, append_assoc}
use Rattle.std.proofs.lemmas.List.{append-nil}
use Rattle.script_gen.specs.SeenStmts.{picks_behind, seen_in_stmts}
use Rattle.script_gen.proofs.SeenByStmt.{seen_all, seen_more}
use Rattle.script_gen.proofs.seen.+see.Goals as goal

pub see_block-loop-stmt-init : goal.see_block-loop-stmt-init
see_block-loop-stmt-init t c = record { kept = ([], sym (append-nil c.args.picks.now.items)); seen = refl }

pub see_block-loop-stmt-preserved : goal.see_block-loop-stmt-preserved
see_block-loop-stmt-preserved t c =
    let behind = picks_behind c.stmt-item.result in
    record {
      kept = (
        c.loop-stmt.invariant.kept.0 ++ behind,
        c.in_ok-see_stmt.ensures.known ∙ ap (λ picks. picks ++ behind) c.loop-stmt.invariant.kept.1 ∙ append_assoc c.args.picks.now.items c.loop-stmt.invariant.kept.0 behind,
      );
      seen = seen_more c.loop-stmt.plan c.see_stmt.new.plan c.args.plan.now c.as_slice-stmt-items.result.now c.loop-stmt.stmt-index c.stmt-item.result
          c.loop-stmt.picks.items c.see_stmt.new.picks.items (seen_in_stmts c.as_slice-stmt-items.result.now c.args.picks.now.items) c.loop-stmt-test.true c.stmt-item.is c.in_ok-see_stmt.ensures.seen c.in_ok-see_stmt.ensures.known c.loop-stmt.invariant.seen;
    }

pub see_block-returns-clause-seen : goal.see_block-returns-clause-seen
see_block-returns-clause-seen t c =
    seen_all c.args.block.now c.loop-stmt.plan c.args.plan.now c.as_slice-stmt-items.result.now c.loop-stmt.stmt-index c.args.picks.now.items c.loop-stmt.picks.items
    c.as_slice-stmt-items.ensures c.loop-stmt-test.false c.loop-stmt.invariant.seen
