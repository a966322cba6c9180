use Rattle.std.proofs.Common.{sym, subst}
use Rattle.spec_model.specs.Grammar as gr
use Rattle.spec_print.specs.Listed.{Puts, leaves_out}
use Rattle.spec_print.proofs.Chains.{if_ok}
use Rattle.spec_print.proofs.ListedPieces.{block_puts, if_puts, lookup_puts, recv_puts, arms_put}
use Rattle.spec_print.proofs.statements.+block.Goals as goal

pub block-returns : goal.block-returns
block-returns t c = if_ok c.sign-2.result (λ after last. block_puts c.args.page c.in_ok-page.page c.in_ok-page-2.page after c.args.block.now c.in_ok-page.ensures c.in_ok-page-2.ensures last) c.sign-2.ensures

pub statement-returns-in_ok-page-in-If : goal.statement-returns-in_ok-page-in-If
statement-returns-in_ok-page-in-If t c = if_ok c.else_part.result (λ after last.
    subst (λ k. Puts c.args.page (gr.stmt leaves_out c.args.stmt.now.at k) after) (sym c.in-If.is) (
    if_puts c.args.page c.in_ok-test-in-If.field-0 c.in_ok-page-in-If.page after c.args.stmt.now.at c.in-If.cond c.in-If.yes c.in-If.no c.in_ok-test-in-If.ensures c.in_ok-page-in-If.ensures last)) c.else_part.ensures

pub statement-returns-in_ok-page-in-Lookup : goal.statement-returns-in_ok-page-in-Lookup
statement-returns-in_ok-page-in-Lookup t c = if_ok c.else_part-in-Lookup.result (λ after last.
    subst (λ k. Puts c.args.page (gr.stmt leaves_out c.args.stmt.now.at k) after) (sym c.in-Lookup.is) (
    lookup_puts c.args.page c.in_ok-get-in-Lookup.field-0 c.in_ok-page-in-Lookup.page after c.args.stmt.now.at c.in-Lookup.table c.in-Lookup.key c.in-Lookup.name c.in-Lookup.found c.in-Lookup.missing
    c.in_ok-get-in-Lookup.ensures c.in_ok-page-in-Lookup.ensures last)) c.else_part-in-Lookup.ensures

pub statement-returns-in_ok-page-in-Recv-2 : goal.statement-returns-in_ok-page-in-Recv-2
statement-returns-in_ok-page-in-Recv-2 t c = if_ok c.sign.result (λ after last.
    subst (λ k. Puts c.args.page (gr.stmt leaves_out c.args.stmt.now.at k) after) (sym c.in-Recv.is) (
    recv_puts c.args.page c.in_ok-recv-in-Recv.field-0 c.in_ok-page-in-Recv.page c.in_ok-others-in-Recv.field-0 c.in_ok-page-in-Recv-2.page after c.args.stmt.now.at c.in-Recv.chan c.in-Recv.cases c.in-Recv.other c.in-Recv.rest
    c.in_ok-recv-in-Recv.ensures c.in_ok-page-in-Recv.ensures c.in_ok-others-in-Recv.ensures c.in_ok-page-in-Recv-2.ensures last)) c.sign.ensures

pub statement-returns-in_ok-word-in-Either : goal.statement-returns-in_ok-word-in-Either
statement-returns-in_ok-word-in-Either t c = if_ok c.all_arms.result (λ after last.
    subst (λ k. Puts c.args.page (gr.stmt leaves_out c.args.stmt.now.at k) after) (sym c.in-Either.is) (
    arms_put c.args.stmt.now.at c.args.page c.in_ok-word-in-Either.field-0 after c.in-Either.arms c.in_ok-word-in-Either.ensures last)) c.all_arms.ensures
