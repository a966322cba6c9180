use Rattle.spec_print.proofs.Chains.{if_ok}
use Rattle.spec_print.proofs.ListedPieces.{after_word_puts}
use Rattle.spec_print.proofs.statements.block_behind.Goals as goal

pub returns : goal.returns
returns c = if_ok c.block.result (λ after last. after_word_puts c.args.page c.in_ok-word.field-0 after c.args.keyword c.args.after_word.now c.in_ok-word.ensures last) c.block.ensures
