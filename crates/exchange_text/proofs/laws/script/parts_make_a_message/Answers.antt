use Rattle.exchange_text.proofs.ResolvedMessages.{resolved_is_message}
use Rattle.exchange_text.proofs.laws.script.parts_make_a_message.Goals as goal

pub returns : goal.returns
returns c = resolved_is_message
