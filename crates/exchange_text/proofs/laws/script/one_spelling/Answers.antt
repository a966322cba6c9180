use Rattle.std.proofs.Common.{sym, ◌∙◌}
use Rattle.exchange_text.proofs.ScriptReading.{one_script}
use Rattle.exchange_text.proofs.laws.script.one_spelling.Goals as goal

pub returns-clause-one_script : goal.returns-clause-one_script
returns-clause-one_script c = λ shape other_shape script other text small small' fits fits' spells spells'.
    one_script shape other_shape small small' script other fits fits' (sym spells ∙ spells')
