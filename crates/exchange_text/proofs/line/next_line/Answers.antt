use Rattle.exchange_text.proofs.Separators.{first_line_some, first_line_none}
use Rattle.exchange_text.proofs.line.next_line.Goals as goal

pub returns-clause-some : goal.returns-clause-some
returns-clause-some c = first_line_some (λ parts. (parts.0.now, parts.1.now)) _ c.args.bytes.now c.split_once.ensures

pub returns-clause-none : goal.returns-clause-none
returns-clause-none c = first_line_none (λ parts. (parts.0.now, parts.1.now)) _ c.args.bytes.now c.split_once.ensures
