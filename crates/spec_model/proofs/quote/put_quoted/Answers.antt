use Rattle.std.proofs.Common.{arith}
use Rattle.spec_model.proofs.Unquoted.{text_of_bytes}
use Rattle.spec_model.proofs.quote.put_quoted.Goals as goal

pub returns-clause-bytes : goal.returns-clause-bytes
returns-clause-bytes c = text_of_bytes c.args.text.now (λ place. omega (arith, c.type_inv.text place))
