use Rattle.model_examples.proofs.Unexplained.{token_receipt}
use Rattle.model_examples.proofs.refused.only_tokens_are_given_out.Goals as goal

pub returns : goal.returns
returns c message explained = let received = token_receipt message explained in (received.token, received.may_be, received.is)
