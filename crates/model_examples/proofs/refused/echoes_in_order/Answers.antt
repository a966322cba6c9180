use Rattle.model_examples.proofs.EchoRuns as runs
use Rattle.model_examples.proofs.refused.echoes_in_order.Goals as goal

pub returns : goal.returns
returns c = runs.echoes_in_order
