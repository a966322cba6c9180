use Rattle.std.proofs.Common.{refl}
use Rattle.model_examples.proofs.Trees.{trees}
use Rattle.model_examples.proofs.messages.limits_of_messages.Goals as goal

pub returns-clause-longest : goal.returns-clause-longest
unfolding trees
returns-clause-longest c = refl

pub returns-clause-too_long : goal.returns-clause-too_long
unfolding trees
returns-clause-too_long c = λ is. absurd (cc (is))

pub returns-clause-line_feed : goal.returns-clause-line_feed
unfolding trees
returns-clause-line_feed c = λ is. absurd (cc (is))

pub returns-clause-carriage_return : goal.returns-clause-carriage_return
unfolding trees
returns-clause-carriage_return c = refl

pub returns-clause-line_feed_in_len16 : goal.returns-clause-line_feed_in_len16
unfolding trees
returns-clause-line_feed_in_len16 c = refl
