use Rattle.std.proofs.Common.{◌∷◌, ◌++◌, [], codes, replicate, refl}
use Rattle.spec_model.specs.declared.event.ServerEvent.TheVariants as servers
use Rattle.model_examples.specs.Events.{arm}
use Rattle.model_examples.specs.Store.{store}
use Rattle.model_examples.proofs.ComputedRun.{ends_where, is_no_run}
use Rattle.model_examples.proofs.Trees.{trees}
use Rattle.model_examples.proofs.messages.answer_past_the_limit.Goals as goal

pub returns-clause-within : goal.returns-clause-within
unfolding trees
returns-clause-within c = ends_where refl refl

pub returns-clause-past : goal.returns-clause-past
unfolding trees
returns-clause-past c = is_no_run store _ (servers.Take 0 (replicate 253 120) ∷ arm 1 ∷ servers.Send 0 (codes "ERR " ++ replicate 253 120) ∷ []) refl refl

pub returns-clause-not_cut : goal.returns-clause-not_cut
unfolding trees
returns-clause-not_cut c = is_no_run store _ (servers.Take 0 (replicate 253 120) ∷ arm 1 ∷ servers.Send 0 (codes "ERR " ++ replicate 252 120) ∷ []) refl refl
