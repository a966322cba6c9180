use Rattle.std.proofs.Common.{inl, inr, refl, arith}
use Rattle.model_examples.proofs.Trees.{trees}
use Rattle.model_examples.proofs.order.order_of_skeletons.Goals as goal

pub returns-clause-lower_connection : goal.returns-clause-lower_connection
unfolding trees
returns-clause-lower_connection c = inl (omega arith)

pub returns-clause-lower_arm : goal.returns-clause-lower_arm
unfolding trees
returns-clause-lower_arm c = inr (refl, inl (omega arith))

pub returns-clause-test_that_holds : goal.returns-clause-test_that_holds
unfolding trees
returns-clause-test_that_holds c = inr (refl, inl tt)

pub returns-clause-messages_do_not_count : goal.returns-clause-messages_do_not_count
unfolding trees
returns-clause-messages_do_not_count c (inl lower) = absurd (omega arith)
returns-clause-messages_do_not_count c (inr (same, inl sends)) = sends
returns-clause-messages_do_not_count c (inr (same, inr (alike, ends))) = ends
