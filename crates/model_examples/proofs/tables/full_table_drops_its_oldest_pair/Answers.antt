use Rattle.std.proofs.Common.{◌≡◌, ◌∷◌, ◌++◌, [], length, refl, arith, length-append, take_all, take_at}
use Rattle.model_examples.proofs.Trees.{trees}
use Rattle.model_examples.proofs.tables.full_table_drops_its_oldest_pair.Goals as goal

pub returns-clause-becomes_full : goal.returns-clause-becomes_full
unfolding trees
returns-clause-becomes_full c pairs counted = rw (counted, take_all 255 pairs (omega (arith, counted))) refl

pub returns-clause-is_full : goal.returns-clause-is_full
unfolding trees
returns-clause-is_full c pairs oldest counted =
    let all_counted : length (pairs ++ oldest ∷ []) ≡ 256 = omega (arith, counted, length-append pairs (oldest ∷ [])) in
    rw (all_counted, take_at pairs (oldest ∷ []) 255 counted) refl
