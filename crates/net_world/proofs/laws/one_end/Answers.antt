use Rattle.std.proofs.Common.{subst, sym}
use Rattle.net_world.specs.Legality.{EndsAt}
use Rattle.net_world.proofs.Ends.{one_place, one_why}
use Rattle.net_world.proofs.Following.{not_legal}
use Rattle.net_world.proofs.laws.one_end.Goals as goal

pub returns-clause-one : goal.returns-clause-one
returns-clause-one c world place other why reason ends too =
    let same = one_place world place other why reason ends too in
    (same, one_why world place why reason ends (subst (λ n. EndsAt world n reason) (sym same) too))

pub returns-clause-not_legal : goal.returns-clause-not_legal
returns-clause-not_legal c world place why ends = not_legal world place ends.ends
