use Rattle.spec_scan.proofs.Law.{taken_whole}
use Rattle.spec_scan.proofs.OnePlace.{one_place, read_or_refused}
use Rattle.spec_scan.proofs.laws.one_place.Goals as goal

pub returns-clause-one : goal.returns-clause-one
returns-clause-one c = one_place

pub returns-clause-none : goal.returns-clause-none
returns-clause-none c = λ text spec h within place refused. read_or_refused text h.tokens place (taken_whole text spec h within) refused
