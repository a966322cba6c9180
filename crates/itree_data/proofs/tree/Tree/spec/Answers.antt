use Rattle.std.proofs.Common.{subst}
use Rattle.itree_data.specs.Laws.{KeepsNames, KeepsPlaces, KeepsRuns, KeepsState}
use Rattle.itree_data.proofs.tree.Tree.spec.Goals as goal

pub returns-clause-runs : goal.returns-clause-runs
returns-clause-runs c = subst KeepsRuns c.self.view_is c.self.invariant.laws.runs

pub returns-clause-state : goal.returns-clause-state
returns-clause-state c = subst KeepsState c.self.view_is c.self.invariant.laws.state

pub returns-clause-places : goal.returns-clause-places
returns-clause-places c = subst KeepsPlaces c.self.view_is c.self.invariant.laws.places

pub returns-clause-names : goal.returns-clause-names
returns-clause-names c = subst KeepsNames c.self.view_is c.self.invariant.laws.names
