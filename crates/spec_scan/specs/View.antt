-- The states of the reading that the scanner's values stand for.
use Rattle.std.specs.Prelude.{List, reverse}
use Rattle.spec_model.specs.declared.token.Placed.{Placed}
use Rattle.spec_scan.specs.declared.goal.Goal.{Goal}
use Rattle.spec_scan.specs.declared.part.Part.TheVariants.{Between}
use Rattle.spec_scan.specs.declared.state.Scanner.{Scanner}
use Rattle.spec_scan.specs.declared.state.Whole.{Whole}
use Rattle.spec_scan.specs.Scan.{State, state}

-- the goals, the next first
abbrev pub goals_of : Whole → List Goal
goals_of whole = reverse whole.goals.items

abbrev pub placed_of : Whole → List Placed
placed_of whole = whole.placed.items

abbrev pub whole_state : Whole → State
whole_state whole = state Between (goals_of whole) (placed_of whole)

abbrev pub state_of : Scanner → State
state_of scanner = state scanner.part (goals_of scanner.whole) (placed_of scanner.whole)
