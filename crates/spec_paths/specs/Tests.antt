-- Which events of a server are comparisons, and how many there may be.
use Rattle.std.specs.Prelude.{ℕ, ◌*◌, Bool, true, false}
use Rattle.spec_model.specs.declared.event.ServerEvent.{ServerEvent}
use Rattle.spec_model.specs.declared.event.ServerEvent.TheVariants.{Take, Test}
use Rattle.spec_model.specs.Table.{most_pairs}
use Rattle.spec_rules.specs.Bad.{most_compares}

abbrev pub is_test : ServerEvent → Bool
is_test (Test outcome) = true
is_test _ = false

abbrev pub is_take : ServerEvent → Bool
is_take (Take conn message) = true
is_take _ = false

-- The most comparisons between two takes: each statement that compares makes at most one with each pair of a table.
abbrev pub most_tests : ℕ
most_tests = most_compares * most_pairs
