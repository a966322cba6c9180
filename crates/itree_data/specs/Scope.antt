-- Names in scope.
use Rattle.std.specs.Prelude.{List, [], ◌∷◌, ◌++◌}
use Rattle.spec_model.specs.declared.tree.Stmt.{Stmt}
use Rattle.spec_model.specs.Config.{kind_of}
use Rattle.spec_rules.specs.declared.names.Known.{Known}
use Rattle.spec_rules.specs.Place.{bound_behind}

-- the names that statements make known behind them
abbrev pub bound_by : List Stmt → List Known
bound_by [] = []
bound_by (stmt ∷ stmts) = bound_behind (kind_of stmt) ++ bound_by stmts
