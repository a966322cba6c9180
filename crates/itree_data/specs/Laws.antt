-- What a tree and its specification have in common.
use Rattle.std.specs.Prelude.{◌≡◌, ◌↔◌, List, map}
use Rattle.spec_model.specs.declared.config.Binding.{Binding}
use Rattle.spec_model.specs.declared.config.Config.{Config}
use Rattle.spec_model.specs.declared.config.Table.{Table}
use Rattle.spec_model.specs.declared.event.ServerEvent.{ServerEvent}
use Rattle.spec_model.specs.Config.{idle_config}
use Rattle.spec_model.specs.Run.{IsRun, RunsTo}
use Rattle.itree_data.specs.Fields.{Fields}
use Rattle.itree_data.specs.Run.{IsTreeRun, TreeRunsTo}
use Rattle.itree_data.specs.Standing.{Standing, place_of}

-- The runs of the tree are the runs of its specification.
abbrev pub KeepsRuns : Fields → Type 0
KeepsRuns tree = (events : List ServerEvent) → IsTreeRun tree events ↔ IsRun tree.spec events

-- A tree has stored what a specification has, by position, and the same messages passed.
pub record Mirrors (c : Config) (t : Standing) : Type 0 where
  pub registers : t.registers ≡ map (λ (b : Binding). b.value) c.registers
  pub tables : t.tables ≡ map (λ (table : Table). table.pairs) c.tables
  pub locals : t.locals ≡ map (λ (b : Binding). b.value) c.locals
  pub taken : t.taken ≡ c.taken
  pub sent : t.sent ≡ c.sent

-- A run ends in configurations of the specification and of the tree that mirror each other.
abbrev pub KeepsState : Fields → Type 0
KeepsState tree = (events : List ServerEvent) (c : Config) (t : Standing) → RunsTo tree.spec events c → TreeRunsTo tree events t → Mirrors c t

-- Two runs end with the same statements to do exactly where they end at the same place of the tree.
abbrev pub KeepsPlaces : Fields → Type 0
KeepsPlaces tree =
    (events others : List ServerEvent) (c d : Config) (t u : Standing)
    → RunsTo tree.spec events c → RunsTo tree.spec others d → TreeRunsTo tree events t → TreeRunsTo tree others u
    → (c.todo ≡ d.todo) ↔ (place_of t ≡ place_of u)

-- Two runs that end at the same place of the tree have the same names bound; registers and tables keep the names with which they are declared.
pub record KeepsNames (tree : Fields) : Type 0 where
  pub locals : (events others : List ServerEvent) (c d : Config) (t u : Standing)
      → RunsTo tree.spec events c → RunsTo tree.spec others d → TreeRunsTo tree events t → TreeRunsTo tree others u
      → place_of t ≡ place_of u → map (λ (b : Binding). b.name) c.locals ≡ map (λ (b : Binding). b.name) d.locals
  pub registers : (events : List ServerEvent) (c : Config) → RunsTo tree.spec events c
      → map (λ (b : Binding). b.name) c.registers ≡ map (λ (b : Binding). b.name) (idle_config tree.spec).registers
  pub tables : (events : List ServerEvent) (c : Config) → RunsTo tree.spec events c
      → map (λ (table : Table). table.name) c.tables ≡ map (λ (table : Table). table.name) (idle_config tree.spec).tables

-- These are the fields of a tree of their specification.
pub record IsTreeOf (tree : Fields) : Type 0 where
  pub runs : KeepsRuns tree
  pub state : KeepsState tree
  pub places : KeepsPlaces tree
  pub names : KeepsNames tree
