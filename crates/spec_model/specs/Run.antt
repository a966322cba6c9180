-- Runs of a server.
use Rattle.std.specs.Prelude.{◌≡◌, ℕ, List, [], ◌∷◌, Some, None}
use Rattle.spec_model.specs.declared.config.Config.{Config}
use Rattle.spec_model.specs.declared.event.ServerEvent.{ServerEvent}
use Rattle.spec_model.specs.declared.tree.Block.{Block}
use Rattle.spec_model.specs.declared.tree.Case.{Case}
use Rattle.spec_model.specs.declared.tree.Chan.{Chan}
use Rattle.spec_model.specs.declared.tree.Kind.TheOpen.{Recv}
use Rattle.spec_model.specs.declared.tree.Spec.{Spec}
use Rattle.spec_model.specs.declared.tree.Stmt.{Stmt}
use Rattle.spec_model.specs.Config.{first_config, stmts_of, kind_of}
use Rattle.spec_model.specs.Step.{after_event, after_silent_work}

-- All silent work that stands first is done: from the first configuration it leads to the second.
pub data Settles (spec : Spec) : Config → Config → Type 0 where
  settled : {c : Config} → after_silent_work spec c ≡ None → Settles spec c c
  passes : {c d e : Config} → after_silent_work spec c ≡ Some d → Settles spec d e → Settles spec c e

-- A step: an event, and then all silent work.
abbrev pub Step : Spec → Config → ServerEvent → Config → Type 0
Step spec old event new = (middle : Config) × (after_event spec old event ≡ Some middle) × Settles spec middle new

-- The steps of these events lead from the old configuration to the new one.
abbrev pub Steps : Spec → Config → List ServerEvent → Config → Type 0
Steps spec old [] new = old ≡ new
Steps spec old (event ∷ events) new = (middle : Config) × Step spec old event middle × Steps spec middle events new

-- At the opening the silent work that stands first is done at once.
abbrev pub Opens : Spec → Config → Type 0
Opens spec opening = Settles spec (first_config spec) opening

-- A run leads from the opening to the configuration in which it ends.
abbrev pub RunsTo : Spec → List ServerEvent → Config → Type 0
RunsTo spec events end = (opening : Config) × Opens spec opening × Steps spec opening events end

-- a run: the events of a server from its opening on
abbrev pub IsRun : Spec → List ServerEvent → Type 0
IsRun spec events = (end : Config) × RunsTo spec events end

-- the loop's body begins with a `recv`
pub record BeginsWithRecv (spec : Spec) : Type 0 where
  pub recv : Stmt
  pub more : List Stmt
  pub chan : Chan
  pub cases : List Case
  pub other : List ℕ
  pub rest : Block
  pub body : stmts_of spec.body ≡ recv ∷ more
  pub takes : kind_of recv ≡ Recv chan cases other rest
