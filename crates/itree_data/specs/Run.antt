-- Runs of a tree.
use Rattle.std.specs.Prelude.{◌≡◌, List, [], ◌∷◌, Some, None}
use Rattle.spec_model.specs.declared.event.ServerEvent.{ServerEvent}
use Rattle.itree_data.specs.Fields.{Fields}
use Rattle.itree_data.specs.Standing.{Standing, first_standing, within_scope}
use Rattle.itree_data.specs.Step.{after_event, after_silent_work}

-- All silent work that stands first is done, and then what is not in scope is forgotten.
pub data TreeSettles (tree : Fields) : Standing → Standing → Type 0 where
  settled : {t : Standing} → after_silent_work tree t ≡ None → TreeSettles tree t (within_scope tree t)
  passes : {t u v : Standing} → after_silent_work tree t ≡ Some u → TreeSettles tree u v → TreeSettles tree t v

-- A step: an event, and then all silent work.
abbrev pub TreeStep : Fields → Standing → ServerEvent → Standing → Type 0
TreeStep tree old event new = (middle : Standing) × (after_event tree old event ≡ Some middle) × TreeSettles tree middle new

-- The steps of these events lead from the old configuration to the new one.
abbrev pub TreeSteps : Fields → Standing → List ServerEvent → Standing → Type 0
TreeSteps tree old [] new = old ≡ new
TreeSteps tree old (event ∷ events) new = (middle : Standing) × TreeStep tree old event middle × TreeSteps tree middle events new

-- At the opening the silent work that stands first is done at once.
abbrev pub TreeOpens : Fields → Standing → Type 0
TreeOpens tree opening = TreeSettles tree (first_standing tree) opening

-- A tree run leads from the root to the configuration in which it ends.
abbrev pub TreeRunsTo : Fields → List ServerEvent → Standing → Type 0
TreeRunsTo tree events end = (opening : Standing) × TreeOpens tree opening × TreeSteps tree opening events end

-- a tree run: the events that steps of a tree lead through from its root
abbrev pub IsTreeRun : Fields → List ServerEvent → Type 0
IsTreeRun tree events = (end : Standing) × TreeRunsTo tree events end
