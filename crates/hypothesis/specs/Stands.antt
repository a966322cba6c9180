-- What a hypothesis stands for.
use Rattle.std.specs.Prelude.{◌≡◌, ℕ, ◌≤◌, List}
use Rattle.spec_model.specs.declared.event.ClientEvent.{ClientEvent}
use Rattle.spec_model.specs.declared.event.Mark.{Mark}
use Rattle.spec_model.specs.declared.event.ServerEvent.{ServerEvent}
use Rattle.spec_model.specs.Alike.{RunWith, SkeletonExplains}
use Rattle.spec_model.specs.Skeleton.{picks_of, tests_in}
use Rattle.constraint_set.specs.Known.{IsSolution}
use Rattle.itree_data.specs.Run.{TreeRunsTo}
use Rattle.itree_data.specs.Standing.{Standing}
use Rattle.dual_tree.specs.Dual.{DualFields, tree_of}
use Rattle.hypothesis.specs.declared.hypothesis.Hypothesis.{Hypothesis}
use Rattle.hypothesis.specs.Left.{left_of, shown_by}

-- A hypothesis stands for a skeleton that explains the exchange, that is, for all runs with it that do. The solutions of its facts are
-- the lists of texts that these runs pick, in order, and with such texts it shows what is left of where the run ends. No more
-- disequalities were asked of its facts than the skeleton has tests.
pub record StandsFor (dual : DualFields) (exchange : List ClientEvent) (skeleton : List Mark) (h : Hypothesis) : Type 0 where
  pub explains : SkeletonExplains dual.spec exchange skeleton
  pub solved : (events : List ServerEvent) → RunWith dual.spec exchange skeleton events → IsSolution h.facts (picks_of events)
  pub picked : (texts : List (List ℕ)) → IsSolution h.facts texts
      → (events : List ServerEvent) × RunWith dual.spec exchange skeleton events × (picks_of events ≡ texts)
  pub shows : (events : List ServerEvent) (end : Standing) → RunWith dual.spec exchange skeleton events → TreeRunsTo (tree_of dual) events end
      → left_of exchange end ≡ shown_by h (picks_of events)
  pub asked : h.facts.asked ≤ tests_in skeleton
