-- What hypotheses keep where the steps of their trail are numbered anew.
use Rattle.std.specs.Prelude.{◌≡◌, ℕ, ◌<◌, All, List, length, map, sum_by, zip}
use Rattle.spec_model.specs.declared.event.Mark.{Mark}
use Rattle.trail_store.specs.Path.{path_at}
use Rattle.hypothesis.specs.declared.hypothesis.Hypothesis.{Hypothesis}
use Rattle.hypothesis_pool.specs.Standing.{skeletons_in}

-- how many marks the paths of hypotheses have, all in all
abbrev pub marks_in : List (List Mark) → List Hypothesis → ℕ
marks_in paths hs = sum_by length (map (path_at paths) (map (λ (h : Hypothesis). h.step) hs))

-- hypotheses with these steps, by place
abbrev pub with_steps : List Hypothesis → List ℕ → List Hypothesis
with_steps hs steps = map (λ (pair : Hypothesis × ℕ). record pair.0 { step = pair.1 }) (zip hs steps)

-- But for their steps hypotheses are as they were, and with the new steps their skeletons in the new trail are those in the old one.
pub record KeepTheirSkeletons (paths new_paths : List (List Mark)) (old new : List Hypothesis) : Type 0 where
  pub steps : List ℕ
  pub with_them : new ≡ with_steps old steps
  pub one_each : length steps ≡ length old
  pub within : All (λ step. step < length new_paths) steps
  pub skeletons : skeletons_in new_paths new ≡ skeletons_in paths old
