-- What the paths of steps are.
use Rattle.std.proofs.Common.{◌≡◌, ℕ, zero, suc, ◌+◌, ◌<◌, ◌≤◌, List, [], ◌∷◌, ◌++◌, Some, fold, length, slice_get, sym, refl, ap, ◌∙◌, arith, length-append}
use Rattle.std.proofs.lemmas.List.{get_or_append_left, get_or_push}
use Rattle.std.proofs.lemmas.List.Sums.{fold-append}
use Rattle.spec_model.specs.declared.event.Mark.{Mark}
use Rattle.trail_store.specs.declared.step.Step.{Step}
use Rattle.trail_store.specs.Path.{path_at}
use Rattle.trail_store.specs.Steps.{paths_of, with_step}

pub paths_of-nil : paths_of [] ≡ [] ∷ []
unfolding paths_of
paths_of-nil = refl

pub paths_of-push : (steps : List Step) (step : Step) → paths_of (steps ++ step ∷ []) ≡ with_step (paths_of steps) step
unfolding paths_of
paths_of-push steps step = fold-append with_step ([] ∷ []) steps (step ∷ [])

length-with_step : (paths : List (List Mark)) (step : Step) → length (with_step paths step) ≡ length paths + 1
length-with_step paths step = omega (arith, length-append paths ((path_at paths step.parent ++ step.mark ∷ []) ∷ []))

length-more : (paths : List (List Mark)) (steps : List Step) → length (fold with_step paths steps) ≡ length paths + length steps
length-more paths [] = omega arith
length-more paths (step ∷ steps) = omega (arith, length-more (with_step paths step) steps, length-with_step paths step)

pub length-paths_of : (steps : List Step) → length (paths_of steps) ≡ length steps + 1
unfolding paths_of
length-paths_of steps = omega (arith, length-more ([] ∷ []) steps)

-- with one path more the others keep their numbers
pub path_at-push : (paths : List (List Mark)) (path : List Mark) (number : ℕ) → number < length paths → path_at (paths ++ path ∷ []) number ≡ path_at paths number
path_at-push paths path number within = get_or_append_left paths (path ∷ []) [] number within

path_at-more : (paths : List (List Mark)) (steps : List Step) (number : ℕ) → number < length paths → path_at (fold with_step paths steps) number ≡ path_at paths number
path_at-more paths [] number within = refl
path_at-more paths (step ∷ steps) number within =
    path_at-more (with_step paths step) steps number (omega (arith, length-with_step paths step)) ∙ path_at-push paths _ number within

pub path_at-first : (steps : List Step) → path_at (paths_of steps) 0 ≡ []
unfolding paths_of
path_at-first steps = path_at-more ([] ∷ []) steps 0 (omega arith)

step_behind : (paths : List (List Mark)) (steps : List Step) (below : ℕ) (step : Step) → slice_get steps below ≡ Some step → step.parent < length paths + below
    → path_at (fold with_step paths steps) (length paths + below) ≡ path_at (fold with_step paths steps) step.parent ++ step.mark ∷ []
step_behind paths [] below step there earlier = absurd cc
step_behind paths (first ∷ steps) zero step there earlier =
    let is_first : first ≡ step = cc in
    let here : length paths + 0 ≡ length paths = omega arith in
    let before : step.parent < length paths = omega arith in
    let its_path = path_at-more (with_step paths first) steps (length paths) (omega (arith, length-with_step paths first)) ∙ get_or_push paths (path_at paths first.parent ++ first.mark ∷ []) [] (length paths) refl in
    let parents_path = path_at-more (with_step paths first) steps step.parent (omega (arith, length-with_step paths first)) ∙ path_at-push paths _ step.parent before in
    rw (here, parents_path) (its_path ∙ ap (λ (s : Step). path_at paths s.parent ++ s.mark ∷ []) is_first)
step_behind paths (first ∷ steps) (suc below) step there earlier =
    let longer = length-with_step paths first in
    let here : length (with_step paths first) + below ≡ length paths + suc below = omega arith in
    rw (sym here) (step_behind (with_step paths first) steps below step there (omega arith))

-- A step's path is that of its parent with its mark behind it.
pub path_at-step : (steps : List Step) (below : ℕ) (step : Step) → slice_get steps below ≡ Some step → step.parent ≤ below
    → path_at (paths_of steps) (below + 1) ≡ path_at (paths_of steps) step.parent ++ step.mark ∷ []
unfolding paths_of
path_at-step steps below step there earlier =
    let here : 1 + below ≡ below + 1 = omega arith in
    let behind = step_behind ([] ∷ []) steps below step there (omega arith) in
    rw here at behind
