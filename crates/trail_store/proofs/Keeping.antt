-- Which steps are kept when one more is, with what it goes on from.
use Rattle.std.proofs.Common.{◌≡◌, ◌⊎◌, ℕ, zero, suc, ◌+◌, ◌-◌, ◌<◌, ◌≤◌, Bool, true, false, cond, List, [], ◌∷◌, ◌++◌, Some, get_or, inl, inr, length, map, replicate, set, slice_get, sym, refl, ap, ◌∙◌, subst, arith, add-one, length-set}
use Rattle.std.proofs.lemmas.Bool.{both_ways, cases_eq, cases_lt, false≢true}
use Rattle.std.proofs.lemmas.List.{get_or_append_left, get_or-set_other, get_or-set_same, get_or_past, length_push, length-replicate, map_push}
use Rattle.std.proofs.lemmas.List.Elements.{All-nil, All-push, All-weaker}
use Rattle.std.proofs.lemmas.List.Quantifiers.{Any-push}
use Rattle.std.proofs.lemmas.List.Sums.{sum_by-append, sum_by-set}
use Rattle.spec_model.specs.declared.event.Mark.{Mark}
use Rattle.spec_model.specs.World.{IsPrefixOf}
use Rattle.spec_model.proofs.Prefix.{IsPrefixOf-self, IsPrefixOf-trans}
use Rattle.trail_store.specs.declared.step.Step.{Step}
use Rattle.trail_store.specs.Keep.{AreReached, IsAlsoKept, IsClosed, IsKept, kept_count}
use Rattle.trail_store.specs.Path.{BeginsOne, path_at}
use Rattle.trail_store.specs.Steps.{AreSteps, paths_of}
use Rattle.trail_store.proofs.PathsOfSteps.{path_at-first, path_at-step}

-- a step that is kept has a number among these
IsKept-within : (kept : List Bool) (number : ℕ) → IsKept kept number → number < length kept
IsKept-within kept number is_kept =
    elim (cases_lt number (length kept)) [
      | inl within ↦ within
      | inr past ↦ absurd (false≢true (sym (get_or_past kept number false past) ∙ is_kept))
    ]

-- one more is kept: it, and what was
IsKept-set_same : (kept : List Bool) (place : ℕ) → place < length kept → IsKept (set kept place true) place
IsKept-set_same kept place within = get_or-set_same kept place true false within

IsKept-set : (kept : List Bool) (place number : ℕ) → IsKept kept number → IsKept (set kept place true) number
IsKept-set kept place number is_kept =
    elim (cases_eq number place) [
      | inl same ↦ rw same (IsKept-set_same kept place (subst (λ (n : ℕ). n < length kept) same (IsKept-within kept number is_kept)))
      | inr other ↦ get_or-set_other kept place number true false other ∙ is_kept
    ]

-- and nothing else
IsKept-set_cases : (kept : List Bool) (place number : ℕ) → IsKept (set kept place true) number → (number ≡ place) ⊎ IsKept kept number
IsKept-set_cases kept place number is_kept =
    elim (cases_eq number place) [
      | inl same ↦ inl same
      | inr other ↦ inr (sym (get_or-set_other kept place number true false other) ∙ is_kept)
    ]

kept_count-set : (kept : List Bool) (place : ℕ) → place < length kept → get_or kept place false ≡ false → kept_count (set kept place true) ≡ kept_count kept + 1
kept_count-set kept place within dropped =
    let counts = sum_by-set (λ is_kept. cond is_kept 1 0) kept place true false within in
    let counted = rw dropped at counts in
    omega (arith, counted)

-- The step of this number is kept, and with what is kept so far also what it goes on from, but for the steps up to the current one.
pub record IsKeptDownTo (steps : List Step) (old : List Bool) (number : ℕ) (new : List Bool) (current : ℕ) : Type 0 where
  pub each : length new ≡ length steps + 1
  pub there : current < length new
  pub parents : (place : ℕ) (step : Step) → slice_get steps place ≡ Some step → IsKept new (place + 1) → IsKept new step.parent ⊎ (step.parent ≡ current)
  pub stay : (other : ℕ) → IsKept old other → IsKept new other
  pub too : IsKept new number ⊎ (number ≡ current)
  pub begins : IsPrefixOf (path_at (paths_of steps) current) (path_at (paths_of steps) number)
  pub only : (other : ℕ) → IsKept new other → IsKept old other ⊎ IsPrefixOf (path_at (paths_of steps) other) (path_at (paths_of steps) number)
  pub few : kept_count new + length (path_at (paths_of steps) current) ≤ kept_count old + length (path_at (paths_of steps) number)

pub IsKeptDownTo-none : (steps : List Step) (kept : List Bool) (number : ℕ) → IsClosed steps kept → number < length steps + 1
    → IsKeptDownTo steps kept number kept number
IsKeptDownTo-none steps kept number closed there = record {
  each = closed.each;
  there = omega (arith, closed.each);
  parents = λ place step step_there is_kept. inl (closed.parents place step step_there is_kept);
  stay = λ other is_kept. is_kept;
  too = inr refl;
  begins = IsPrefixOf-self (path_at (paths_of steps) number);
  only = λ other is_kept. inl is_kept;
  few = omega arith;
}

-- step 0 is kept, so where the current one is not, there is one that it goes on from
pub some_before : (steps : List Step) (old : List Bool) (number : ℕ) (new : List Bool) (current : ℕ) → IsClosed steps old
    → IsKeptDownTo steps old number new current → get_or new current false ≡ false → 0 < current
some_before steps old number new zero closed so_far dropped = absurd (both_ways _ dropped (so_far.stay 0 closed.first))
some_before steps old number new (suc current) closed so_far dropped = omega arith

-- the current one is kept
pub IsKeptDownTo-more : (steps : List Step) (old : List Bool) (number : ℕ) (new : List Bool) (current : ℕ) (step : Step) → AreSteps steps
    → IsKeptDownTo steps old number new current → get_or new current false ≡ false → 0 < current → slice_get steps (current - 1) ≡ Some step
    → IsKeptDownTo steps old number (set new current true) step.parent
IsKeptDownTo-more steps old number new current step are so_far dropped some there =
    let before : step.parent ≤ current - 1 = are.earlier (current - 1) step there in
    let here : current - 1 + 1 ≡ current = omega arith in
    let its_path = path_at-step steps (current - 1) step there before in
    let path_is : path_at (paths_of steps) current ≡ path_at (paths_of steps) step.parent ++ step.mark ∷ [] = ap (path_at (paths_of steps)) (sym here) ∙ its_path in
    record {
      each = length-set new current true ∙ so_far.each;
      there = rw length-set (omega (arith, so_far.there));
      parents = λ place other other_there is_kept.
          elim (IsKept-set_cases new current (place + 1) is_kept) [
            | inl same ↦
                let at_current : current - 1 ≡ place = omega arith in
                let same_step : step ≡ other = cc (ap (slice_get steps) at_current) in
                inr (ap (λ (s : Step). s.parent) (sym same_step))
            | inr was ↦ elim (so_far.parents place other other_there was) [
              | inl parent_kept ↦ inl (IsKept-set new current other.parent parent_kept)
              | inr parent_is ↦ inl (rw parent_is (IsKept-set_same new current so_far.there))
            ]
          ];
      stay = λ other was. IsKept-set new current other (so_far.stay other was);
      too = elim so_far.too [ inl was ↦ inl (IsKept-set new current number was) | inr is ↦ inl (rw is (IsKept-set_same new current so_far.there)) ];
      begins = IsPrefixOf-trans _ _ _ (step.mark ∷ [], path_is) so_far.begins;
      only = λ other is_kept.
          elim (IsKept-set_cases new current other is_kept) [
            | inl same ↦ inr (rw same so_far.begins)
            | inr was ↦ so_far.only other was
          ];
      few = omega (arith, so_far.few, kept_count-set new current so_far.there dropped, ap length path_is, length_push (path_at (paths_of steps) step.parent) step.mark);
    }

pub IsKeptDownTo-all : (steps : List Step) (old : List Bool) (number : ℕ) (new : List Bool) (current : ℕ) → IsClosed steps old
    → IsKeptDownTo steps old number new current → IsKept new current → IsAlsoKept steps old number new
IsKeptDownTo-all steps old number new current closed down is_kept = record {
  closed = record {
    each = down.each;
    first = down.stay 0 closed.first;
    parents = λ place step there step_kept. elim (down.parents place step there step_kept) [ inl parent_kept ↦ parent_kept | inr is ↦ rw is is_kept ];
  };
  stay = down.stay;
  too = elim down.too [ inl was ↦ was | inr is ↦ rw is is_kept ];
  only = down.only;
  few = omega (arith, down.few);
}

nothing_kept : (count number : ℕ) → IsKept (replicate count false) number → ⊥
nothing_kept zero number is_kept = false≢true is_kept
nothing_kept (suc count) zero is_kept = false≢true is_kept
nothing_kept (suc count) (suc number) is_kept = nothing_kept count number is_kept

none_counted : (count : ℕ) → kept_count (replicate count false) ≡ 0
none_counted zero = refl
none_counted (suc count) = none_counted count

-- step 0 alone is kept
pub AreReached-none : (steps : List Step) → AreReached steps [] (set (replicate (length steps + 1) false) 0 true)
AreReached-none steps =
    let kept = set (replicate (length steps + 1) false) 0 true in
    let room : 0 < length (replicate (length steps + 1) false) = rw length-replicate (omega arith) in
    let first : IsKept kept 0 = IsKept-set_same (replicate (length steps + 1) false) 0 room in
    let alone : (number : ℕ) → IsKept kept number → number ≡ 0 =
    λ number is_kept. elim (IsKept-set_cases (replicate (length steps + 1) false) 0 number is_kept) [ inl same ↦ same | inr was ↦ absurd (nothing_kept _ number was) ] in
    let dropped : get_or (replicate (length steps + 1) false) 0 false ≡ false = rw add-one refl in
    record {
      closed = record {
        each = length-set (replicate (length steps + 1) false) 0 true ∙ length-replicate (length steps + 1) false;
        first = first;
        parents = λ place step there is_kept. let none : place + 1 ≡ 0 = alone (place + 1) is_kept in absurd (omega arith);
      };
      reached = All-nil (IsKept kept);
      only = λ number is_kept. inl (ap (path_at (paths_of steps)) (alone number is_kept) ∙ path_at-first steps);
      few = omega (arith, kept_count-set (replicate (length steps + 1) false) 0 room dropped, none_counted (length steps + 1));
    }

BeginsOne-more : (paths : List (List Mark)) (path other : List Mark) → BeginsOne paths path → BeginsOne (paths ++ other ∷ []) path
BeginsOne-more paths path other (inl nothing) = inl nothing
BeginsOne-more paths path other (inr (k, one, within, there, begins)) =
    inr (k, one, omega (arith, length_push paths other), get_or_append_left paths (other ∷ []) one k within ∙ there, begins)

-- one given step more
pub AreReached-more : (steps : List Step) (given : List ℕ) (kept : List Bool) (number : ℕ) (new : List Bool) → AreReached steps given kept
    → IsAlsoKept steps kept number new → AreReached steps (given ++ number ∷ []) new
AreReached-more steps given kept number new so_far also =
    let path = path_at (paths_of steps) number in
    let paths = map (path_at (paths_of steps)) given in
    let more = map_push (path_at (paths_of steps)) given number in
    record {
      closed = also.closed;
      reached = All-push (IsKept new) given number (All-weaker (IsKept kept) (IsKept new) also.stay given so_far.reached) also.too;
      only = λ other is_kept.
          rw more (elim (also.only other is_kept) [
            | inl was ↦ BeginsOne-more paths (path_at (paths_of steps) other) path (so_far.only other was)
            | inr begins ↦ inr (Any-push (IsPrefixOf (path_at (paths_of steps) other)) paths path begins)
          ]);
      few = rw more (omega (arith, so_far.few, also.few, sum_by-append length paths (path ∷ [])));
    }
