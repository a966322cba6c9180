-- The order of skeletons.
use Rattle.std.proofs.Common.{◌≡◌, ◌⊎◌, inl, inr, true, false, List, [], ◌∷◌, ◌++◌, refl, sym, ◌∙◌, ap, subst, arith, append-nil}
use Rattle.spec_model.specs.declared.event.Mark.{Mark}
use Rattle.spec_model.specs.declared.event.Mark.TheVariants.{Arm, Take, Test}
use Rattle.spec_model.specs.Skeleton.{ComesBefore, Precedes}

-- The order is transitive.
comes_before_joined : (one other third : Mark) → ComesBefore one other → ComesBefore other third → ComesBefore one third
comes_before_joined (Take conn) (Take other) (Take third) first second = omega arith
comes_before_joined (Take conn) (Take other) _ first second = absurd second
comes_before_joined (Arm arm) (Arm other) (Arm third) first second = omega arith
comes_before_joined (Arm arm) (Arm other) _ first second = absurd second
comes_before_joined (Test true) (Test false) _ first second = absurd second
comes_before_joined _ _ _ first second = absurd first

pub precedes_joined : (one other third : List Mark) → Precedes one other → Precedes other third → Precedes one third
precedes_joined [] other third first second = absurd first
precedes_joined (mark ∷ one) [] third first second = absurd first
precedes_joined (mark ∷ one) (next ∷ other) [] first second = absurd second
precedes_joined (mark ∷ one) (next ∷ other) (last ∷ third) (inl first) (inl second) = inl (comes_before_joined mark next last first second)
precedes_joined (mark ∷ one) (next ∷ other) (last ∷ third) (inl first) (inr (same, second)) = inl (subst (λ m. ComesBefore mark m) same first)
precedes_joined (mark ∷ one) (next ∷ other) (last ∷ third) (inr (same, first)) (inl second) = inl (subst (λ m. ComesBefore m last) (sym same) second)
precedes_joined (mark ∷ one) (next ∷ other) (last ∷ third) (inr (same, first)) (inr (equal, second)) = inr (same ∙ equal, precedes_joined one other third first second)

-- Nothing comes before itself.
before_itself : (mark : Mark) → ComesBefore mark mark → ⊥
before_itself (Take conn) before = omega (arith, before)
before_itself (Arm arm) before = omega (arith, before)
before_itself (Test true) before = before
before_itself (Test false) before = before
before_itself _ before = before

pub precedes_itself : (skeleton : List Mark) → Precedes skeleton skeleton → ⊥
precedes_itself [] precedes = precedes
precedes_itself (mark ∷ skeleton) (inl before) = before_itself mark before
precedes_itself (mark ∷ skeleton) (inr (same, precedes)) = precedes_itself skeleton precedes

-- Skeletons that are ordered stay so where both go on.
pub precedes_longer : (one other more most : List Mark) → Precedes one other → Precedes (one ++ more) (other ++ most)
precedes_longer [] [] more most precedes = absurd precedes
precedes_longer [] (second ∷ other) more most precedes = absurd precedes
precedes_longer (first ∷ one) [] more most precedes = absurd precedes
precedes_longer (first ∷ one) (second ∷ other) more most (inl before) = inl before
precedes_longer (first ∷ one) (second ∷ other) more most (inr (same, precedes)) = inr (same, precedes_longer one other more most precedes)

-- So they do where one goes on.
pub precedes_going_on : (one other more : List Mark) → Precedes one other → Precedes one (other ++ more)
precedes_going_on one other more precedes =
    subst (λ front. Precedes front (other ++ more)) (append-nil one) (precedes_longer one other [] more precedes)

pub goes_on_before : (one other more : List Mark) → Precedes one other → Precedes (one ++ more) other
goes_on_before one other more precedes = subst (Precedes (one ++ more)) (append-nil other) (precedes_longer one other more [] precedes)

-- Of one skeleton that goes on by two marks, the one comes first that goes on by the lesser mark.
pub precedes_by_mark : (front : List Mark) (mark other : Mark) → ComesBefore mark other → Precedes (front ++ mark ∷ []) (front ++ other ∷ [])
precedes_by_mark [] mark other before = inl before
precedes_by_mark (first ∷ front) mark other before = inr (refl, precedes_by_mark front mark other before)

-- the same skeleton, or an earlier one
abbrev pub IsUpTo : List Mark → List Mark → Type 0
IsUpTo one other = (one ≡ other) ⊎ Precedes one other

pub up_to_joined : (one other third : List Mark) → IsUpTo one other → IsUpTo other third → IsUpTo one third
up_to_joined one other third (inl same) second = subst (λ s. IsUpTo s third) (sym same) second
up_to_joined one other third (inr first) (inl same) = inr (subst (Precedes one) same first)
up_to_joined one other third (inr first) (inr second) = inr (precedes_joined one other third first second)

pub up_to_longer : (one other more : List Mark) → IsUpTo one other → IsUpTo (one ++ more) (other ++ more)
up_to_longer one other more (inl same) = inl (ap (λ front. front ++ more) same)
up_to_longer one other more (inr precedes) = inr (precedes_longer one other more more precedes)

pub not_up_to_earlier : (one other : List Mark) → Precedes one other → IsUpTo other one → ⊥
not_up_to_earlier one other precedes (inl same) = precedes_itself one (subst (Precedes one) same precedes)
not_up_to_earlier one other precedes (inr back) = precedes_itself one (precedes_joined one other one precedes back)
