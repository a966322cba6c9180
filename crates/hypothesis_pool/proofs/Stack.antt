-- A search ends: what is ahead stands for less and less that may still be done.
use Rattle.std.proofs.Common.{◌≡◌, ℕ, zero, suc, ◌+◌, ◌*◌, ◌^◌, ◌<◌, ◌≤◌, All, List, [], ◌∷◌, ◌++◌, length, reverse, refl, ◌∙◌, ap, arith}
use Rattle.std.proofs.lemmas.List.{reverse-append}
use Rattle.std.proofs.lemmas.List.Elements.{All-head, All-tail, All-weaker}
use Rattle.std.proofs.Math.Nat.{mul-le-mul_right}
use Rattle.spec_model.specs.declared.event.ClientEvent.{ClientEvent}
use Rattle.spec_rules.specs.Accepted.{IsAccepted}
use Rattle.dual_tree.specs.Dual.{DualFields, IsDual}
use Rattle.hypothesis.specs.declared.hypothesis.Hypothesis.{Hypothesis}
use Rattle.hypothesis_pool.specs.Search.{IsOneFurther, ReplacesLast}
use Rattle.hypothesis_pool.proofs.Effort.{effort, effort_falls}

-- What so much to do weighs: more than all that less than 2^64 others weigh which have less to do.
abbrev pub weight : ℕ → ℕ
weight zero = 1
weight (suc to_do) = weight to_do * 2 ^ 64

weight_positive : (to_do : ℕ) → 0 < weight to_do
weight_positive zero = omega arith
weight_positive (suc to_do) = let less = weight_positive to_do in omega (arith, less)

weight_of_less : (less more : ℕ) → less ≤ more → weight less ≤ weight more
weight_of_less zero more within = weight_positive more
weight_of_less (suc less) zero within = absurd (omega (arith, within))
weight_of_less (suc less) (suc more) within = let before = weight_of_less less more (omega (arith, within)) in omega (arith, before)

module _ (dual : DualFields) (fed : List ClientEvent) where
  -- what all of these weigh
  abbrev pub all_weight : List Hypothesis → ℕ
  all_weight [] = 0
  all_weight (h ∷ hs) = weight (effort dual fed h) + all_weight hs

  all_weight-append : (hs more : List Hypothesis) → all_weight (hs ++ more) ≡ all_weight hs + all_weight more
  all_weight-append [] more = omega arith
  all_weight-append (h ∷ hs) more = let later = all_weight-append hs more in omega (arith, later)

  all_weight-reverse : (hs : List Hypothesis) → all_weight (reverse hs) ≡ all_weight hs
  all_weight-reverse [] = refl
  all_weight-reverse (h ∷ hs) =
      let turned = ap all_weight (reverse-append (h ∷ []) hs) in
      let parts = all_weight-append (reverse hs) (h ∷ []) in
      let later = all_weight-reverse hs in
      omega (arith, turned, parts, later)

  all_within : (hs : List Hypothesis) (most : ℕ) → All (λ h. effort dual fed h ≤ most) hs → all_weight hs ≤ length hs * weight most
  all_within [] most all = omega arith
  all_within (h ∷ hs) most all =
      let first = weight_of_less (effort dual fed h) most (All-head (λ h. effort dual fed h ≤ most) h hs all) in
      let later = all_within hs most (All-tail (λ h. effort dual fed h ≤ most) h hs all) in
      let split : (length hs + 1) * weight most ≡ length hs * weight most + weight most = omega arith in
      omega (arith, first, later, split)

  few_weigh_less : (count most : ℕ) → count < 2 ^ 64 → count * weight most < weight (suc most)
  few_weigh_less count most few =
      let grown : count * weight most ≤ 18446744073709551615 * weight most = mul-le-mul_right (weight most) (omega (arith, few)) in
      let some = weight_positive most in
      omega (arith, grown, some)

  weigh_less : (most : ℕ) (hs : List Hypothesis) → length hs < 2 ^ 64 → All (λ h. effort dual fed h < most) hs → all_weight hs < weight most
  weigh_less most [] few all = weight_positive most
  weigh_less zero (h ∷ hs) few all = let none = All-head (λ h. effort dual fed h < zero) h hs all in absurd (omega (arith, none))
  weigh_less (suc most) (h ∷ hs) few all =
      let within = all_within (h ∷ hs) most (All-weaker (λ h. effort dual fed h < suc most) (λ h. effort dual fed h ≤ most) (λ h less. omega (arith, less)) (h ∷ hs) all) in
      let less = few_weigh_less (length (h ∷ hs)) most few in
      omega (arith, within, less)

  module _ (is_dual : IsDual dual) (accepted : IsAccepted dual.spec) where
    further_has_less : (taken new : Hypothesis) → IsOneFurther dual fed taken new → effort dual fed new < effort dual fed taken
    further_has_less taken new further =
        effort_falls dual fed is_dual accepted further.skeleton further.mark [] taken new further.stands further.further

    -- What stands in place of the one that was taken weighs less than it did.
    pub replaced_weighs_less : (taken : Hypothesis) (ahead new_ahead : List Hypothesis) → ReplacesLast dual fed taken ahead new_ahead
        → all_weight new_ahead < all_weight (ahead ++ taken ∷ [])
    replaced_weighs_less taken ahead new_ahead replaces =
        let whole = ap all_weight replaces.whole ∙ all_weight-append ahead (reverse replaces.more) in
        let turned = all_weight-reverse replaces.more in
        let before = all_weight-append ahead (taken ∷ []) in
        let less = weigh_less (effort dual fed taken) replaces.more replaces.few
        (All-weaker (IsOneFurther dual fed taken) (λ h. effort dual fed h < effort dual fed taken) (further_has_less taken) replaces.more replaces.further) in
        omega (arith, whole, turned, before, less)
