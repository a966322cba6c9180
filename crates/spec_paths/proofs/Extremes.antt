-- Greatest and least numbers with a property.
use Rattle.std.proofs.Common.{◌≡◌, ℕ, ◌+◌, ◌≤◌, ◌⊎◌, inl, inr, Option, Some, None, refl, arith, subst}
use Rattle.std.specs.Prelude.{min}
use Rattle.std.proofs.lemmas.Bool.{cases_lt}
use Rattle.spec_paths.specs.Bounds.{IsGreatest, IsLeast, greater_of, lesser_of, one_more}

-- equivalent properties have the same greatest number, and the same least
pub greatest_of_same : (P Q : ℕ → Type 0) (greatest : Option ℕ) → ((number : ℕ) → P number → Q number) → ((number : ℕ) → Q number → P number)
    → IsGreatest P greatest → IsGreatest Q greatest
greatest_of_same P Q None there back none = λ number has. none number (back number has)
greatest_of_same P Q (Some counted) there back (most, has, none_more, is) = (most, there most has, λ number other. none_more number (back number other), is)

pub least_of_same : (P Q : ℕ → Type 0) (least : Option ℕ) → ((number : ℕ) → P number → Q number) → ((number : ℕ) → Q number → P number)
    → IsLeast P least → IsLeast Q least
least_of_same P Q None there back none = λ number has. none number (back number has)
least_of_same P Q (Some least) there back (has, none_less) = (there least has, λ number other. none_less number (back number other))

-- the greatest number with either property, and the least
pub greatest_of_either : (P Q : ℕ → Type 0) (a b : Option ℕ) → IsGreatest P a → IsGreatest Q b → IsGreatest (λ number. P number ⊎ Q number) (greater_of a b)
greatest_of_either P Q None None none neither = λ number has. elim has [ inl p ↦ none number p | inr q ↦ neither number q ]
greatest_of_either P Q None (Some b) none (most, has, none_more, is) =
    (most, inr has, λ number either. elim either [ inl p ↦ absurd (none number p) | inr q ↦ none_more number q ], is)
greatest_of_either P Q (Some a) None (most, has, none_more, is) none =
    (most, inl has, λ number either. elim either [ inl p ↦ none_more number p | inr q ↦ absurd (none number q) ], is)
greatest_of_either P Q (Some a) (Some b) (most, has, none_more, is) (other, other_has, none_other, other_is) =
    elim (cases_lt most other) [
      | inl less ↦ (
        other,
        inr other_has,
        λ number either. elim either [
          | inl p ↦ (let below : number ≤ most = none_more number p in omega arith)
          | inr q ↦ none_other number q
        ],
        omega (arith, is, other_is, less),
      )
      | inr at_least ↦ (
        most,
        inl has,
        λ number either. elim either [
          | inl p ↦ none_more number p
          | inr q ↦ (let below : number ≤ other = none_other number q in omega arith)
        ],
        omega (arith, is, other_is, at_least),
      )
    ]

pub least_of_either : (P Q : ℕ → Type 0) (a b : Option ℕ) → IsLeast P a → IsLeast Q b → IsLeast (λ number. P number ⊎ Q number) (lesser_of a b)
least_of_either P Q None None none neither = λ number has. elim has [ inl p ↦ none number p | inr q ↦ neither number q ]
least_of_either P Q None (Some b) none (has, none_less) =
    (inr has, λ number either. elim either [ inl p ↦ absurd (none number p) | inr q ↦ none_less number q ])
least_of_either P Q (Some a) None (has, none_less) none =
    (inl has, λ number either. elim either [ inl p ↦ none_less number p | inr q ↦ absurd (none number q) ])
least_of_either P Q (Some a) (Some b) (has, none_less) (other_has, none_other) = (
  elim (cases_lt a b) [
    | inl less ↦ (let is : a ≡ min a b = omega arith in inl (subst P is has))
    | inr at_least ↦ (let is : b ≡ min a b = omega arith in inr (subst Q is other_has))
  ],
  λ number either. elim either [
    | inl p ↦ (let least : a ≤ number = none_less number p in omega arith)
    | inr q ↦ (let least : b ≤ number = none_other number q in omega arith)
  ],
)

-- one more than a number with the property
abbrev pub IsOneMore : (ℕ → Type 0) → ℕ → Type 0
IsOneMore P number = (before : ℕ) × P before × (number ≡ 1 + before)

pub greatest_of_one_more : (P : ℕ → Type 0) (greatest : Option ℕ) → IsGreatest P greatest → IsGreatest (IsOneMore P) (one_more greatest)
greatest_of_one_more P None none = λ number more. none more.0 more.1
greatest_of_one_more P (Some counted) (most, has, none_more, is) = (
  1 + most,
  (most, has, refl),
  λ number more. (let below : more.0 ≤ most = none_more more.0 more.1 in let one : number ≡ 1 + more.0 = more.2 in omega arith),
  omega (arith, is),
)
