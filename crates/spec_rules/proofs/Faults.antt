-- There is one first fault.
use Rattle.std.proofs.Common.{◌≡◌, ℕ, zero, suc, ◌<◌, inl, inr, refl, sym, ◌∙◌, ap, arith}
use Rattle.std.proofs.lemmas.Bool.{cases_lt}
use Rattle.spec_model.specs.declared.tree.Spec.{Spec}
use Rattle.spec_rules.specs.declared.fault.Fault.{Fault}
use Rattle.spec_rules.specs.declared.fault.Fault.TheVariants as faults
use Rattle.spec_rules.specs.declared.fault.Limit.{Limit}
use Rattle.spec_rules.specs.declared.fault.Limit.TheVariants as limits
use Rattle.spec_rules.specs.Accepted.{IsFirstBad}
use Rattle.spec_rules.specs.Fault.{IsBefore, kind_number, limit_number, which_number}

-- the limit of a number, and the fault of a kind's and a limit's number
limit_numbered : ℕ → Limit
limit_numbered (suc zero) = limits.Message
limit_numbered (suc (suc zero)) = limits.Conns
limit_numbered (suc (suc (suc zero))) = limits.WrittenConn
limit_numbered (suc (suc (suc (suc zero)))) = limits.Registers
limit_numbered (suc (suc (suc (suc (suc zero))))) = limits.Tables
limit_numbered (suc (suc (suc (suc (suc (suc zero)))))) = limits.Stmts
limit_numbered (suc (suc (suc (suc (suc (suc (suc zero))))))) = limits.Cases
limit_numbered (suc (suc (suc (suc (suc (suc (suc (suc zero)))))))) = limits.Items
limit_numbered (suc (suc (suc (suc (suc (suc (suc (suc (suc zero))))))))) = limits.Parts
limit_numbered (suc (suc (suc (suc (suc (suc (suc (suc (suc (suc zero)))))))))) = limits.Arms
limit_numbered _ = limits.Text

fault_numbered : ℕ → ℕ → Fault
fault_numbered (suc zero) which = faults.UnknownName
fault_numbered (suc (suc zero)) which = faults.DoubleName
fault_numbered (suc (suc (suc zero))) which = faults.WrongType
fault_numbered (suc (suc (suc (suc zero)))) which = faults.NoTake
fault_numbered (suc (suc (suc (suc (suc zero))))) which = faults.TakeInStart
fault_numbered (suc (suc (suc (suc (suc (suc zero)))))) which = faults.PickLength
fault_numbered (suc (suc (suc (suc (suc (suc (suc zero))))))) which = faults.TooManyCompares
fault_numbered _ which = faults.Limit (limit_numbered which)

limit_again : (limit : Limit) → limit_numbered (limit_number limit) ≡ limit
unfolding limit_numbered
limit_again limits.Message = refl
limit_again limits.Conns = refl
limit_again limits.WrittenConn = refl
limit_again limits.Registers = refl
limit_again limits.Tables = refl
limit_again limits.Stmts = refl
limit_again limits.Cases = refl
limit_again limits.Items = refl
limit_again limits.Parts = refl
limit_again limits.Arms = refl
limit_again limits.Text = refl

fault_again : (fault : Fault) → fault_numbered (kind_number fault) (which_number fault) ≡ fault
unfolding fault_numbered
fault_again faults.UnknownName = refl
fault_again faults.DoubleName = refl
fault_again faults.WrongType = refl
fault_again faults.NoTake = refl
fault_again faults.TakeInStart = refl
fault_again faults.PickLength = refl
fault_again faults.TooManyCompares = refl
fault_again (faults.Limit limit) = ap faults.Limit (limit_again limit)

same_numbers : (fault other : Fault) → kind_number fault ≡ kind_number other → which_number fault ≡ which_number other → fault ≡ other
same_numbers fault other kinds whiches =
    sym (fault_again fault) ∙ ap (λ kind. fault_numbered kind (which_number fault)) kinds ∙ ap (fault_numbered (kind_number other)) whiches ∙ fault_again other

-- two numbers of which neither is less are equal
neither_less : (a b : ℕ) → (a < b → ⊥) → (b < a → ⊥) → a ≡ b
neither_less a b not_less not_greater = elim (cases_lt a b) [
  | inl less ↦ absurd (not_less less)
  | inr at_most ↦ elim (cases_lt b a) [ inl greater ↦ absurd (not_greater greater) | inr at_least ↦ omega (arith, at_most, at_least) ]
]

-- of two faults of which neither is before the other
neither_before : (fault other : Fault) (at other_at : ℕ) → ¬ IsBefore at fault other_at other → ¬ IsBefore other_at other at fault → (fault ≡ other) × (at ≡ other_at)
neither_before fault other at other_at first other_first =
    let here = neither_less at other_at (λ less. first (inl less)) (λ less. other_first (inl less)) in
    let kinds = neither_less (kind_number fault) (kind_number other) (λ less. first (inr (here, inl less))) (λ less. other_first (inr (sym here, inl less))) in
    let whiches = neither_less (which_number fault) (which_number other)
    (λ less. first (inr (here, inr (kinds, less)))) (λ less. other_first (inr (sym here, inr (sym kinds, less)))) in
    (same_numbers fault other kinds whiches, here)

pub same_first : (spec : Spec) (fault other : Fault) (at other_at : ℕ) → IsFirstBad spec fault at → IsFirstBad spec other other_at → (fault ≡ other) × (at ≡ other_at)
same_first spec fault other at other_at first other_first =
    neither_before fault other at other_at (other_first.first fault at first.bad) (first.first other other_at other_first.bad)
