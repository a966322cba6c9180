-- Options tell the picks and arms of an accepted specification whole.
use Rattle.std.proofs.Common.{◌≡◌, ◌≤◌, inl, inr, List, [], ◌∷◌, length, Bool, true, false, not, ◌&&◌, nat_le, refl, subst, arith}
use Rattle.std.specs.List.{AllByRecursion}
use Rattle.std.proofs.lemmas.Bool.{cases_lt, leb-true, lt-ltb}
use Rattle.spec_model.specs.declared.config.Task.{Task}
use Rattle.spec_model.specs.declared.config.Task.TheVariants.{Do, Forget}
use Rattle.spec_model.specs.declared.tree.Kind.TheOpen.{Recv, Send, Pick, Assign, If, Either, Assume, Put, Lookup, Delete}
use Rattle.spec_model.specs.declared.tree.Spec.{Spec}
use Rattle.spec_model.specs.declared.tree.Stmt.{Stmt}
use Rattle.spec_model.specs.Config.{StmtKind, kind_of}
use Rattle.spec_rules.specs.declared.fault.Fault.TheVariants as faults
use Rattle.spec_rules.specs.declared.fault.Limit.TheVariants as limits
use Rattle.spec_rules.specs.declared.names.Known.{Known}
use Rattle.spec_rules.specs.Accepted.{IsAccepted}
use Rattle.spec_rules.specs.Bad.{has_bad_length, has_too_many_arms}
use Rattle.spec_rules.specs.ToDo.{IsStmtOf, IsTaskOf}
use Rattle.server_run.specs.Options.{is_told, is_told_at}

second_passed : (first second : Bool) → (not (first && second) ≡ true → ⊥) → second ≡ true
second_passed true true within = refl
second_passed true false within = absurd (within refl)
second_passed false second within = absurd (within refl)

told_kind : (known : List Known) (kind : StmtKind) → (has_bad_length known kind ≡ true → ⊥) → (has_too_many_arms known kind ≡ true → ⊥) → is_told kind ≡ true
told_kind known (Pick name len alphabet) length_within arms_within =
    let most : len ≤ 32 = leb-true len 32 (second_passed (nat_le 6 len) (nat_le len 32) length_within) in lt-ltb len 256 (omega (arith, most))
told_kind known (Either arms) length_within arms_within = elim (cases_lt 16 (length arms)) [
  | inl more ↦ absurd (arms_within (lt-ltb 16 (length arms) more))
  | inr most ↦ lt-ltb (length arms) 65536 (omega (arith, most))
]
told_kind known (Recv chan cases other block) length_within arms_within = refl
told_kind known (Send conn parts) length_within arms_within = refl
told_kind known (Assign name left tail) length_within arms_within = refl
told_kind known (If cond holds fails) length_within arms_within = refl
told_kind known (Assume cond) length_within arms_within = refl
told_kind known (Put table key value) length_within arms_within = refl
told_kind known (Lookup table key name found missing) length_within arms_within = refl
told_kind known (Delete table key) length_within arms_within = refl

told_stmt : (spec : Spec) (stmt : Stmt) → IsAccepted spec → IsStmtOf spec stmt → is_told (kind_of stmt) ≡ true
told_stmt spec stmt accepted stands =
    subst (λ s. is_told (kind_of s) ≡ true) stands.is (told_kind stands.place.known (kind_of stands.place.stmt)
    (λ bad. accepted.none_bad faults.PickLength stands.place.stmt.at (record { place = stands.place; stands = stands.stands; passes = bad; here = refl }))
    (λ bad. accepted.none_bad (faults.Limit limits.Arms) stands.place.stmt.at (record { place = stands.place; stands = stands.stands; passes = bad; here = refl })))

-- what comes first of what is to do is told
pub told : (spec : Spec) (todo : List Task) → IsAccepted spec → AllByRecursion (IsTaskOf spec) todo → is_told_at todo ≡ true
told spec [] accepted tasks = refl
told spec (Forget count ∷ rest) accepted tasks = refl
told spec (Do stmt passed ∷ rest) accepted tasks = told_stmt spec stmt accepted tasks.0
