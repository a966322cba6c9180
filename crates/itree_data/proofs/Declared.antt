-- The names that an accepted specification declares are distinct.
use Rattle.std.proofs.Common.{◌≡◌, ℕ, suc, inl, Bool, true, false, List, [], ◌∷◌, ◌++◌, take, Some, refl, sym, ◌∙◌, ap, subst, append_assoc, append-nil}
use Rattle.std.specs.Prelude.{slice_get, bytes_eq}
use Rattle.std.specs.List.{list_any}
use Rattle.std.proofs.lemmas.Slice.Eq.{bytes_eq-Decides}
use Rattle.spec_model.specs.declared.tree.Decl.{Decl}
use Rattle.spec_model.specs.declared.tree.Spec.{Spec}
use Rattle.spec_rules.specs.declared.fault.Fault.TheVariants as faults
use Rattle.spec_rules.specs.Accepted.{IsAccepted}
use Rattle.spec_rules.specs.Names.{is_known, names_declared}
use Rattle.itree_data.proofs.Stored.{declared_names}
use Rattle.itree_data.proofs.Updates.{Distinct}

-- No declaration declares a name that is known before it.
abbrev AllNew : List Decl → List Decl → Type 0
AllNew before decls = (number : ℕ) (decl : Decl) → slice_get decls number ≡ Some decl → is_known (names_declared (before ++ take number decls)) decl.name ≡ false

one_later : (before : List Decl) (decl : Decl) (decls : List Decl) → AllNew before (decl ∷ decls) → AllNew (before ++ decl ∷ []) decls
one_later before decl decls new number other is =
    ap (λ known. is_known (names_declared known) other.name) (append_assoc before (decl ∷ []) (take number decls)) ∙ new (suc number) other is

known_step : (first : Decl) (decls : List Decl) (name : List ℕ) (b : Bool) → bytes_eq first.name name ≡ b → is_known (names_declared decls) name ≡ true
    → is_known (names_declared (first ∷ decls)) name ≡ true
known_step first decls name true e later = rw e refl
known_step first decls name false e later = rw e later

known_again : (before after : List Decl) (decl : Decl) (name : List ℕ) → bytes_eq decl.name name ≡ true → is_known (names_declared ((before ++ decl ∷ []) ++ after)) name ≡ true
known_again [] after decl name same = rw same refl
known_again (first ∷ before) after decl name same = known_step first _ name (bytes_eq first.name name) refl (known_again before after decl name same)

module _ (which : Decl → Bool) where
  none_step : (name : List ℕ) (decl : Decl) (decls : List Decl) (b : Bool) → which decl ≡ b → bytes_eq decl.name name ≡ false
      → list_any (λ other. bytes_eq other name) (declared_names which decls) ≡ false → list_any (λ other. bytes_eq other name) (declared_names which (decl ∷ decls)) ≡ false
  none_step name decl decls true is differs later = rw (is, differs) later
  none_step name decl decls false is differs later = rw is later

  differs : (before after : List Decl) (decl other : Decl) (b : Bool) → bytes_eq other.name decl.name ≡ b
      → is_known (names_declared (((before ++ decl ∷ []) ++ after) ++ [])) other.name ≡ false → bytes_eq other.name decl.name ≡ false
  differs before after decl other false e new = e
  differs before after decl other true e new =
      let same : bytes_eq decl.name other.name ≡ true = (bytes_eq-Decides decl.name other.name).1 (sym ((bytes_eq-Decides other.name decl.name).0 e)) in
      let known = known_again before after decl other.name same in
      absurd (let wrong = sym known ∙ ap (λ known. is_known (names_declared known) other.name) (sym (append-nil ((before ++ decl ∷ []) ++ after))) ∙ new in cc)

  none_later : (decls before after : List Decl) (decl : Decl) → AllNew ((before ++ decl ∷ []) ++ after) decls
      → list_any (λ other. bytes_eq other decl.name) (declared_names which decls) ≡ false
  none_later [] before after decl new = refl
  none_later (other ∷ decls) before after decl new =
      none_step decl.name other decls (which other) refl (differs before after decl other (bytes_eq other.name decl.name) refl (new 0 other refl))
      (none_later decls before (after ++ other ∷ []) decl
      (subst (λ known. AllNew known decls) (append_assoc (before ++ decl ∷ []) after (other ∷ [])) (one_later ((before ++ decl ∷ []) ++ after) other decls new)))

  distinct_step : (decl : Decl) (decls : List Decl) (b : Bool) → which decl ≡ b → list_any (λ other. bytes_eq other decl.name) (declared_names which decls) ≡ false
      → Distinct (declared_names which decls) → Distinct (declared_names which (decl ∷ decls))
  distinct_step decl decls true is none later = rw is (none, later)
  distinct_step decl decls false is none later = rw is later

  all_distinct : (before decls : List Decl) → AllNew before decls → Distinct (declared_names which decls)
  all_distinct before [] new = tt
  all_distinct before (decl ∷ decls) new =
      distinct_step decl decls (which decl) refl
      (none_later decls before [] decl (subst (λ known. AllNew known decls) (sym (append-nil (before ++ decl ∷ []))) (one_later before decl decls new)))
      (all_distinct (before ++ decl ∷ []) decls (one_later before decl decls new))

not_again : (b : Bool) → (b ≡ true → ⊥) → b ≡ false
not_again true never = absurd (never refl)
not_again false never = refl

pub declared_distinct : (spec : Spec) → IsAccepted spec → (which : Decl → Bool) → Distinct (declared_names which spec.decls)
declared_distinct spec accepted which =
    all_distinct which [] spec.decls
    (λ number decl is. not_again (is_known (names_declared (take number spec.decls)) decl.name)
    (λ again. accepted.none_bad faults.DoubleName decl.at (inl (record { number = number; decl = decl; stands = is; passes = again; here = refl }))))
