use Rattle.std.proofs.Common.{rules, tests, true, false, ◌≡◌, ◌<◌, ◌≤◌, ◌⊎◌, inl, inr, ⊎_elim, length, List, [], ◌∷◌, ◌++◌, Some, sym, ◌∙◌, subst, arith, length-append}
use Rattle.std.proofs.lemmas.Bool.{cases_lt}
use Rattle.std.proofs.lemmas.List.{get_or_append_left, get_or_at}
use Rattle.std.specs.List.{Any}
use Rattle.std.specs.Option.{option_eq}
use Rattle.spec_model.specs.declared.event.Mark.{Mark}
use Rattle.spec_model.specs.declared.event.Mark.TheVariants.{Take, Arm, Test, Pick, Send}
use Rattle.spec_model.specs.contracts.event.MarkPartialEq.TheImpl.{eq-value as mark_eq}
use Rattle.hypothesis.proofs.along.made_by.Goals as goal

is_itself : (mark : Mark) → mark_eq.it mark mark ≡ true
is_itself (Take conn) = search (rules, tests)
is_itself (Arm arm) = search (rules, tests)
is_itself (Test outcome) = search (rules, tests)
is_itself Pick = search (rules, tests)
is_itself (Send conn) = search (rules, tests)

-- what holds of an item of a list with one more at the end holds of one before it, or of the last
any_before_or_last : {A : Type 0} (P : A → Type 0) (list : List A) (last : A) → Any P (list ++ last ∷ []) → Any P list ⊎ P last
any_before_or_last {A} P list last (place, item, within, at, holds) = by_place (cases_lt place (length list))
  where
    by_place : (place < length list) ⊎ (length list ≤ place) → Any P list ⊎ P last
    by_place (inl before) = inl (place, item, before, sym (get_or_append_left list (last ∷ []) item place before) ∙ at, holds)
    by_place (inr behind) =
        let there : length list ≡ place = omega (arith, length-append list (last ∷ [])) in
        let same : last ≡ item = sym (get_or_at list last [] item place there) ∙ at in
        inr (subst P (sym same) holds)

pub loop-hypothesis-preserved : goal.loop-hypothesis-preserved
loop-hypothesis-preserved c some = ⊎_elim c.loop-hypothesis.invariant (λ made. not_last made) (any_before_or_last _ c.loop-hypothesis.yielded c.in-Some.hypothesis some)
  where
    not_last : c.in-Some.hypothesis.mark ≡ Some c.args.mark → ⊥
    not_last made =
        let told : false ≡ option_eq mark_eq.it c.mark.result (Some c.args.mark) = c.if-eq.ensures in
        let same : c.mark.result ≡ Some c.args.mark = c.mark.ensures ∙ made in
        let shown : false ≡ mark_eq.it c.args.mark c.args.mark = rw same at told in
        absurd (cc (is_itself c.args.mark))
