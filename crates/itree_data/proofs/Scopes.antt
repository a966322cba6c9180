-- Scopes grow by one name after the other.
use Rattle.std.proofs.Common.{◌≡◌, ℕ, ◌+◌, ◌<◌, List, [], ◌∷◌, ◌++◌, length, get_or, take, refl, sym, ◌∙◌, ap, append_assoc, append-nil}
use Rattle.std.proofs.lemmas.List.{take_more}
use Rattle.spec_model.specs.declared.tree.Stmt.{Stmt}
use Rattle.spec_model.specs.Config.{kind_of}
use Rattle.spec_rules.specs.declared.names.Known.{Known}
use Rattle.spec_rules.specs.Place.{bound_behind}
use Rattle.itree_data.specs.Scope.{bound_by}

pub take_next : {A : Type 0} (xs : List A) (i : ℕ) (x : A) → i < length xs → x ≡ get_or xs i x → take (i + 1) xs ≡ take i xs ++ x ∷ []
take_next xs i x within is = take_more xs i x within ∙ ap (λ x. take i xs ++ x ∷ []) (sym is)

pub bound_append : (stmts more : List Stmt) → bound_by (stmts ++ more) ≡ bound_by stmts ++ bound_by more
bound_append [] more = refl
bound_append (stmt ∷ stmts) more =
    ap (λ later. bound_behind (kind_of stmt) ++ later) (bound_append stmts more) ∙ sym (append_assoc (bound_behind (kind_of stmt)) (bound_by stmts) (bound_by more))

pub bound_next_stmt : (scope after next : List Known) (stmts : List Stmt) (i : ℕ) (stmt : Stmt) → i < length stmts → stmt ≡ get_or stmts i stmt
    → after ≡ scope ++ bound_by (take i stmts) → next ≡ after ++ bound_behind (kind_of stmt) → next ≡ scope ++ bound_by (take (i + 1) stmts)
bound_next_stmt scope after next stmts i stmt within is before grown =
    let bound = bound_behind (kind_of stmt) in
    grown ∙ ap (λ after. after ++ bound) before ∙ append_assoc scope (bound_by (take i stmts)) bound
    ∙ ap (λ more. scope ++ (bound_by (take i stmts) ++ more)) (sym (append-nil bound))
    ∙ ap (λ names. scope ++ names) (sym (bound_append (take i stmts) (stmt ∷ [])) ∙ ap bound_by (sym (take_next stmts i stmt within is)))
