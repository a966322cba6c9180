-- Names that are known, put together from parts.
use Rattle.std.proofs.Common.{◌≡◌, ℕ, ◌+◌, ◌<◌, ◌||◌, true, false, List, [], ◌∷◌, ◌++◌, length, take, drop, get_or, Option, Some, None, is_some, option_map, refl, sym, ap, ◌∙◌, append_assoc, bytes_eq}
use Rattle.std.proofs.lemmas.List.{drop_more, take_more}
use Rattle.std.proofs.lemmas.List.Folds.{find-append}
use Rattle.std.specs.Option.{option_or}
use Rattle.std.specs.List.{find}
use Rattle.spec_rules.specs.declared.names.Known.{Known}
use Rattle.spec_rules.specs.Names.{binds_known, is_known}

is_some-or : (a b : Option Known) → is_some (option_map (λ (one : Known). one.meaning) (option_or a b)) ≡ (is_some (option_map (λ (one : Known). one.meaning) a) || is_some (option_map (λ (one : Known). one.meaning) b))
is_some-or None b = refl
is_some-or (Some one) b = refl

-- A name is known where it is known in one of two lists.
pub is_known-append : (known more : List Known) (name : List ℕ) → is_known (known ++ more) name ≡ (is_known known name || is_known more name)
is_known-append known more name =
    ap (λ found. is_some (option_map (λ (one : Known). one.meaning) found)) (find-append (λ (one : Known). bytes_eq one.name name) known more)
    ∙ is_some-or (find (λ (one : Known). bytes_eq one.name name) known) (find (λ (one : Known). bytes_eq one.name name) more)

-- one more of the bound names
pub binds_known-next : (known bound : List Known) (i : ℕ) (one : Known) → i < length bound → one ≡ get_or bound i one
    → binds_known (known ++ take i bound) (drop i bound)
    ≡ ((is_known known one.name || is_known (take i bound) one.name) || binds_known (known ++ take (i + 1) bound) (drop (i + 1) bound))
binds_known-next known bound i one lt is =
    let rest : drop i bound ≡ one ∷ drop (i + 1) bound = drop_more bound i one lt ∙ ap (λ x. x ∷ drop (i + 1) bound) (sym is) in
    let front : (known ++ take i bound) ++ one ∷ [] ≡ known ++ take (i + 1) bound =
    append_assoc known (take i bound) (one ∷ []) ∙ ap (λ xs. known ++ xs) (sym (take_more bound i one lt ∙ ap (λ x. take i bound ++ x ∷ []) (sym is))) in
    ap (binds_known (known ++ take i bound)) rest
    ∙ rw (is_known-append known (take i bound) one.name, front) refl

-- The next of the bound names is known already, or it is not, and the names behind it decide.
pub binds_known-hit : (known bound : List Known) (i : ℕ) (one : Known) → i < length bound → one ≡ get_or bound i one
    → (is_known known one.name || is_known (take i bound) one.name) ≡ true → binds_known (known ++ take i bound) (drop i bound) ≡ true
binds_known-hit known bound i one lt is hit =
    binds_known-next known bound i one lt is ∙ ap (λ found. found || binds_known (known ++ take (i + 1) bound) (drop (i + 1) bound)) hit

pub binds_known-miss : (known bound : List Known) (i : ℕ) (one : Known) → i < length bound → one ≡ get_or bound i one
    → is_known known one.name ≡ false → is_known (take i bound) one.name ≡ false
    → binds_known (known ++ take i bound) (drop i bound) ≡ binds_known (known ++ take (i + 1) bound) (drop (i + 1) bound)
binds_known-miss known bound i one lt is not_known not_before =
    binds_known-next known bound i one lt is
    ∙ ap (λ found. (found || is_known (take i bound) one.name) || binds_known (known ++ take (i + 1) bound) (drop (i + 1) bound)) not_known
    ∙ ap (λ found. found || binds_known (known ++ take (i + 1) bound) (drop (i + 1) bound)) not_before
