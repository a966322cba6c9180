-- What is known when two atoms differ.
use Rattle.std.proofs.Common.{◌≡◌, ◌≢◌, ℕ, ◌+◌, ◌<◌, ◌≤◌, Bool, true, false, not, cond, List, [], ◌∷◌, ◌++◌, length, refl, sym, ◌∙◌, ap, subst, arith, inl, inr, length-append}
use Rattle.std.proofs.lemmas.Bool.{and_from}
use Rattle.std.proofs.lemmas.List.Folds.{list_all-append}
use Rattle.constraint_set.specs.Known.{Known, FitsSymbols, IsAtomOf, IsNarrowedTo, IsSolution, is_same, text_of}
use Rattle.constraint_set.specs.Solved.{IsSolved, are_constants, can_differ, is_apart, resolved, with_difference}
use Rattle.constraint_set.specs.declared.atom.Atom.{Atom}
use Rattle.constraint_set.specs.declared.atom.Atom.TheVariants.{Const, Sym}
use Rattle.constraint_set.specs.declared.symbol.Difference.{Difference}
use Rattle.constraint_set.proofs.Equalities.{some_solution}
use Rattle.constraint_set.proofs.Atoms.{IsIn-append, IsIn_first, IsIn_second, is_same-equal, is_same_itself, text_of-resolved}

-- What a disequality makes of facts: the solutions are those that meet it, or none meets it.
abbrev pub with_one_asked : Known → Atom → Atom → Known
with_one_asked known a b = record known { asked = known.asked + 1; differences = with_difference known.symbols known.differences a b }

abbrev pub SeparatesTo : Known → Atom → Atom → Bool → Type 0
SeparatesTo known a b false = (texts : List (List ℕ)) → IsSolution known texts → text_of texts a ≡ text_of texts b
SeparatesTo known a b true = IsSolved (with_one_asked known a b) × IsNarrowedTo known (with_one_asked known a b) (λ texts. text_of texts a ≢ text_of texts b)

-- two different constants have different texts
constants_differ : (texts : List (List ℕ)) (x y : Atom) → are_constants x y ≡ true → is_same x y ≡ false → text_of texts x ≡ text_of texts y → ⊥
constants_differ texts (Const text) (Const other) are other_is same =
    let itself : is_same (Const text) (Const other) ≡ true = ap (λ t. is_same (Const text) (Const t)) (sym same) ∙ is_same_itself (Const text) in
    let wrong : true ≡ false = sym itself ∙ other_is in absurd (cc)
constants_differ texts (Const text) (Sym s) are other_is same = absurd (cc)
constants_differ texts (Sym s) b are other_is same = absurd (cc)

pub separates : (known : Known) → IsSolved known → known.asked < known.room → (a b : Atom) → IsAtomOf known a → IsAtomOf known b → (can : Bool) → can ≡ can_differ known.symbols a b → SeparatesTo known a b can
separates known solved room a b a_atom b_atom can is = subst (SeparatesTo known a b) (sym is) (go (is_same x y) refl)
  where
    x : Atom
    x = resolved known.symbols a

    y : Atom
    y = resolved known.symbols b

    resolves : (texts : List (List ℕ)) → FitsSymbols known.framing known.symbols texts → (c : Atom) → text_of texts c ≡ text_of texts (resolved known.symbols c)
    resolves texts fits c = text_of-resolved known.framing known.symbols texts fits c

    one : Difference
    one = record { left = a; right = b }

    counted : length known.differences ≤ known.asked
    counted = solved.counted

    within : known.asked ≤ known.room
    within = solved.within

    further : (apart : is_same x y ≡ false) → (decided : Bool) → are_constants x y ≡ decided
        → IsSolved (record known { asked = known.asked + 1; differences = cond decided known.differences (known.differences ++ one ∷ []) })
        × IsNarrowedTo known (record known { asked = known.asked + 1; differences = cond decided known.differences (known.differences ++ one ∷ []) }) (λ texts. text_of texts a ≢ text_of texts b)
    further apart true is =
        let still_solved : IsSolved (record known { asked = known.asked + 1; differences = known.differences }) = record {
          resolved = solved.resolved;
          apart = solved.apart;
          atoms = solved.atoms;
          counted = omega arith;
          within = omega arith;
          many = solved.many;
        } in (
          still_solved,
          record {
            framing = refl;
            room = refl;
            symbols = refl;
            kept = λ texts solution. (
              record { fits = solution.fits; different = solution.different },
              λ same. constants_differ texts x y is apart (sym (resolves texts solution.fits a) ∙ same ∙ resolves texts solution.fits b),
            );
            all = λ texts solution differ. record { fits = solution.fits; different = solution.different };
            left = some_solution (record known { asked = known.asked + 1; differences = known.differences }) still_solved;
          },
        )
    further apart false is =
        let still_solved : IsSolved (record known { asked = known.asked + 1; differences = known.differences ++ one ∷ [] }) = record {
          resolved = solved.resolved;
          apart = list_all-append (is_apart known.symbols) known.differences (one ∷ []) ∙ and_from _ _ solved.apart (and_from _ _ (ap not apart) refl);
          atoms = λ d is_in. elim (IsIn-append d known.differences (one ∷ []) is_in) [
            | inl old ↦ solved.atoms d old
            | inr new ↦ elim new [
              | inl same ↦ subst (λ (e : Difference). IsAtomOf known e.left × IsAtomOf known e.right) (sym same) (a_atom, b_atom)
              | inr none ↦ absurd none
            ]
          ];
          counted = let long = length-append known.differences (one ∷ []) in omega (arith, long);
          within = omega arith;
          many = solved.many;
        } in (
          still_solved,
          record {
            framing = refl;
            room = refl;
            symbols = refl;
            kept = λ texts solution. (
              record { fits = solution.fits; different = λ d is_in. solution.different d (IsIn_first d known.differences (one ∷ []) is_in) },
              solution.different one (IsIn_second one known.differences (one ∷ []) (inl refl)),
            );
            all = λ texts solution differ. record {
              fits = solution.fits;
              different = λ d is_in. elim (IsIn-append d known.differences (one ∷ []) is_in) [
                | inl old ↦ solution.different d old
                | inr new ↦ elim new [
                  | inl same ↦ subst (λ (e : Difference). text_of texts e.left ≢ text_of texts e.right) (sym same) differ
                  | inr none ↦ absurd none
                ]
              ];
            };
            left = some_solution (record known { asked = known.asked + 1; differences = known.differences ++ one ∷ [] }) still_solved;
          },
        )

    go : (same : Bool) → is_same x y ≡ same → SeparatesTo known a b (not same)
    go true is = λ texts solution. resolves texts solution.fits a ∙ ap (text_of texts) (is_same-equal x y is) ∙ sym (resolves texts solution.fits b)
    go false is = further is (are_constants x y) refl
