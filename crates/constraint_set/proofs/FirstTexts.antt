-- The texts that the symbols get one after the other.
use Rattle.std.proofs.Common.{◌≡◌, ℕ, zero, suc, ◌<◌, ◌≤◌, List, [], ◌∷◌, ◌++◌, length, slice_get, Some, option_map, refl, sym, ◌∙◌, ap, arith, inl, inr, length-append}
use Rattle.std.specs.Option.{option_to_list}
use Rattle.std.proofs.lemmas.Bool.{cases_lt}
use Rattle.spec_model.specs.declared.event.Framing.{Framing}
use Rattle.constraint_set.specs.Least.{first_texts, next_text}
use Rattle.constraint_set.specs.declared.symbol.Symbol.{Symbol}
use Rattle.constraint_set.specs.declared.symbol.Difference.{Difference}
use Rattle.constraint_set.proofs.Atoms.{item_at}
use Rattle.constraint_set.proofs.Lists.{same_place, slice_get_first, slice_get_seam}

-- one symbol more
pub first_texts_more : (framing : Framing) (symbols : List Symbol) (differences : List Difference) (n : ℕ) (symbol : Symbol) → slice_get symbols n ≡ Some symbol
    → first_texts framing symbols differences (suc n) ≡ first_texts framing symbols differences n ++ next_text framing symbols differences (first_texts framing symbols differences n) symbol ∷ []
first_texts_more framing symbols differences n symbol at =
    ap (λ found. first_texts framing symbols differences n ++ option_to_list (option_map (next_text framing symbols differences (first_texts framing symbols differences n)) found)) at

pub length-first_texts : (framing : Framing) (symbols : List Symbol) (differences : List Difference) (n : ℕ) → n ≤ length symbols → length (first_texts framing symbols differences n) ≡ n
length-first_texts framing symbols differences zero within = refl
length-first_texts framing symbols differences (suc n) within =
    let found = item_at symbols n (omega arith) in
    let before = length-first_texts framing symbols differences n (omega arith) in
    let both = length-append (first_texts framing symbols differences n) (next_text framing symbols differences (first_texts framing symbols differences n) found.0 ∷ []) in
    ap length (first_texts_more framing symbols differences n found.0 found.1) ∙ omega (arith, before, both)

-- the text of a symbol
pub first_texts_at : (framing : Framing) (symbols : List Symbol) (differences : List Difference) (n s : ℕ) (symbol : Symbol) → s < n → n ≤ length symbols → slice_get symbols s ≡ Some symbol
    → slice_get (first_texts framing symbols differences n) s ≡ Some (next_text framing symbols differences (first_texts framing symbols differences s) symbol)
first_texts_at framing symbols differences zero s symbol below within at = absurd (omega arith)
first_texts_at framing symbols differences (suc n) s symbol below within at =
    let found = item_at symbols n (omega arith) in
    let long = length-first_texts framing symbols differences n (omega arith) in
    ap (λ texts. slice_get texts s) (first_texts_more framing symbols differences n found.0 found.1)
    ∙ go found.0 found.1 long (λ earlier. first_texts_at framing symbols differences n s symbol earlier (omega arith) at)
  where
    go : (last : Symbol) → slice_get symbols n ≡ Some last → length (first_texts framing symbols differences n) ≡ n
        → (s < n → slice_get (first_texts framing symbols differences n) s ≡ Some (next_text framing symbols differences (first_texts framing symbols differences s) symbol))
        → slice_get (first_texts framing symbols differences n ++ next_text framing symbols differences (first_texts framing symbols differences n) last ∷ []) s
        ≡ Some (next_text framing symbols differences (first_texts framing symbols differences s) symbol)
    go last last_at long before = elim (cases_lt s n) [
      | inl earlier ↦ slice_get_first (first_texts framing symbols differences n) _ s (omega (arith, long)) ∙ before earlier
      | inr behind ↦
          let same : s ≡ n = omega arith in
          let one : last ≡ symbol = same_place symbols s n symbol last same at last_at in
          slice_get_seam (first_texts framing symbols differences n) _ [] s (omega (arith, long, same))
          ∙ ap Some (ap (next_text framing symbols differences (first_texts framing symbols differences n)) one ∙ ap (λ k. next_text framing symbols differences (first_texts framing symbols differences k) symbol) (sym same))
    ]
