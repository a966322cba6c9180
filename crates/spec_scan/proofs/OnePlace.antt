-- A text is refused at one place, or read.
use Rattle.std.proofs.Common.{◌≡◌, ℕ, ◌+◌, ◌-◌, ◌<◌, ◌≤◌, List, [], ◌∷◌, ◌++◌, length, take, drop, Option, Some, None, Result, Ok, Err, refl, sym, ap, ◌∙◌, subst, inl, inr, ◌⊎◌, arith, append_assoc}
use Rattle.std.proofs.Math.Seq.{take-append-add}
use Rattle.std.proofs.lemmas.Bool.{cases_order, cases_Bool, cond-true, cond-false}
use Rattle.std.proofs.lemmas.List.{take-append-drop, length-take-le}
use Rattle.spec_model.specs.declared.token.Placed.{Placed}
use Rattle.spec_model.specs.Spelling.{Spells, CanGoOn, StopsAt, OpensTooMany, IsRefusedAt, greatest_open}
use Rattle.spec_scan.specs.Scan.{State, step, is_within, go_on, scan, first_state}
use Rattle.spec_scan.proofs.Law.{accepted, refused, refused_later, too_many_refused}

shorter : (front more : List ℕ) → CanGoOn (front ++ more) → CanGoOn front
shorter front more on = record {
  more = more ++ on.more;
  spec = on.spec;
  spells = subst (λ text. Spells text on.spec) (append_assoc front more on.more) on.spells;
}

-- a front of what can go on can go on
on_less : (text : List ℕ) (short long : ℕ) → short ≤ long → long ≤ length text → CanGoOn (take long text)
    → CanGoOn (take short text)
on_less text short long sooner within on =
    let front = take short text in
    let size : length front ≡ short = length-take-le short text (omega arith) in
    let total : short + (long - short) ≡ long = omega arith in
    let split : take long text ≡ front ++ take (long - short) (drop short text) =
    ap (λ whole. take long whole) (sym (take-append-drop short text))
    ∙ (ap (λ n. take n (front ++ drop short text)) (sym total ∙ ap (λ n. n + (long - short)) (sym size))
    ∙ take-append-add front (drop short text) (long - short)) in
    shorter front (take (long - short) (drop short text)) (subst (λ whole. CanGoOn whole) split on)

-- what stands before a refused place can go on, and that place is within the text
goes_there : (text : List ℕ) (place : ℕ) → StopsAt text place ⊎ OpensTooMany text place
    → (place ≤ length text) × CanGoOn (take place text)
goes_there text place (inl stops) = (stops.within, stops.before)
goes_there text place (inr opens) = (
  let w = opens.within in omega arith,
  on_less text place (place + 1) (omega arith) (let w = opens.within in omega arith) (record { more = opens.more; spec = opens.spec; spells = opens.spells }),
)

none_before : (text : List ℕ) (place other : ℕ) → IsRefusedAt text place → IsRefusedAt text other → place < other → ⊥
none_before text place other one two sooner =
    let there = goes_there text other two.reason in
    elim one.reason [
      | inl stops ↦ stops.cannot (omega (arith, there.0)) (on_less text (place + 1) other (omega arith) there.0 there.1)
      | inr opens ↦ two.first place sooner opens
    ]

pub one_place : (text : List ℕ) (place other : ℕ) → IsRefusedAt text place → IsRefusedAt text other → place ≡ other
one_place text place other one two =
    elim (cases_order place other) [
      | inl same ↦ same
      | inr differs ↦ elim differs [
        | inl sooner ↦ absurd (none_before text place other one two sooner)
        | inr later ↦ absurd (none_before text other place two one later)
      ]
    ]

-- what is refused within a front is refused whatever stands behind it
refused_front : (most : ℕ) (front more other : List ℕ) (place : ℕ) (s : State) (found : ℕ)
    → scan most (front ++ more) place s ≡ Err found → found < place + length front
    → scan most (front ++ other) place s ≡ Err found
refused_front most [] more other place s found is within =
    absurd (let later = refused_later most more place s found is in omega arith)
refused_front most (byte ∷ front) more other place s found is within =
    go (step place s byte) (λ next later. refused_front most front more other (place + 1) next found later (omega arith)) is
  where
    go : (moved : Option State) → ((next : State) → scan most (front ++ more) (place + 1) next ≡ Err found
        → scan most (front ++ other) (place + 1) next ≡ Err found)
        → go_on most place (scan most (front ++ more) (place + 1)) moved ≡ Err found
        → go_on most place (scan most (front ++ other) (place + 1)) moved ≡ Err found
    go None later is = is
    go (Some next) later is =
        elim (cases_Bool (is_within most next)) [
          | inl e ↦ cond-true _ _ _ e ∙ later next (sym (cond-true _ _ _ e) ∙ is)
          | inr n ↦ cond-false _ _ _ n ∙ (sym (cond-false _ _ _ n) ∙ is)
        ]

pub read_or_refused : (text : List ℕ) (ts : List Placed) (place : ℕ) → scan greatest_open text 0 first_state ≡ Ok ts
    → IsRefusedAt text place → ⊥
read_or_refused text ts place is one =
    elim one.reason [
      | inl stops ↦ (let h = accepted text ts is in stops.no_tree h.spec h.spells)
      | inr opens ↦ (
          let over = too_many_refused text place opens in
          let front = take (place + 1) text in
          let size : length front ≡ place + 1 = length-take-le (place + 1) text (let w = opens.within in omega arith) in
          let whole : scan greatest_open (front ++ drop (place + 1) text) 0 first_state ≡ Err over.0 =
          refused_front greatest_open front opens.more (drop (place + 1) text) 0 first_state over.0 over.1 (let small = over.2 in omega arith) in
          let other : Ok ts ≡ Err over.0 = sym is
          ∙ (ap (λ t. scan greatest_open t 0 first_state) (sym (take-append-drop (place + 1) text)) ∙ whole) in cc)
    ]

-- a refused text is refused by the reading
pub refusal_found : (text : List ℕ) (place : ℕ) → IsRefusedAt text place → scan greatest_open text 0 first_state ≡ Err place
refusal_found text place one = go (scan greatest_open text 0 first_state) refl
  where
    go : (found : Result (List Placed) ℕ) → scan greatest_open text 0 first_state ≡ found
        → scan greatest_open text 0 first_state ≡ Err place
    go (Ok ts) is = absurd (read_or_refused text ts place is one)
    go (Err other) is = is ∙ ap Err (one_place text other place (refused text other is) one)
