-- What the reading of a whole text says of it.
use Rattle.std.proofs.Common.{◌≡◌, ℕ, ◌+◌, ◌<◌, ◌≤◌, false, List, [], ◌∷◌, ◌++◌, length, take, Option, Some, None, Ok, Err, refl, sym, ap, ◌∙◌, subst, inl, inr, arith, append-nil, append_assoc, length-append}
use Rattle.std.proofs.Math.Seq.{take-append_seam, take-append-add}
use Rattle.std.proofs.lemmas.Bool.{leb-true, le-leb, cases_Bool, cases_eq, cond-true, cond-false}
use Rattle.spec_model.specs.declared.token.Placed.{Placed}
use Rattle.spec_model.specs.declared.tree.Spec.{Spec}
use Rattle.spec_model.specs.Spelling.{Spells, CanGoOn, OpensTooMany, IsRefusedAt, IsWithinBraces, is_left_out, greatest_open, open_behind}
use Rattle.spec_scan.specs.declared.goal.Goal.TheVariants as goals
use Rattle.spec_scan.specs.Scan.{State, step, finish, or_refused, is_within, go_on, scan, first_state}
use Rattle.spec_scan.specs.Scanned.{HasTokens}
use Rattle.spec_scan.proofs.Back.{Rising}
use Rattle.spec_scan.proofs.Fill.{spec_fill}
use Rattle.spec_scan.proofs.Forth.{limited, scan_step}
use Rattle.spec_scan.proofs.Limits.{roomy, within_all, all_within, found_over, limited_over, spelled_rising}
use Rattle.spec_scan.proofs.Reached.{Reached, SpellsOn, reached_first, reached_step, spells_on, completed, can_go_on, spells_whole}
use Rattle.spec_scan.proofs.Scanned.{spelled_scans}

-- how a text that spells a tree is read
spells_scan : (most : ℕ) (text : List ℕ) (spec : Spec) (h : Spells text spec)
    → scan most text 0 first_state ≡ limited most 0 h.tokens h.tokens
spells_scan most text spec h =
    spelled_scans most h.spelled (goals.Spec ∷ []) [] ((spec_fill is_left_out spec).run h.tokens h.fits) (omega arith)

-- with enough room it is read whole
never_refused : (text : List ℕ) (spec : Spec) (h : Spells text spec) (place : ℕ) → ((most : ℕ) → greatest_open ≤ most
    → scan most text 0 first_state ≡ Err place) → ⊥
never_refused text spec h place refuses =
    let most = length h.tokens + greatest_open in
    let read : scan most text 0 first_state ≡ Ok h.tokens = spells_scan most text spec h
    ∙ roomy most 0 h.tokens h.tokens (omega arith) in
    let other : Ok h.tokens ≡ Err place = sym read ∙ refuses most (omega arith) in cc

-- a place that is refused is not behind the reading
pub refused_later : (most : ℕ) (bytes : List ℕ) (place : ℕ) (s : State) (found : ℕ) → scan most bytes place s ≡ Err found
    → place ≤ found
refused_later most [] place s found is = go (finish s) is
  where
    go : (end : Option (List Placed)) → or_refused place end ≡ Err found → place ≤ found
    go None is = let same : place ≡ found = cc in omega arith
    go (Some ts) is = absurd cc
refused_later most (byte ∷ bytes) place s found is =
    go (λ next later. refused_later most bytes (place + 1) next found later) (step place s byte) is
  where
    go : ((next : State) → scan most bytes (place + 1) next ≡ Err found → place + 1 ≤ found) → (moved : Option State)
        → go_on most place (scan most bytes (place + 1)) moved ≡ Err found → place ≤ found
    go later None is = let same : place ≡ found = cc in omega arith
    go later (Some next) is =
        elim (cases_Bool (is_within most next)) [
          | inl e ↦ (let behind = later next (sym (cond-true _ _ _ e) ∙ is) in omega arith)
          | inr n ↦ (let here : Err place ≡ Err found = sym (cond-false _ _ _ n)
              ∙ is in let same : place ≡ found = cc in omega arith)
        ]

-- a brace that is one too many is refused where it stands, or before
pub too_many_refused : (text : List ℕ) (place : ℕ) (o : OpensTooMany text place)
    → (found : ℕ) × (scan greatest_open (take (place + 1) text ++ o.more) 0 first_state ≡ Err found) × (found ≤ place)
too_many_refused text place o =
    let whole = take (place + 1) text ++ o.more in
    let rising = subst (λ ts. Rising 0 (0 + length whole) ts) o.here (spelled_rising o.spells.spelled (0 + length whole) (omega arith)) in
    let over = limited_over 0 (0 + length whole) 0 o.before place o.after o.spells.tokens rising o.full in (
      over.0,
      spells_scan greatest_open whole o.spec o.spells ∙ (ap (λ ts. limited greatest_open 0 ts o.spells.tokens) o.here
          ∙ over.1),
      over.2,
    )

-- A text of which the front was read, up to this place.
record Came (text rest : List ℕ) (place : ℕ) (s : State) : Type 0 where
  front : List ℕ
  split : text ≡ front ++ rest
  long : length front ≡ place
  reached : Reached front place s
  small : open_behind 0 s.placed ≤ greatest_open
  ran : (most : ℕ) → greatest_open ≤ most → (other : List ℕ) → scan most (front ++ other) 0 first_state ≡ scan most other place s
  safe : (earlier : ℕ) → earlier < place → OpensTooMany text earlier → ⊥

came_first : (text : List ℕ) → Came text text 0 first_state
came_first text = record {
  front = [];
  split = refl;
  long = refl;
  reached = reached_first;
  small = omega arith;
  ran = λ most enough other. refl;
  safe = λ earlier less. absurd (omega arith);
}

module _ (text rest : List ℕ) (place byte : ℕ) (s : State) (c : Came text (byte ∷ rest) place s) where
  taken_front : take (place + 1) text ≡ c.front ++ byte ∷ []
  taken_front =
      ap (take (place + 1)) c.split ∙ (ap (λ n. take (n + 1) (c.front ++ byte ∷ rest)) (sym c.long)
      ∙ take-append-add c.front (byte ∷ rest) 1)

  within_text : place < length text
  within_text = let total = ap length c.split ∙ length-append c.front (byte ∷ rest) in let long = c.long in omega arith

  -- whatever stands behind the byte
  ran_byte : (most : ℕ) → greatest_open ≤ most → (other : List ℕ)
      → scan most (take (place + 1) text ++ other) 0 first_state ≡ go_on most place (scan most other (place + 1)) (step place s byte)
  ran_byte most enough other =
      ap (λ front. scan most (front ++ other) 0 first_state) taken_front
      ∙ (ap (λ whole. scan most whole 0 first_state) (append_assoc c.front (byte ∷ []) other) ∙ c.ran most enough (byte ∷ other))

  came_on : (next : State) → step place s byte ≡ Some next → open_behind 0 next.placed ≤ greatest_open
      → Came text rest (place + 1) next
  came_on next moves small = record {
    front = c.front ++ byte ∷ [];
    split = c.split ∙ sym (append_assoc c.front (byte ∷ []) rest);
    long = length-append c.front (byte ∷ []) ∙ ap (λ n. n + 1) c.long;
    reached = reached_step byte next c.reached moves;
    small = small;
    ran = λ most enough other.
        ap (λ whole. scan most whole 0 first_state) (append_assoc c.front (byte ∷ []) other)
        ∙ (c.ran most enough (byte ∷ other) ∙ scan_step most place byte other s next moves (omega arith));
    safe = λ earlier less o. elim (cases_eq earlier place) [
      | inl same ↦ here (subst (λ p. OpensTooMany text p) same o)
      | inr differs ↦ c.safe earlier (omega arith) o
    ];
  }
    where
      here : OpensTooMany text place → ⊥
      here o =
          let over = too_many_refused text place o in
          let moved : scan greatest_open o.more (place + 1) next ≡ Err over.0 =
          sym (ran_byte greatest_open (omega arith) o.more
          ∙ (ap (go_on greatest_open place (scan greatest_open o.more (place + 1))) moves
          ∙ cond-true _ _ _ (le-leb _ _ small))) ∙ over.1 in
          let later = refused_later greatest_open o.more (place + 1) next over.0 moved in
          let sooner = over.2 in omega arith

  -- no text goes on so
  cannot_stay : step place s byte ≡ None → IsRefusedAt text place
  cannot_stay stuck = record {
    reason = inl (record {
      within = omega (arith, within_text);
      before = subst (λ front. CanGoOn front) (sym (ap (take place) c.split
          ∙ (ap (λ n. take n (c.front ++ byte ∷ rest)) (sym c.long)
          ∙ take-append_seam c.front (byte ∷ rest)))) (can_go_on c.reached);
      cannot = λ less on. never_refused (take (place + 1) text ++ on.more) on.spec on.spells place (λ most enough.
          ran_byte most enough on.more ∙ ap (go_on most place (scan most on.more (place + 1))) stuck);
      no_tree = λ spec h. never_refused text spec h place (λ most enough.
          ap (λ whole. scan most whole 0 first_state) c.split ∙ (c.ran most enough (byte ∷ rest)
          ∙ ap (go_on most place (scan most rest (place + 1))) stuck));
    });
    first = c.safe;
  }

  -- one brace too many
  cannot_open : (next : State) → step place s byte ≡ Some next → is_within greatest_open next ≡ false → IsRefusedAt text place
  cannot_open next moves over =
      let known = reached_step byte next c.reached moves in
      let more = completed next.part (place + 1) next.below known.open_part in
      let on = subst (λ front. SpellsOn (front ++ more.bytes) (next.placed ++ more.ts)) (sym taken_front) (spells_on more.bytes more.ts known more.goes more.rest) in
      let stops : scan greatest_open (take (place + 1) text ++ more.bytes) 0 first_state ≡ Err place =
      ran_byte greatest_open (omega arith) more.bytes
      ∙ (ap (go_on greatest_open place (scan greatest_open more.bytes (place + 1))) moves ∙ cond-false _ _ _ over) in
      let limit : limited greatest_open 0 on.spells.tokens on.spells.tokens ≡ Err place =
      sym (spells_scan greatest_open (take (place + 1) text ++ more.bytes) on.spec on.spells) ∙ stops in
      let brace = found_over 0 on.spells.tokens on.spells.tokens place (omega arith) limit in record {
        reason = inr (record {
          within = within_text;
          more = more.bytes;
          spec = on.spec;
          spells = on.spells;
          before = brace.0;
          after = brace.1;
          here = brace.2;
          full = brace.3;
        });
        first = c.safe;
      }

-- the text ends too early
cannot_end : (text : List ℕ) (place : ℕ) (s : State) → Came text [] place s → finish s ≡ None → IsRefusedAt text place
cannot_end text place s c ends =
    let whole : text ≡ c.front = c.split ∙ append-nil c.front in
    let long : length text ≡ place = ap length whole ∙ c.long in record {
      reason = inl (record {
        within = omega arith;
        before = subst (λ front. CanGoOn front) (sym (ap (take place) whole ∙ (ap (λ n. take n c.front) (sym c.long)
            ∙ all_taken c.front))) (can_go_on c.reached);
        cannot = λ less. absurd (omega arith);
        no_tree = λ spec h. never_refused text spec h place (λ most enough.
            ap (λ t. scan most t 0 first_state) c.split ∙ (c.ran most enough [] ∙ ap (or_refused place) ends));
      });
      first = c.safe;
    }
  where
    all_taken : (xs : List ℕ) → take (length xs) xs ≡ xs
    all_taken xs = ap (take (length xs)) (sym (append-nil xs)) ∙ take-append_seam xs []

-- What the reading answers of the rest of a text says this of the whole.
refused_on : (text rest : List ℕ) (place : ℕ) (s : State) (found : ℕ) → Came text rest place s
    → scan greatest_open rest place s ≡ Err found → IsRefusedAt text found
refused_on text [] place s found c is = go (finish s) refl is
  where
    go : (end : Option (List Placed)) → finish s ≡ end → or_refused place end ≡ Err found → IsRefusedAt text found
    go None ends is = let same : place ≡ found = cc in subst (λ p. IsRefusedAt text p) same (cannot_end text place s c ends)
    go (Some ts) ends is = absurd cc
refused_on text (byte ∷ rest) place s found c is =
    go (λ next came later. refused_on text rest (place + 1) next found came later) (step place s byte) refl is
  where
    go : ((next : State) → Came text rest (place + 1) next → scan greatest_open rest (place + 1) next ≡ Err found
        → IsRefusedAt text found)
        → (moved : Option State) → step place s byte ≡ moved
        → go_on greatest_open place (scan greatest_open rest (place + 1)) moved ≡ Err found → IsRefusedAt text found
    go later None moves is = let same : place ≡ found = cc in subst (λ p. IsRefusedAt text p) same (cannot_stay text rest place byte s c moves)
    go later (Some next) moves is =
        elim (cases_Bool (is_within greatest_open next)) [
          | inl e ↦ later next (came_on text rest place byte s c next moves (leb-true _ _ e)) (sym (cond-true _ _ _ e) ∙ is)
          | inr n ↦ (
              let here : Err place ≡ Err found = sym (cond-false _ _ _ n) ∙ is in
              let same : place ≡ found = cc in subst (λ p. IsRefusedAt text p) same (cannot_open text rest place byte s c next moves n))
        ]

read_on : (text rest : List ℕ) (place : ℕ) (s : State) (ts : List Placed) → Came text rest place s
    → scan greatest_open rest place s ≡ Ok ts → SpellsOn text ts
read_on text [] place s ts c is = go (finish s) refl is
  where
    go : (end : Option (List Placed)) → finish s ≡ end → or_refused place end ≡ Ok ts → SpellsOn text ts
    go None ends is = absurd cc
    go (Some found) ends is =
        let same : found ≡ ts = cc in
        let whole : text ≡ c.front = c.split ∙ append-nil c.front in
        subst (λ t. SpellsOn t ts) (sym whole) (spells_whole ts c.reached (ends ∙ ap Some same))
read_on text (byte ∷ rest) place s ts c is =
    go (λ next came later. read_on text rest (place + 1) next ts came later) (step place s byte) refl is
  where
    go : ((next : State) → Came text rest (place + 1) next → scan greatest_open rest (place + 1) next ≡ Ok ts → SpellsOn text ts)
        → (moved : Option State) → step place s byte ≡ moved
        → go_on greatest_open place (scan greatest_open rest (place + 1)) moved ≡ Ok ts → SpellsOn text ts
    go later None moves is = absurd cc
    go later (Some next) moves is =
        elim (cases_Bool (is_within greatest_open next)) [
          | inl e ↦ later next (came_on text rest place byte s c next moves (leb-true _ _ e)) (sym (cond-true _ _ _ e) ∙ is)
          | inr n ↦ absurd (let other : Err place ≡ Ok ts = sym (cond-false _ _ _ n) ∙ is in cc)
        ]

-- the tokens that are read
pub accepted : (text : List ℕ) (ts : List Placed) → scan greatest_open text 0 first_state ≡ Ok ts → HasTokens text ts
accepted text ts is =
    let on = read_on text text 0 first_state ts (came_first text) is in
    let limit : limited greatest_open 0 on.spells.tokens on.spells.tokens ≡ Ok ts = sym (spells_scan greatest_open text on.spec on.spells) ∙ is in
    record {
      spec = on.spec;
      spells = on.spells;
      found = on.found;
      within = subst (λ found. IsWithinBraces 0 found) on.found (all_within 0 on.spells.tokens on.spells.tokens ts limit).1;
    }

-- the place that is refused
pub refused : (text : List ℕ) (place : ℕ) → scan greatest_open text 0 first_state ≡ Err place → IsRefusedAt text place
refused text place is = refused_on text text 0 first_state place (came_first text) is

-- no text of the grammar is refused
pub taken_whole : (text : List ℕ) (spec : Spec) (h : Spells text spec) → IsWithinBraces 0 h.tokens
    → scan greatest_open text 0 first_state ≡ Ok h.tokens
taken_whole text spec h within = spells_scan greatest_open text spec h ∙ within_all 0 h.tokens h.tokens within
