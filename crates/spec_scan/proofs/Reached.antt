-- The states that bytes lead to: the bytes can go on to a text of the grammar.
use Rattle.std.proofs.Common.{◌≡◌, ℕ, ◌+◌, ◌*◌, ◌<◌, true, List, [], ◌∷◌, ◌++◌, length, Option, Some, None, option_and_then, refl, sym, ap, ◌∙◌, subst, inl, inr, arith, append-nil, append_assoc}
use Rattle.std.proofs.lemmas.Bool.{or_cases}
use Rattle.spec_model.specs.declared.token.Placed.{Placed}
use Rattle.spec_model.specs.declared.token.Punctuation.TheVariants as signs
use Rattle.spec_model.specs.declared.token.Token.{Token}
use Rattle.spec_model.specs.declared.token.Token.TheVariants as tokens
use Rattle.spec_model.specs.declared.tree.Spec.{Spec}
use Rattle.spec_model.specs.Spelling.{Spelled, end, Spells, CanGoOn}
use Rattle.spec_scan.specs.declared.goal.Class.TheVariants as classes
use Rattle.spec_scan.specs.declared.goal.Goal.{Goal}
use Rattle.spec_scan.specs.declared.goal.Goal.TheVariants as goals
use Rattle.spec_scan.specs.declared.part.Part.{Part}
use Rattle.spec_scan.specs.declared.part.Part.TheVariants.{Between, Comment, Run, Inside, Escape, FirstDigit, SecondDigit, Equal, Bang}
use Rattle.spec_scan.specs.Scan.{token_of_run, State, state, take_token, done, done_state, finish_in, finish, step, first_state}
use Rattle.spec_scan.specs.Table.{class_of, shift, shifts, takes}
use Rattle.spec_scan.proofs.Ahead.{ahead, before_token}
use Rattle.spec_scan.proofs.Back.{Rising, rest_of, rest-le}
use Rattle.spec_scan.proofs.Goes.{Goes, to_line_end, to_text_end, short, high_digit, low_digit, doubled, alone, unequal, token_at, text_ends}
use Rattle.spec_scan.proofs.Moves.{start, IsOpen, taken}
use Rattle.spec_scan.proofs.OpenRuns.{took, run_ends}
use Rattle.spec_scan.proofs.Rest.{Rest}
use Rattle.spec_scan.proofs.RunTokens.{run_of}
use Rattle.spec_scan.proofs.Steps.{rising-le, step_moved}

-- These bytes lead to the state, and the next byte stands at this place.
pub record Reached (front : List ℕ) (place : ℕ) (s : State) : Type 0 where
  pub runs : shifts s.placed (goals.Spec ∷ []) ≡ Some s.below
  pub rising : Rising 0 (start s.part place) s.placed
  pub open_part : IsOpen place s.part s.below
  pub back : (bytes : List ℕ) (ts : List Placed) → Goes s.part place bytes ts → Spelled 0 (front ++ bytes) (s.placed ++ ts)

pub reached_first : Reached [] 0 first_state
reached_first = record { runs = refl; rising = omega arith; open_part = tt; back = λ bytes ts goes. goes }

shifts-append : (xs ys : List Placed) (before : List Goal) {middle after : List Goal} → shifts xs before ≡ Some middle
    → shifts ys middle ≡ Some after
    → shifts (xs ++ ys) before ≡ Some after
shifts-append [] ys before {middle} {after} is later =
    let same : before ≡ middle = cc in subst (λ goals. shifts ys goals ≡ Some after) (sym same) later
shifts-append (x ∷ xs) ys before {middle} {after} is later =
    go (shift before (class_of x.token)) (λ next found. shifts-append xs ys next found later) is
  where
    go : (found : Option (List Goal)) → ((next : List Goal) → shifts xs next ≡ Some middle → shifts (xs ++ ys) next ≡ Some after)
        → option_and_then (shifts xs) found ≡ Some middle → option_and_then (shifts (xs ++ ys)) found ≡ Some after
    go None later is = absurd cc
    go (Some next) later is = later next is

rising-append : (early middle late : ℕ) (xs ys : List Placed) → Rising early middle xs → Rising middle late ys
    → Rising early late (xs ++ ys)
rising-append early middle late [] ys first later = rising-le late ys first later
rising-append early middle late (x ∷ xs) ys first later = (first.0, rising-append (x.at + 1) middle late xs ys first.1 later)

pub reached_step : {front : List ℕ} {place : ℕ} {s : State} (byte : ℕ) (next : State) → Reached front place s
    → step place s byte ≡ Some next
    → Reached (front ++ byte ∷ []) (place + 1) next
reached_step {front} {place} {s} byte next known is =
    let moved = step_moved s.part place byte s.below s.placed next known.open_part is in record {
      runs = subst (λ placed. shifts placed (goals.Spec ∷ []) ≡ Some next.below) (sym moved.added) (shifts-append s.placed moved.new (goals.Spec ∷ []) known.runs moved.runs);
      rising = subst (λ placed. Rising 0 (start next.part (place + 1)) placed) (sym moved.added)
          (rising-append 0 (start s.part place) (start next.part (place + 1)) s.placed moved.new known.rising moved.rising);
      open_part = moved.open_part;
      back = λ bytes ts goes.
          let whole : Spelled 0 (front ++ byte ∷ bytes) (s.placed ++ (moved.new ++ ts)) = known.back (byte ∷ bytes) (moved.new ++ ts) (moved.back bytes ts goes) in
          let tokens_same : s.placed ++ (moved.new ++ ts) ≡ next.placed ++ ts = sym (append_assoc s.placed moved.new ts)
          ∙ ap (λ placed. placed ++ ts) (sym moved.added) in
          let bytes_same : front ++ byte ∷ bytes ≡ (front ++ byte ∷ []) ++ bytes = sym (append_assoc front (byte ∷ []) bytes) in
          subst (λ text. Spelled 0 text (next.placed ++ ts)) bytes_same (subst (λ placed. Spelled 0 (front ++ byte ∷ bytes) placed) tokens_same whole);
    }

-- Behind these bytes stand these, and the goals that are left then read their tokens: the whole spells a tree.
pub record SpellsOn (text : List ℕ) (placed : List Placed) : Type 0 where
  pub spec : Spec
  pub spells : Spells text spec
  pub found : spells.tokens ≡ placed

pub spells_on : {front : List ℕ} {place : ℕ} {s : State} (bytes : List ℕ) (ts : List Placed) → Reached front place s
    → Goes s.part place bytes ts
    → Rest (start s.part place) s.below ts → SpellsOn (front ++ bytes) (s.placed ++ ts)
spells_on {front} {place} {s} bytes ts known goes rest =
    let whole = rest_of s.placed (goals.Spec ∷ []) 0 (start s.part place) ts known.runs known.rising rest in record {
      spec = whole.vals.0;
      spells = record { tokens = s.placed ++ ts; spelled = known.back bytes ts goes; fits = whole.fits };
      found = refl;
    }

-- how a part and the goals behind it can be ended
pub record Completion (place : ℕ) (part : Part) (below : List Goal) : Type 0 where
  pub bytes : List ℕ
  pub ts : List Placed
  pub goes : Goes part place bytes ts
  pub rest : Rest (start part place) below ts

text_completed : (at : ℕ) (text : List ℕ) (place : ℕ) (below : List Goal) → at < place → takes below classes.Text ≡ true
    → Completion place (Inside at text) below
text_completed at text place below sooner opened =
    let got = took (shift below classes.Text) opened in
    let a = ahead got.0 (place + 1) in record {
      bytes = 34 ∷ a.bytes;
      ts = token_at at (tokens.Text text) ∷ a.placed;
      goes = text_ends a.spelled;
      rest = before_token below (tokens.Text text) got.1 (omega arith) (omega arith) a.rest;
    }

second_completed : (at : ℕ) (text : List ℕ) (high place : ℕ) (below : List Goal) → at < place → takes below classes.Text ≡ true
    → Completion place (SecondDigit at text high) below
second_completed at text high place below sooner opened =
    let c = text_completed at (text ++ (16 * high + 0) ∷ []) (place + 1) below (omega arith) opened in
    record { bytes = 48 ∷ c.bytes; ts = c.ts; goes = low_digit {low = 0} (omega arith) c.goes; rest = c.rest }

first_completed : (at : ℕ) (text : List ℕ) (place : ℕ) (below : List Goal) → at < place → takes below classes.Text ≡ true
    → Completion place (FirstDigit at text) below
first_completed at text place below sooner opened =
    let c = second_completed at text 0 (place + 1) below (omega arith) opened in
    record { bytes = 48 ∷ c.bytes; ts = c.ts; goes = high_digit {high = 0} (omega arith) c.goes; rest = c.rest }

pub completed : (part : Part) (place : ℕ) (below : List Goal) → IsOpen place part below → Completion place part below
completed Between place below opened =
    let a = ahead below place in record { bytes = a.bytes; ts = a.placed; goes = a.spelled; rest = a.rest }
completed Comment place below opened =
    let a = ahead below (place + 1) in record { bytes = 10 ∷ a.bytes; ts = a.placed; goes = to_line_end [] refl a.spelled; rest = rest-le (omega arith) a.rest }
completed (Run at run) place below opened =
    let e = run_ends below run opened.1 in
    let a = ahead e.after (place + length e.more) in record {
      bytes = e.more ++ a.bytes;
      ts = token_at at e.token ∷ a.placed;
      goes = record {
        more = e.more;
        token = e.token;
        rest = a.bytes;
        later = a.placed;
        split = refl;
        is = e.is;
        apart = a.apart;
        spelled = a.spelled;
        placed = refl;
      };
      rest = before_token below e.token e.moves (omega arith) (omega arith) a.rest;
    }
completed (Inside at text) place below opened = text_completed at text place below opened.0 opened.1
completed (Escape at text) place below opened =
    let c = text_completed at (text ++ 10 ∷ []) (place + 1) below (omega arith) opened.1 in
    record { bytes = 110 ∷ c.bytes; ts = c.ts; goes = short refl c.goes; rest = c.rest }
completed (FirstDigit at text) place below opened = first_completed at text place below opened.0 opened.1
completed (SecondDigit at text high) place below opened = second_completed at text high place below opened.0 opened.1
completed (Equal at) place below opened =
    elim (or_cases (takes below (classes.Sign signs.Becomes)) (takes below (classes.Sign signs.Same)) opened.1) [
      | inl one ↦ (
          let got = took (shift below (classes.Sign signs.Becomes)) one in
          let a = ahead got.0 place in record {
            bytes = a.bytes;
            ts = token_at at (tokens.Sign signs.Becomes) ∷ a.placed;
            goes = alone (a.whole signs.Becomes) a.spelled;
            rest = before_token below (tokens.Sign signs.Becomes) got.1 (omega arith) (omega (arith, opened.0)) a.rest;
          })
      | inr two ↦ (
          let got = took (shift below (classes.Sign signs.Same)) two in
          let a = ahead got.0 (place + 1) in record {
            bytes = 61 ∷ a.bytes;
            ts = token_at at (tokens.Sign signs.Same) ∷ a.placed;
            goes = doubled a.spelled;
            rest = before_token below (tokens.Sign signs.Same) got.1 (omega arith) (omega (arith, opened.0)) a.rest;
          })
    ]
completed (Bang at) place below opened =
    let got = took (shift below (classes.Sign signs.Other)) opened.1 in
    let a = ahead got.0 (place + 1) in record {
      bytes = 61 ∷ a.bytes;
      ts = token_at at (tokens.Sign signs.Other) ∷ a.placed;
      goes = unequal a.spelled;
      rest = before_token below (tokens.Sign signs.Other) got.1 (omega arith) (omega (arith, opened.0)) a.rest;
    }

-- The bytes that lead to a state can go on.
pub can_go_on : {front : List ℕ} {place : ℕ} {s : State} → Reached front place s → CanGoOn front
can_go_on {front} {place} {s} known =
    let c = completed s.part place s.below known.open_part in
    let whole = spells_on c.bytes c.ts known c.goes c.rest in
    record { more = c.bytes; spec = whole.spec; spells = whole.spells }

no_rest : (place : ℕ) → Rest place [] []
no_rest place = record { vals = tt; fits = tt; from = tt }

done_is : (below : List Goal) (placed ts : List Placed) → done below placed ≡ Some ts → (below ≡ []) × (placed ≡ ts)
done_is [] placed ts is = (refl, cc)
done_is (goal ∷ below) placed ts is = absurd cc

-- where a last token leaves no goal
last_token : {front : List ℕ} {place : ℕ} {s : State} (at : ℕ) (token : Token) (ts : List Placed) → Reached front place s
    → start s.part place ≡ at
    → option_and_then done_state (take_token s.below s.placed at token) ≡ Some ts → Goes s.part place [] (token_at at token ∷ [])
    → SpellsOn (front ++ []) ts
last_token {front} {place} {s} at token ts known began is goes = go (take_token s.below s.placed at token) refl is
  where
    go : (found : Option State) → take_token s.below s.placed at token ≡ found → option_and_then done_state found ≡ Some ts
        → SpellsOn (front ++ []) ts
    go None searched is = absurd cc
    go (Some next) searched is =
        let got = taken s.below s.placed at token next searched in
        let ends = done_is next.below next.placed ts is in
        let no_goal : got.0 ≡ [] = ap (λ (st : State). st.below) got.2 ∙ ends.0 in
        let same : s.placed ++ token_at at token ∷ [] ≡ ts = ap (λ (st : State). st.placed) got.2 ∙ ends.1 in
        let moves : shift s.below (class_of token) ≡ Some [] = got.1 ∙ ap Some no_goal in
        let rest : Rest (start s.part place) s.below (token_at at token ∷ []) =
        before_token s.below token {early = at} {late = at + 1} moves (omega (arith, began)) (omega arith) (no_rest (at + 1)) in
        subst (λ placed. SpellsOn (front ++ []) placed) same (spells_on [] (token_at at token ∷ []) known goes rest)

plainly_done : {front : List ℕ} {place : ℕ} {s : State} (ts : List Placed) → Reached front place s
    → done s.below s.placed ≡ Some ts → Goes s.part place [] []
    → SpellsOn (front ++ []) ts
plainly_done {front} {place} {s} ts known is goes =
    let ends = done_is s.below s.placed ts is in
    let same : s.placed ++ [] ≡ ts = append-nil s.placed ∙ ends.1 in
    subst (λ placed. SpellsOn (front ++ []) placed) same
    (spells_on [] [] known goes (subst (λ goals. Rest (start s.part place) goals []) (sym ends.0) (no_rest (start s.part place))))

run_done : {front : List ℕ} {place : ℕ} (at : ℕ) (run : List ℕ) (below : List Goal) (placed ts : List Placed)
    → Reached front place (state (Run at run) below placed)
    → finish_in (Run at run) below placed ≡ Some ts → SpellsOn (front ++ []) ts
run_done {front} {place} at run below placed ts known is = go (token_of_run run) refl is
  where
    go : (found : Option Token) → token_of_run run ≡ found
        → option_and_then done_state (option_and_then (take_token below placed at) found) ≡ Some ts
        → SpellsOn (front ++ []) ts
    go None searched is = absurd cc
    go (Some token) searched is = last_token at token ts known refl is (record {
      more = [];
      token = token;
      rest = [];
      later = [];
      split = refl;
      is = run_of (run ++ []) token (subst (λ r. token_of_run r ≡ Some token) (sym (append-nil run)) searched);
      apart = refl;
      spelled = end;
      placed = refl;
    })

finished : (part : Part) {front : List ℕ} {place : ℕ} (below : List Goal) (placed ts : List Placed)
    → Reached front place (state part below placed)
    → finish_in part below placed ≡ Some ts → SpellsOn (front ++ []) ts
finished Between below placed ts known is = plainly_done ts known is end
finished Comment below placed ts known is = plainly_done ts known is (to_text_end {words = []} refl)
finished (Run at run) below placed ts known is = run_done at run below placed ts known is
finished (Equal at) below placed ts known is = last_token at (tokens.Sign signs.Becomes) ts known refl is (alone refl end)
finished (Inside at text) below placed ts known is = absurd cc
finished (Escape at text) below placed ts known is = absurd cc
finished (FirstDigit at text) below placed ts known is = absurd cc
finished (SecondDigit at text high) below placed ts known is = absurd cc
finished (Bang at) below placed ts known is = absurd cc

-- A text that may end where it ends spells a tree.
pub spells_whole : {text : List ℕ} {place : ℕ} {s : State} (ts : List Placed) → Reached text place s → finish s ≡ Some ts
    → SpellsOn text ts
spells_whole {text} {place} {s} ts known is =
    subst (λ whole. SpellsOn whole ts) (append-nil text) (finished s.part s.below s.placed ts known is)
