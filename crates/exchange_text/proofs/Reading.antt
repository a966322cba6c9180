-- Reading a text of first lines, then a line for each event, and the last line.
use Rattle.std.proofs.Common.{◌≡◌, ◌≢◌, ◌⊎◌, ℕ, ◌+◌, ◌<◌, ◌≤◌, Bool, IsTrue, List, [], ◌∷◌, ◌++◌, length, map, refl, sym, ◌∙◌, ap, subst, inl, inr, arith, append_assoc, append-nil, length-append}
use Rattle.std.specs.List.{AllByRecursion}
use Rattle.std.proofs.lemmas.List.{length-map, length_push, map_push}
use Rattle.std.proofs.lemmas.List.Concat.{flat_map-append}
use Rattle.exchange_text.specs.declared.refusal.TextRefusal.{TextRefusal}
use Rattle.exchange_text.specs.declared.refusal.TextRefusal.TheVariants.{BadLine, NoEnd, Limit, Memory}
use Rattle.exchange_text.specs.NextLine.{BeginsOtherwise, HasNoNextEvent}
use Rattle.exchange_text.specs.Text.{ended, ended_lines, last_line, text_of, AreRead, HasLine, IsRefused, UnlessMemory}

pub not_empty : {A : Type 0} (before after : List A) (y : A) → [] ≡ before ++ y ∷ after → ⊥
not_empty [] after y same = cc
not_empty (x ∷ before) after y same = cc

-- a list with one item more, parted around an item: that is the last one, or it stands before it
pub last_or_before : {A : Type 0} (xs before after : List A) (x y : A) → xs ++ x ∷ [] ≡ before ++ y ∷ after
    → ((x ≡ y) × (xs ≡ before)) ⊎ ((more : List A) × (xs ≡ before ++ y ∷ more))
last_or_before [] [] after x y same = inl (cc, refl)
last_or_before [] (z ∷ before) after x y same = absurd (not_empty before after y (cc))
last_or_before (z ∷ xs) [] after x y same = inr (xs, cc)
last_or_before (z ∷ xs) (w ∷ before) after x y same = elim (last_or_before xs before after x y (cc)) [
  | inl (last, front) ↦ inl (last, cc)
  | inr (more, front) ↦ inr (more, cc)
]

pub All-push : {A : Type 0} (P : A → Type 0) (xs : List A) (x : A) → AllByRecursion P xs → P x → AllByRecursion P (xs ++ x ∷ [])
All-push P [] x each here = (here, tt)
All-push P (y ∷ ys) x each here = (each.0, All-push P ys x each.1 here)

module _ (first_lines greatest : ℕ) (HasForm : List (List ℕ) → List ℕ → Type 0) where
  -- no lines have been read
  pub none_read : AreRead first_lines greatest HasForm []
  none_read = record { few = omega arith; each = λ before behind line same. absurd (not_empty before behind line same) }

  -- one more line is read
  pub one_more_read : (lines : List (List ℕ)) (line : List ℕ) → AreRead first_lines greatest HasForm lines → length lines < first_lines + greatest → HasForm lines line
      → AreRead first_lines greatest HasForm (lines ++ line ∷ [])
  one_more_read lines line read room form = record {
    few = omega (arith, length_push lines line);
    each = λ before behind other same. elim (last_or_before lines before behind line other same) [
      | inl (is_last, front) ↦ subst (λ lines. HasForm lines other) front (subst (HasForm lines) is_last form)
      | inr (more, front) ↦ read.each before more other front
    ];
  }

  -- a text that does not begin with the one line that it may begin with
  pub begins_otherwise : (first_line text : List ℕ) (refusal : TextRefusal) → 0 < first_lines → ((line : List ℕ) → HasForm [] line → line ≡ first_line)
      → BeginsOtherwise text first_line refusal → IsRefused first_lines greatest HasForm text refusal
  begins_otherwise first_line text (NoEnd number) some only is = record {
    before = [];
    rest = text;
    parts = refl;
    read = none_read;
    stops = (is.0, is.1);
  }
  begins_otherwise first_line text (BadLine number) some only (line, behind, next, is_not, number_is) = record {
    before = [];
    rest = text;
    parts = refl;
    read = none_read;
    stops = inr (record { line = line; behind = behind; next = next; not_last = λ last. absurd (omega (arith, last.0)); room = omega arith; no_form = λ form. is_not (only line form) }, number_is);
  }
  begins_otherwise first_line text (Limit number) some only is = absurd is
  begins_otherwise first_line text Memory some only is = absurd is

-- A text of these first lines, and lines of events behind them.
module _ {E : Type 0} (line_of : E → List ℕ) (IsRight : E → Type 0) (head : List (List ℕ)) (greatest : ℕ) (HasForm : List (List ℕ) → List ℕ → Type 0) where
  abbrev lines_of : List E → List (List ℕ)
  lines_of events = head ++ map line_of events

  abbrev Read : List (List ℕ) → Type 0
  Read lines = AreRead (length head) greatest HasForm lines

  abbrev Refused : List ℕ → TextRefusal → Type 0
  Refused text refusal = IsRefused (length head) greatest HasForm text refusal

  -- the line of an event that is right is of the form for its place
  abbrev pub Forms : Type 0
  Forms = (events : List E) (event : E) → IsRight event → HasForm (head ++ map line_of events) (line_of event)

  -- Such lines alone are.
  abbrev pub OnlyForms : Type 0
  OnlyForms = (events : List E) (line : List ℕ) → HasForm (head ++ map line_of events) line → (event : E) × IsRight event × (line ≡ line_of event)

  -- These events have been read, and this is left of the text.
  pub record HasRead (text : List ℕ) (events : List E) (rest : List ℕ) : Type 0 where
    pub parts : text ≡ ended_lines (lines_of events) ++ rest
    pub read : Read (lines_of events)
    pub right : AllByRecursion IsRight events

  counted : (events : List E) → length (lines_of events) ≡ length head + length events
  counted events = simp (length-append, length-map) refl

  -- the lines of one event more
  one_more : (events : List E) (event : E) → lines_of (events ++ event ∷ []) ≡ lines_of events ++ line_of event ∷ []
  one_more events event = ap (λ lines. head ++ lines) (map_push line_of events event) ∙ sym (append_assoc head (map line_of events) (line_of event ∷ []))

  event_read : Forms → (events : List E) (event : E) → Read (lines_of events) → length events < greatest → IsRight event → Read (lines_of (events ++ event ∷ []))
  event_read forms events event read room right =
      subst Read (sym (one_more events event))
      (one_more_read (length head) greatest HasForm (lines_of events) (line_of event) read (omega (arith, counted events)) (forms events event right))

  -- all lines of events that are right have been read
  pub all_read : Forms → Read head → (events : List E) → AllByRecursion IsRight events → length events ≤ greatest → Read (lines_of events)
  all_read forms head_read events right few = go [] events right (omega arith) (subst Read (sym (append-nil head)) head_read)
    where
      go : (done events : List E) → AllByRecursion IsRight events → length done + length events ≤ greatest → Read (lines_of done) → Read (lines_of (done ++ events))
      go done [] right few read = subst (λ events. Read (lines_of events)) (sym (append-nil done)) read
      go done (event ∷ events) right few read =
          subst (λ events. Read (lines_of events)) (append_assoc done (event ∷ []) events)
          (go (done ++ event ∷ []) events right.1 (omega (arith, length_push done event)) (event_read forms done event read (omega arith) right.0))

  -- no event has been read yet
  pub reads_head : (text rest : List ℕ) → text ≡ ended_lines head ++ rest → Read head → HasRead text [] rest
  reads_head text rest parts head_read = record {
    parts = parts ∙ ap (λ lines. ended_lines lines ++ rest) (sym (append-nil head));
    read = subst Read (sym (append-nil head)) head_read;
    right = tt;
  }

  pub reads_event : Forms → (text : List ℕ) (events : List E) (rest line behind : List ℕ) (event : E) → HasRead text events rest → HasLine rest line behind
      → length events ≢ greatest → IsRight event → line_of event ≡ line → HasRead text (events ++ event ∷ []) behind
  reads_event forms text events rest line behind event read next room right is = record {
    parts = read.parts
        ∙ (ap (λ rest. ended_lines (lines_of events) ++ rest) next.parts
        ∙ (ap (λ line. ended_lines (lines_of events) ++ (ended line ++ behind)) (sym is)
        ∙ sym (ap (λ lines. ended_lines lines ++ behind) (one_more events event)
        ∙ (ap (λ bytes. bytes ++ behind) (flat_map-append ended (lines_of events) (line_of event ∷ []))
        ∙ (append_assoc (ended_lines (lines_of events)) (ended (line_of event) ++ []) behind
        ∙ ap (λ line. ended_lines (lines_of events) ++ (line ++ behind)) (append-nil (ended (line_of event))))))));
    read = let few = read.read.few in event_read forms events event read.read (omega (arith, counted events)) right;
    right = All-push IsRight events event read.right right;
  }

  pub whole_text : (text : List ℕ) (events : List E) (rest : List ℕ) → HasRead text events rest → rest ≡ ended last_line
      → AllByRecursion IsRight events × (length events ≤ greatest) × (text ≡ text_of (lines_of events))
  whole_text text events rest read is =
      let few = read.read.few in
      (read.right, omega (arith, counted events), read.parts ∙ ap (λ rest. ended_lines (lines_of events) ++ rest) is)

  -- neither an event is next nor the end
  pub no_next_event : (text : List ℕ) (events : List E) (rest : List ℕ) (number : ℕ) (is_full : Bool) (refusal : TextRefusal) → number ≡ length events + length head + 1
      → (IsTrue is_full → length events ≡ greatest) → HasRead text events rest → HasNoNextEvent rest number is_full refusal → UnlessMemory refusal (Refused text refusal)
  no_next_event text events rest number is_full (NoEnd stop) number_is full read (is_line, stop_is) = record {
    before = lines_of events;
    rest = rest;
    parts = read.parts;
    read = read.read;
    stops = (is_line, omega (arith, counted events));
  }
  no_next_event text events rest number is_full (BadLine stop) number_is full read (behind, next, more, stop_is) = record {
    before = lines_of events;
    rest = rest;
    parts = read.parts;
    read = read.read;
    stops = inl (record { behind = behind; first_read = omega (arith, counted events); last_next = next; more = more }, omega (arith, counted events));
  }
  no_next_event text events rest number is_full (Limit stop) number_is full read (line, behind, next, not_last, holds, stop_is) = record {
    before = lines_of events;
    rest = rest;
    parts = read.parts;
    read = read.read;
    stops = (record { line = line; behind = behind; full = omega (arith, counted events, full holds); next = next; not_last = not_last }, omega (arith, counted events));
  }
  no_next_event text events rest number is_full Memory number_is full read is = absurd is

  pub bad_line : OnlyForms → (text : List ℕ) (events : List E) (rest line behind : List ℕ) (number : ℕ) → number ≡ length events + length head + 1 → HasRead text events rest → HasLine rest line behind
      → line ≢ last_line → length events ≢ greatest → ((event : E) → IsRight event → line_of event ≢ line) → Refused text (BadLine number)
  bad_line only text events rest line behind number number_is read next not_last room none = record {
    before = lines_of events;
    rest = rest;
    parts = read.parts;
    read = read.read;
    stops = inr (
      record {
        line = line;
        behind = behind;
        next = next;
        not_last = λ last. not_last last.1;
        room = let few = read.read.few in omega (arith, counted events);
        no_form = λ form. let found = only events line form in none found.0 found.1 (sym found.2);
      },
      omega (arith, counted events),
    );
  }
