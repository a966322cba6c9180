-- A text has one outcome: it is that of one value, or it has one refusal.
use Rattle.std.proofs.Common.{◌≡◌, ◌≢◌, ℕ, ◌≤◌, List, [], ◌∷◌, ◌++◌, length, Result, Ok, Err, refl, sym, ◌∙◌, ap, subst, inl, inr, arith, append_assoc, length-append}
use Rattle.std.specs.List.{AllByRecursion}
use Rattle.std.specs.Result.{IfOk, IfErr, IsErrAnd, MatchResult}
use Rattle.std.proofs.lemmas.Bool.{and_parts}
use Rattle.spec_model.specs.Message.{line_feed}
use Rattle.exchange_text.specs.declared.refusal.TextRefusal.{TextRefusal}
use Rattle.exchange_text.specs.declared.refusal.TextRefusal.TheVariants.{BadLine, NoEnd, Limit, Memory}
use Rattle.exchange_text.specs.Text.{ended, ended_lines, last_line, text_of, AreRead, HasLine, IsLine, IsRefused, StopsAt, UnlessMemory}
use Rattle.exchange_text.proofs.Separators.{cut}

abbrev Lines : Type 0
Lines = List (List ℕ)

-- lines are cut from bytes in one way
cut_line : (line line' rest rest' : List ℕ) → IsLine line → IsLine line' → ended line ++ rest ≡ ended line' ++ rest' → (line ≡ line') × (rest ≡ rest')
cut_line line line' rest rest' is_line is_line' same =
    cut line_feed line line' rest rest' is_line is_line' (sym (append_assoc line (line_feed ∷ []) rest) ∙ (same ∙ append_assoc line' (line_feed ∷ []) rest'))

-- where a line is ended, LF stands
no_line : (line rest : List ℕ) → ¬ IsLine (ended line ++ rest)
no_line [] rest is_line = absurd (cc)
no_line (byte ∷ line) rest is_line = no_line line rest (and_parts _ _ is_line).1

-- bytes have one first line
same_line : (bytes line line' behind behind' : List ℕ) → HasLine bytes line behind → HasLine bytes line' behind' → (line ≡ line') × (behind ≡ behind')
same_line bytes line line' behind behind' has has' =
    cut_line line line' behind behind' has.no_line_feed has'.no_line_feed (sym has.parts ∙ has'.parts)

-- or none
apart : {A : Type 0} (bytes line behind : List ℕ) → IsLine bytes → HasLine bytes line behind → A
apart bytes line behind is_line has = absurd (no_line line behind (subst IsLine has.parts is_line))

-- These lines are right, and however the bytes behind them go on, one line more is not.
abbrev Stops : (Lines → Type 0) → Lines → List ℕ → Type 0
Stops IsRight before rest = (line behind : List ℕ) → HasLine rest line behind → ¬ IsRight (before ++ line ∷ [])

-- A text is right up to one place.
one_stop : (IsRight : Lines → Type 0) → ((before more : Lines) → IsRight (before ++ more) → IsRight before)
    → (before before' : Lines) (rest rest' : List ℕ) → AllByRecursion IsLine before → AllByRecursion IsLine before'
    → IsRight before → IsRight before' → Stops IsRight before rest → Stops IsRight before' rest'
    → ended_lines before ++ rest ≡ ended_lines before' ++ rest' → (before ≡ before') × (rest ≡ rest')
one_stop IsRight front [] [] rest rest' lines lines' right right' stops stops' same = (refl, same)
one_stop IsRight front [] (line ∷ before') rest rest' lines lines' right right' stops stops' same =
    absurd (stops line (ended_lines before' ++ rest') (record { parts = same ∙ append_assoc (ended line) (ended_lines before') rest'; no_line_feed = lines'.0 }) (front (line ∷ []) before' right'))
one_stop IsRight front (line ∷ before) [] rest rest' lines lines' right right' stops stops' same =
    absurd (stops' line (ended_lines before ++ rest) (record { parts = sym same ∙ append_assoc (ended line) (ended_lines before) rest; no_line_feed = lines.0 }) (front (line ∷ []) before right))
one_stop IsRight front (line ∷ before) (line' ∷ before') rest rest' lines lines' right right' stops stops' same =
    let joined = sym (append_assoc (ended line) (ended_lines before) rest) ∙ (same ∙ append_assoc (ended line') (ended_lines before') rest') in
    let parts = cut_line line line' (ended_lines before ++ rest) (ended_lines before' ++ rest') lines.0 lines'.0 joined in
    let behind = one_stop (λ more. IsRight (line ∷ more)) (λ front' more is_right. front (line ∷ front') more is_right)
    before before' rest rest' lines.1 lines'.1 right (subst (λ other. IsRight (other ∷ before')) (sym parts.0) right')
    stops (λ next after has is_right. stops' next after has (subst (λ other. IsRight (other ∷ (before' ++ next ∷ []))) parts.0 is_right))
    parts.1 in
    (rw (parts.0, behind.0) refl, behind.1)

-- A line that may stand before the last one
abbrev pub IsInnerLine : List ℕ → Type 0
IsInnerLine line = IsLine line × (line ≢ last_line)

All-front : {A : Type 0} (P : A → Type 0) (xs ys : List A) → AllByRecursion P (xs ++ ys) → AllByRecursion P xs
All-front P [] ys each = tt
All-front P (x ∷ xs) ys each = (each.0, All-front P xs ys each.1)

-- the one behind the first
All-at : {A : Type 0} (P : A → Type 0) (xs : List A) (y : A) (ys : List A) → AllByRecursion P (xs ++ y ∷ ys) → P y
All-at P [] y ys each = each.0
All-at P (x ∷ xs) y ys each = All-at P xs y ys each.1

are_lines : (lines : Lines) → AllByRecursion IsInnerLine lines → AllByRecursion IsLine lines
are_lines [] each = tt
are_lines (line ∷ lines) each = (each.0.0, are_lines lines each.1)

-- a text of inner lines and a last one has no other such lines
pub one_list_of_lines : (lines lines' : Lines) → AllByRecursion IsInnerLine lines → AllByRecursion IsInnerLine lines' → text_of lines ≡ text_of lines' → lines ≡ lines'
one_list_of_lines lines lines' inner inner' same =
    (one_stop (AllByRecursion IsInnerLine) (All-front IsInnerLine) lines lines' (ended last_line) (ended last_line)
    (are_lines lines inner) (are_lines lines' inner') inner inner' (last_stops lines) (last_stops lines') same).0
  where
    last_stops : (before : Lines) → Stops (AllByRecursion IsInnerLine) before (ended last_line)
    last_stops before line behind has inner =
        (All-at IsInnerLine before line [] inner).1 (same_line (ended last_line) line last_line behind [] has (record { parts = refl; no_line_feed = refl })).0

-- The outcome of a text: a value that fits, whose text it is; or its refusal.
abbrev pub IsOutcomeOf : {V : Type 0} → ℕ → ℕ → (Lines → List ℕ → Type 0) → (V → Lines) → (V → Type 0) → List ℕ → Result V TextRefusal → Type 0
IsOutcomeOf first_lines greatest HasForm lines_of Fits text (Ok value) = Fits value × (text ≡ text_of (lines_of value))
IsOutcomeOf first_lines greatest HasForm lines_of Fits text (Err refusal) = IsRefused first_lines greatest HasForm text refusal

-- A kind of text in which a line of the form for its place has no LF and is not the last one. The lines of a value that fits are of the
-- form for their places, the first lines among them, and a value is known by its lines.
module _ {V : Type 0} (first_lines greatest : ℕ) (HasForm : Lines → List ℕ → Type 0) (lines_of : V → Lines) (Fits : V → Type 0)
    (inner : (before : Lines) (line : List ℕ) → HasForm before line → IsInnerLine line)
    (are_read : (value : V) → Fits value → AreRead first_lines greatest HasForm (lines_of value))
    (first_read : (value : V) → first_lines ≤ length (lines_of value))
    (same_value : (value other : V) → Fits value → Fits other → lines_of value ≡ lines_of other → value ≡ other)
  where
    abbrev Read : Lines → Type 0
    Read lines = AreRead first_lines greatest HasForm lines

    abbrev IsOutcome : List ℕ → Result V TextRefusal → Type 0
    IsOutcome text outcome = IsOutcomeOf first_lines greatest HasForm lines_of Fits text outcome

    read_front : (before more : Lines) → Read (before ++ more) → Read before
    read_front before more read = record {
      few = let few = read.few in omega (arith, length-append before more);
      each = λ front behind line same. read.each front (behind ++ more) line (ap (λ lines. lines ++ more) same ∙ append_assoc front (line ∷ behind) more);
    }

    inner_behind : (before lines : Lines) → Read (before ++ lines) → AllByRecursion IsInnerLine lines
    inner_behind before [] read = tt
    inner_behind before (line ∷ lines) read = (
      inner before line (read.each before lines line refl),
      inner_behind (before ++ line ∷ []) lines (subst Read (sym (append_assoc before (line ∷ []) lines)) read),
    )

    lines_read : (lines : Lines) → Read lines → AllByRecursion IsLine lines
    lines_read lines read = are_lines lines (inner_behind [] lines read)

    -- nothing is read behind a last line
    last_stops : (before : Lines) (rest behind : List ℕ) → HasLine rest last_line behind → Stops Read before rest
    last_stops before rest behind last line behind' has read =
        (inner before line (read.each before [] line refl)).1 (same_line rest line last_line behind' behind has last).0

    stops : (before : Lines) (rest : List ℕ) (refusal : TextRefusal) → StopsAt first_lines greatest HasForm before rest refusal → Stops Read before rest
    stops before rest (NoEnd number) (is_line, number_is) line behind has read = apart rest line behind is_line has
    stops before rest (Limit number) (passes, number_is) line behind has read =
        let few = read.few in absurd (omega (arith, passes.full, length-append before (line ∷ [])))
    stops before rest (BadLine number) (inl (goes_on, number_is)) line behind has read = last_stops before rest goes_on.behind goes_on.last_next line behind has read
    stops before rest (BadLine number) (inr (bad, number_is)) line behind has read =
        bad.no_form (subst (HasForm before) (same_line rest line bad.line behind bad.behind has bad.next).0 (read.each before [] line refl))
    stops before rest Memory is line behind has read = is

    -- what is behind the lines that were read, and what is made of it
    abbrev IsAt : Lines → List ℕ → Result V TextRefusal → Type 0
    IsAt before rest (Ok value) = Fits value × (lines_of value ≡ before) × HasLine rest last_line []
    IsAt before rest (Err refusal) = StopsAt first_lines greatest HasForm before rest refusal

    record Reading (text : List ℕ) (outcome : Result V TextRefusal) : Type 0 where
      before : Lines
      rest : List ℕ
      parts : text ≡ ended_lines before ++ rest
      read : Read before
      stops : Stops Read before rest
      is_at : IsAt before rest outcome

    reading_of : (text : List ℕ) (outcome : Result V TextRefusal) → IsOutcome text outcome → Reading text outcome
    reading_of text (Ok value) is =
        let last : HasLine (ended last_line) last_line [] = record { parts = refl; no_line_feed = refl } in
        record {
          before = lines_of value;
          rest = ended last_line;
          parts = is.1;
          read = are_read value is.0;
          stops = last_stops (lines_of value) (ended last_line) [] last;
          is_at = (is.0, refl, last);
        }
    reading_of text (Err refusal) is = record {
      before = is.before;
      rest = is.rest;
      parts = is.parts;
      read = is.read;
      stops = stops is.before is.rest refusal is.stops;
      is_at = is.stops;
    }

    agree : (before : Lines) (rest : List ℕ) (one other : Result V TextRefusal) → IsAt before rest one → IsAt before rest other → one ≡ other
    agree before rest (Ok v) (Ok w) (fits, is, last) (fits', is', last') = ap Ok (same_value v w fits fits' (is ∙ sym is'))
    agree before rest (Ok v) (Err (NoEnd n)) (fits, is, last) (is_line, n_is) = apart rest last_line [] is_line last
    agree before rest (Ok v) (Err (Limit n)) (fits, is, last) (passes, n_is) = absurd (passes.not_last (same_line rest _ _ _ _ passes.next last).0)
    agree before rest (Ok v) (Err (BadLine n)) (fits, is, last) (inl (goes_on, n_is)) = absurd (goes_on.more (same_line rest _ _ _ _ goes_on.last_next last).1)
    agree before rest (Ok v) (Err (BadLine n)) (fits, is, last) (inr (bad, n_is)) =
        absurd (bad.not_last (subst (λ lines. first_lines ≤ length lines) is (first_read v), (same_line rest _ _ _ _ bad.next last).0))
    agree before rest (Err (NoEnd n)) (Ok v) (is_line, n_is) (fits, is, last) = apart rest last_line [] is_line last
    agree before rest (Err (NoEnd n)) (Err (NoEnd m)) (is_line, n_is) (is_line', m_is) = ap (λ k. Err (NoEnd k)) (n_is ∙ sym m_is)
    agree before rest (Err (NoEnd n)) (Err (Limit m)) (is_line, n_is) (passes, m_is) = apart rest _ _ is_line passes.next
    agree before rest (Err (NoEnd n)) (Err (BadLine m)) (is_line, n_is) (inl (goes_on, m_is)) = apart rest _ _ is_line goes_on.last_next
    agree before rest (Err (NoEnd n)) (Err (BadLine m)) (is_line, n_is) (inr (bad, m_is)) = apart rest _ _ is_line bad.next
    agree before rest (Err (Limit n)) (Ok v) (passes, n_is) (fits, is, last) = absurd (passes.not_last (same_line rest _ _ _ _ passes.next last).0)
    agree before rest (Err (Limit n)) (Err (NoEnd m)) (passes, n_is) (is_line, m_is) = apart rest _ _ is_line passes.next
    agree before rest (Err (Limit n)) (Err (Limit m)) (passes, n_is) (passes', m_is) = ap (λ k. Err (Limit k)) (n_is ∙ sym m_is)
    agree before rest (Err (Limit n)) (Err (BadLine m)) (passes, n_is) (inl (goes_on, m_is)) = absurd (passes.not_last (same_line rest _ _ _ _ passes.next goes_on.last_next).0)
    agree before rest (Err (Limit n)) (Err (BadLine m)) (passes, n_is) (inr (bad, m_is)) = let room = bad.room in absurd (omega (arith, passes.full))
    agree before rest (Err (BadLine n)) (Ok v) (inl (goes_on, n_is)) (fits, is, last) = absurd (goes_on.more (same_line rest _ _ _ _ goes_on.last_next last).1)
    agree before rest (Err (BadLine n)) (Ok v) (inr (bad, n_is)) (fits, is, last) =
        absurd (bad.not_last (subst (λ lines. first_lines ≤ length lines) is (first_read v), (same_line rest _ _ _ _ bad.next last).0))
    agree before rest (Err (BadLine n)) (Err (NoEnd m)) (inl (goes_on, n_is)) (is_line, m_is) = apart rest _ _ is_line goes_on.last_next
    agree before rest (Err (BadLine n)) (Err (NoEnd m)) (inr (bad, n_is)) (is_line, m_is) = apart rest _ _ is_line bad.next
    agree before rest (Err (BadLine n)) (Err (Limit m)) (inl (goes_on, n_is)) (passes, m_is) = absurd (passes.not_last (same_line rest _ _ _ _ passes.next goes_on.last_next).0)
    agree before rest (Err (BadLine n)) (Err (Limit m)) (inr (bad, n_is)) (passes, m_is) = let room = bad.room in absurd (omega (arith, passes.full))
    agree before rest (Err (BadLine n)) (Err (BadLine m)) (inl (goes_on, n_is)) (inl (goes_on', m_is)) = ap (λ k. Err (BadLine k)) (n_is ∙ sym m_is)
    agree before rest (Err (BadLine n)) (Err (BadLine m)) (inl (goes_on, n_is)) (inr (bad, m_is)) =
        absurd (bad.not_last (goes_on.first_read, (same_line rest _ _ _ _ bad.next goes_on.last_next).0))
    agree before rest (Err (BadLine n)) (Err (BadLine m)) (inr (bad, n_is)) (inl (goes_on, m_is)) =
        absurd (bad.not_last (goes_on.first_read, (same_line rest _ _ _ _ bad.next goes_on.last_next).0))
    agree before rest (Err (BadLine n)) (Err (BadLine m)) (inr (bad, n_is)) (inr (bad', m_is)) = ap (λ k. Err (BadLine k)) (n_is ∙ sym m_is)
    agree before rest (Err Memory) other is is' = absurd is
    agree before rest (Ok v) (Err Memory) is is' = absurd is'
    agree before rest (Err (NoEnd n)) (Err Memory) is is' = absurd is'
    agree before rest (Err (Limit n)) (Err Memory) is is' = absurd is'
    agree before rest (Err (BadLine n)) (Err Memory) is is' = absurd is'

    pub one_outcome : (text : List ℕ) (one other : Result V TextRefusal) → IsOutcome text one → IsOutcome text other → one ≡ other
    one_outcome text one other is is' =
        let r = reading_of text one is in
        let r' = reading_of text other is' in
        let same = one_stop Read read_front r.before r'.before r.rest r'.rest
        (lines_read r.before r.read) (lines_read r'.before r'.read) r.read r'.read r.stops r'.stops (sym r.parts ∙ r'.parts) in
        agree r.before r.rest one other r.is_at (subst (λ before. IsAt before r.rest other) (sym same.0) (subst (λ rest. IsAt r'.before rest other) (sym same.1) r'.is_at))

    -- What a reading gives is the one outcome, where it gives an outcome or wants memory.
    pub only_value : {A : Type 0} (value_of : A → V) (text : List ℕ) (given : Result A TextRefusal)
        → IfOk given (λ read. IsOutcome text (Ok (value_of read))) → IfErr given (λ error. UnlessMemory error (IsRefused first_lines greatest HasForm text error))
        → (value : V) → Fits value → text ≡ text_of (lines_of value) → MatchResult given (λ read. value_of read ≡ value) (λ error. error ≡ Memory)
    only_value value_of text (Ok read) found refused value fits is =
        let same = one_outcome text (Ok (value_of read)) (Ok value) found (fits, is) in cc
    only_value value_of text (Err (BadLine number)) found refused value fits is =
        let same = one_outcome text (Err (BadLine number)) (Ok value) refused (fits, is) in absurd (cc)
    only_value value_of text (Err (NoEnd number)) found refused value fits is =
        let same = one_outcome text (Err (NoEnd number)) (Ok value) refused (fits, is) in absurd (cc)
    only_value value_of text (Err (Limit number)) found refused value fits is =
        let same = one_outcome text (Err (Limit number)) (Ok value) refused (fits, is) in absurd (cc)
    only_value value_of text (Err Memory) found refused value fits is = refl

    pub only_refusal : {A : Type 0} (value_of : A → V) (text : List ℕ) (given : Result A TextRefusal)
        → IfOk given (λ read. IsOutcome text (Ok (value_of read))) → IfErr given (λ error. UnlessMemory error (IsRefused first_lines greatest HasForm text error))
        → (refusal : TextRefusal) → IsRefused first_lines greatest HasForm text refusal → IsErrAnd given (λ error. UnlessMemory error (error ≡ refusal))
    only_refusal value_of text (Ok read) found refused refusal is =
        let same = one_outcome text (Ok (value_of read)) (Err refusal) found is in absurd (cc)
    only_refusal value_of text (Err (BadLine number)) found refused refusal is =
        let same = one_outcome text (Err (BadLine number)) (Err refusal) refused is in cc
    only_refusal value_of text (Err (NoEnd number)) found refused refusal is =
        let same = one_outcome text (Err (NoEnd number)) (Err refusal) refused is in cc
    only_refusal value_of text (Err (Limit number)) found refused refusal is =
        let same = one_outcome text (Err (Limit number)) (Err refusal) refused is in cc
    only_refusal value_of text (Err Memory) found refused refusal is = tt
