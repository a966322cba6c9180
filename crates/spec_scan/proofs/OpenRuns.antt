-- Runs that are not whole: every front of a run that may come next is taken, and what is taken can be ended.
use Rattle.std.proofs.Common.{◌≡◌, ℕ, ◌+◌, ◌-◌, ◌*◌, ◌≤◌, true, false, not, ◌&&◌, ◌||◌, ◌==◌, nat_eq, List, [], ◌∷◌, ◌++◌, length, Option, Some, None, find, bytes_eq, is_some, refl, sym, ◌∙◌, subst, inl, inr, arith, length-append, append-nil}
use Rattle.std.specs.List.{list_all, list_any, starts_with}
use Rattle.std.proofs.lemmas.Bool.{true≢false, and_parts, and_from, or_cases, or_left, or_right, leb-true, le-leb}
use Rattle.std.proofs.lemmas.Bool.Decides.{nat_tests}
use Rattle.std.proofs.lemmas.List.Folds.{list_all-append}
use Rattle.std.proofs.lemmas.List.Sums.{fold-append}
use Rattle.spec_model.proofs.WrittenNumbers.{number_behind-at_least}
use Rattle.spec_model.specs.declared.token.Keyword.{Keyword}
use Rattle.spec_model.specs.declared.token.Keyword.TheVariants as words
use Rattle.spec_model.specs.declared.token.Token.{Token}
use Rattle.spec_model.specs.declared.token.Token.TheVariants as tokens
use Rattle.spec_model.specs.Canonical.{keyword_text}
use Rattle.spec_model.specs.Pattern.{is_digit, number_written}
use Rattle.spec_model.specs.Spelling.{IsRun, number, keyword, name, is_number, is_word, is_run_byte}
use Rattle.spec_model.specs.Value.{greatest}
use Rattle.spec_scan.specs.declared.goal.Class.TheVariants as classes
use Rattle.spec_scan.specs.declared.goal.Goal.{Goal}
use Rattle.spec_scan.specs.Scan.{keywords, may_become, opens}
use Rattle.spec_scan.specs.Table.{class_of, shift, takes}
use Rattle.spec_scan.proofs.RunTokens.{some_passes, any_passes, begun, begins, none_left, keyword_named}

pub took : {A : Type 0} (o : Option A) → is_some o ≡ true → (x : A) × (o ≡ Some x)
took None is = absurd cc
took (Some x) is = (x, refl)

front_number : (byte : ℕ) (front more : List ℕ) → is_number (byte ∷ (front ++ more)) ≡ true → is_number (byte ∷ front) ≡ true
front_number byte front more is =
    let parts = and_parts _ _ is in
    let tests = and_parts _ _ parts.0 in
    let digits = and_parts _ _ tests.0 in
    let all : list_all is_digit (byte ∷ front) ≡ true =
    (and_parts (list_all is_digit (byte ∷ front)) (list_all is_digit more) (sym (list_all-append is_digit (byte ∷ front) more)
    ∙ digits.1)).0 in
    let shape : ((length (byte ∷ front) == 1) || not (byte == 48)) ≡ true = front_shape byte front more tests.1 in
    let grows : number_written (byte ∷ front) ≤ number_written (byte ∷ (front ++ more)) =
    subst (λ n. number_written (byte ∷ front) ≤ n) (sym (fold-append (λ number digit. 10 * number + (digit - 48)) 0 (byte ∷ front) more))
    (number_behind-at_least (number_written (byte ∷ front)) more) in
    let small : number_written (byte ∷ (front ++ more)) ≤ greatest = leb-true _ _ parts.1 in
    and_from _ _ (and_from _ _ (and_from _ _ digits.0 all) shape) (le-leb _ _ (omega arith))
  where
    front_shape : (byte : ℕ) (front more : List ℕ) → ((length (byte ∷ (front ++ more)) == 1) || not (byte == 48)) ≡ true
        → ((length (byte ∷ front) == 1) || not (byte == 48)) ≡ true
    front_shape byte front more known =
        elim (or_cases (length (byte ∷ (front ++ more)) == 1) (not (byte == 48)) known) [
          | inl one ↦ (let total = length-append front more in grind (arith, nat_tests))
          | inr no_zero ↦ or_right (length (byte ∷ front) == 1) (not (byte == 48)) no_zero
        ]

front_word : (byte : ℕ) (front more : List ℕ) → is_word (byte ∷ (front ++ more)) ≡ true → is_word (byte ∷ front) ≡ true
front_word byte front more is =
    let parts = and_parts _ _ is in
    let tests = and_parts _ _ parts.0 in
    let all : list_all is_run_byte (byte ∷ front) ≡ true =
    (and_parts (list_all is_run_byte (byte ∷ front)) (list_all is_run_byte more) (sym (list_all-append is_run_byte (byte ∷ front) more) ∙ tests.1)).0 in
    let short : length (byte ∷ (front ++ more)) ≤ 32 = leb-true _ _ parts.1 in
    let total = length-append (byte ∷ front) more in
    and_from _ _ (and_from _ _ tests.0 all) (le-leb _ _ (omega arith))

-- each front of a run that may come next is taken
pub run_opens : (below : List Goal) {run : List ℕ} {token : Token} → IsRun run token → (byte : ℕ) (front more : List ℕ)
    → run ≡ byte ∷ (front ++ more)
    → takes below (class_of token) ≡ true → opens below (byte ∷ front) ≡ true
run_opens below (number {run} is) byte front more same taken =
    or_left _ _ (or_left _ _ (and_from _ _ (front_number byte front more (subst (λ r. is_number r ≡ true) same is)) taken))
run_opens below (keyword word) byte front more same taken =
    let starts : starts_with nat_eq (keyword_text word) (byte ∷ front) ≡ true =
    subst (λ text. starts_with nat_eq text (byte ∷ front) ≡ true) (sym same) (begins (byte ∷ front) more) in
    or_right _ _ (some_passes (may_become below (byte ∷ front)) word (and_from _ _ starts taken))
run_opens below (name {run} is other) byte front more same taken =
    or_left _ _ (or_right _ _ (and_from _ _ (front_word byte front more (subst (λ r. is_word r ≡ true) same is)) taken))

-- A run that is open ends so, and then may come next.
pub record Ends (below : List Goal) (run : List ℕ) : Type 0 where
  pub more : List ℕ
  pub token : Token
  pub is : IsRun (run ++ more) token
  pub after : List Goal
  pub moves : shift below (class_of token) ≡ Some after

plain_keyword : (word : Keyword) → list_all (λ byte. not (byte == 95)) (keyword_text word) ≡ true
plain_keyword words.Frame = refl
plain_keyword _ = refl

longer_is_word : (word : Keyword) → is_word (keyword_text word ++ 95 ∷ []) ≡ true
longer_is_word words.Frame = refl
longer_is_word _ = refl

longer_is_no_keyword : (word other : Keyword) → keyword_text word ++ 95 ∷ [] ≡ keyword_text other → ⊥
longer_is_no_keyword word other same =
    let all : list_all (λ byte. not (byte == 95)) (keyword_text word ++ 95 ∷ []) ≡ true =
    subst (λ text. list_all (λ byte. not (byte == 95)) text ≡ true) (sym same) (plain_keyword other) in
    let last = (and_parts (list_all (λ byte. not (byte == 95)) (keyword_text word)) false (sym (list_all-append (λ byte. not (byte == 95)) (keyword_text word) (95 ∷ [])) ∙ all)).1 in
    true≢false (sym last)

word_ends : (below : List Goal) (run : List ℕ) (found : Option Keyword)
    → find (λ word. bytes_eq (keyword_text word) run) keywords ≡ found
    → is_word run ≡ true → takes below classes.Name ≡ true → Ends below run
word_ends below run None searched is taken =
    let got = took (shift below classes.Name) taken in record {
      more = [];
      token = tokens.Name run;
      is = subst (λ r. IsRun r (tokens.Name run)) (sym (append-nil run)) (name is (none_left run searched));
      after = got.0;
      moves = got.1;
    }
word_ends below run (Some word) searched is taken =
    let got = took (shift below classes.Name) taken in
    let same = keyword_named run word searched in record {
      more = 95 ∷ [];
      token = tokens.Name (run ++ 95 ∷ []);
      is = subst (λ r. IsRun (r ++ 95 ∷ []) (tokens.Name (r ++ 95 ∷ []))) same (name (longer_is_word word) (longer_is_no_keyword word));
      after = got.0;
      moves = got.1;
    }

pub run_ends : (below : List Goal) (run : List ℕ) → opens below run ≡ true → Ends below run
run_ends below run is =
    elim (or_cases (is_number run && takes below classes.Number || is_word run && takes below classes.Name) (list_any (may_become below run) keywords) is) [
      | inl short ↦ elim (or_cases (is_number run && takes below classes.Number) (is_word run && takes below classes.Name) short) [
        | inl digits ↦ (
            let parts = and_parts (is_number run) (takes below classes.Number) digits in
            let got = took (shift below classes.Number) parts.1 in record {
              more = [];
              token = tokens.Number (number_written run);
              is = subst (λ r. IsRun r (tokens.Number (number_written run))) (sym (append-nil run)) (number parts.0);
              after = got.0;
              moves = got.1;
            })
        | inr letters ↦ (
            let parts = and_parts (is_word run) (takes below classes.Name) letters in
            word_ends below run (find (λ word. bytes_eq (keyword_text word) run) keywords) refl parts.0 parts.1)
      ]
      | inr begins_one ↦ (
          let one = any_passes (may_become below run) keywords begins_one in
          let parts = and_parts (starts_with nat_eq (keyword_text one.0) run) (takes below (classes.Keyword one.0)) one.1 in
          let split = begun (keyword_text one.0) run parts.0 in
          let got = took (shift below (classes.Keyword one.0)) parts.1 in record {
            more = split.0;
            token = tokens.Keyword one.0;
            is = subst (λ r. IsRun r (tokens.Keyword one.0)) split.1 (keyword one.0);
            after = got.0;
            moves = got.1;
          })
    ]
