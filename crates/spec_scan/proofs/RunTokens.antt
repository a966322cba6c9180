-- Runs: which tokens they are, and how they begin.
use Rattle.std.proofs.Common.{◌≡◌, ℕ, Bool, true, false, not, nat_eq, List, [], ◌∷◌, ◌++◌, length, take, drop, Option, Some, None, find, bytes_eq, refl, sym, ◌∙◌, ap, subst, inl, inr}
use Rattle.std.specs.List.{list_any, starts_with, AllByRecursion}
use Rattle.std.proofs.Math.Seq.{take-append_seam}
use Rattle.std.proofs.lemmas.Bool.{true≢false, not-true, and_parts, or_cases, cases_Bool}
use Rattle.std.proofs.lemmas.List.{take-append-drop}
use Rattle.std.proofs.lemmas.Slice.Eq.{bytes_eq-Decides}
use Rattle.spec_model.specs.declared.token.Keyword.{Keyword}
use Rattle.spec_model.specs.declared.token.Keyword.TheVariants as words
use Rattle.spec_model.specs.declared.token.Token.{Token}
use Rattle.spec_model.specs.declared.token.Token.TheVariants as tokens
use Rattle.spec_model.specs.Canonical.{keyword_text}
use Rattle.spec_model.specs.Pattern.{is_digit, number_written}
use Rattle.spec_model.specs.Spelling.{IsRun, number, keyword, name, is_number, is_word, begins_with}
use Rattle.spec_scan.specs.Scan.{keywords, token_of_run, word_of_run}

-- what holds of all keywords in the list holds of each
pub each_keyword : (P : Keyword → Type 0) → AllByRecursion P keywords → (word : Keyword) → P word
each_keyword P all words.Frame = all.0
each_keyword P all words.Line = all.1.0
each_keyword P all words.Len16 = all.1.1.0
each_keyword P all words.Conns = all.1.1.1.0
each_keyword P all words.Text = all.1.1.1.1.0
each_keyword P all words.Num = all.1.1.1.1.1.0
each_keyword P all words.Conn = all.1.1.1.1.1.1.0
each_keyword P all words.Table = all.1.1.1.1.1.1.1.0
each_keyword P all words.Start = all.1.1.1.1.1.1.1.1.0
each_keyword P all words.Loop = all.1.1.1.1.1.1.1.1.1.0
each_keyword P all words.Recv = all.1.1.1.1.1.1.1.1.1.1.0
each_keyword P all words.From = all.1.1.1.1.1.1.1.1.1.1.1.0
each_keyword P all words.Case = all.1.1.1.1.1.1.1.1.1.1.1.1.0
each_keyword P all words.Other = all.1.1.1.1.1.1.1.1.1.1.1.1.1.0
each_keyword P all words.Send = all.1.1.1.1.1.1.1.1.1.1.1.1.1.1.0
each_keyword P all words.Pick = all.1.1.1.1.1.1.1.1.1.1.1.1.1.1.1.0
each_keyword P all words.Hex = all.1.1.1.1.1.1.1.1.1.1.1.1.1.1.1.1.0
each_keyword P all words.Alnum = all.1.1.1.1.1.1.1.1.1.1.1.1.1.1.1.1.1.0
each_keyword P all words.Any = all.1.1.1.1.1.1.1.1.1.1.1.1.1.1.1.1.1.1.0
each_keyword P all words.Set = all.1.1.1.1.1.1.1.1.1.1.1.1.1.1.1.1.1.1.1.0
each_keyword P all words.If = all.1.1.1.1.1.1.1.1.1.1.1.1.1.1.1.1.1.1.1.1.0
each_keyword P all words.Else = all.1.1.1.1.1.1.1.1.1.1.1.1.1.1.1.1.1.1.1.1.1.0
each_keyword P all words.Either = all.1.1.1.1.1.1.1.1.1.1.1.1.1.1.1.1.1.1.1.1.1.1.0
each_keyword P all words.Or = all.1.1.1.1.1.1.1.1.1.1.1.1.1.1.1.1.1.1.1.1.1.1.1.0
each_keyword P all words.Where = all.1.1.1.1.1.1.1.1.1.1.1.1.1.1.1.1.1.1.1.1.1.1.1.1.0
each_keyword P all words.Put = all.1.1.1.1.1.1.1.1.1.1.1.1.1.1.1.1.1.1.1.1.1.1.1.1.1.0
each_keyword P all words.Get = all.1.1.1.1.1.1.1.1.1.1.1.1.1.1.1.1.1.1.1.1.1.1.1.1.1.1.0
each_keyword P all words.Del = all.1.1.1.1.1.1.1.1.1.1.1.1.1.1.1.1.1.1.1.1.1.1.1.1.1.1.1.0
each_keyword P all words.Word = all.1.1.1.1.1.1.1.1.1.1.1.1.1.1.1.1.1.1.1.1.1.1.1.1.1.1.1.1.0
each_keyword P all words.Rest = all.1.1.1.1.1.1.1.1.1.1.1.1.1.1.1.1.1.1.1.1.1.1.1.1.1.1.1.1.1.0

-- where a search finds nothing, no keyword passes its test
none_found : (test : Keyword → Bool) (list : List Keyword) → find test list ≡ None
    → AllByRecursion (λ word. test word ≡ false) list
none_found test [] is = tt
none_found test (word ∷ list) is =
    elim (cases_Bool (test word)) [
      | inl yes_it_is ↦ absurd (let found : Some word ≡ None = rw yes_it_is at is in cc)
      | inr it_is_not ↦ (it_is_not, none_found test list (rw it_is_not at is))
    ]

-- and the other way round
nothing_to_find : (test : Keyword → Bool) (list : List Keyword) → ((word : Keyword) → test word ≡ false) → find test list ≡ None
nothing_to_find test [] fails = refl
nothing_to_find test (word ∷ list) fails = rw (fails word) (nothing_to_find test list fails)

found_passes : (test : Keyword → Bool) (list : List Keyword) (word : Keyword) → find test list ≡ Some word → test word ≡ true
found_passes test [] mark is = absurd cc
found_passes test (first ∷ list) word is =
    elim (cases_Bool (test first)) [
      | inl yes_it_is ↦ (let same : Some first ≡ Some word = rw yes_it_is at is in let e : first ≡ word = cc in subst (λ w. test w ≡ true) e yes_it_is)
      | inr it_is_not ↦ found_passes test list word (rw it_is_not at is)
    ]

pub any_passes : (test : Keyword → Bool) (list : List Keyword) → list_any test list ≡ true → (word : Keyword) × (test word ≡ true)
any_passes test [] is = absurd cc
any_passes test (word ∷ list) is =
    elim (or_cases (test word) (list_any test list) is) [ inl here ↦ (word, here) | inr later ↦ any_passes test list later ]

none_passes : (test : Keyword → Bool) (list : List Keyword) → list_any test list ≡ false
    → AllByRecursion (λ word. test word ≡ false) list
none_passes test [] is = tt
none_passes test (word ∷ list) is =
    elim (cases_Bool (test word)) [
      | inl yes_it_is ↦ absurd (let found : true ≡ false = rw yes_it_is at is in true≢false found)
      | inr it_is_not ↦ (it_is_not, none_passes test list (rw it_is_not at is))
    ]

-- one keyword that passes a test is enough
pub some_passes : (test : Keyword → Bool) (word : Keyword) → test word ≡ true → list_any test keywords ≡ true
some_passes test word passes =
    elim (cases_Bool (list_any test keywords)) [
      | inl yes_it_is ↦ yes_it_is
      | inr it_is_not ↦ absurd (true≢false (sym passes
          ∙ each_keyword (λ w. test w ≡ false) (none_passes test keywords it_is_not) word))
    ]

differs : (word : Keyword) (run : List ℕ) → (run ≡ keyword_text word → ⊥) → bytes_eq (keyword_text word) run ≡ false
differs word run other =
    elim (cases_Bool (bytes_eq (keyword_text word) run)) [
      | inl yes_it_is ↦ absurd (other (sym ((bytes_eq-Decides (keyword_text word) run).0 yes_it_is)))
      | inr it_is_not ↦ it_is_not
    ]

begins_otherwise : (run : List ℕ) → begins_with (λ byte. not (is_digit byte)) run ≡ true → is_number run ≡ false
begins_otherwise [] is = refl
begins_otherwise (byte ∷ run) is = rw (not-true (is_digit byte) is) refl

keyword_token : (word : Keyword) → token_of_run (keyword_text word) ≡ Some (tokens.Keyword word)
keyword_token words.Frame = refl
keyword_token _ = refl

-- the token of a run
pub token_of : {run : List ℕ} {token : Token} → IsRun run token → token_of_run run ≡ Some token
token_of (number is) = rw is refl
token_of (keyword word) = keyword_token word
token_of (name {run} is other) =
    let parts = and_parts _ _ is in
    let front = and_parts _ _ parts.0 in
    let none : find (λ word. bytes_eq (keyword_text word) run) keywords ≡ None = nothing_to_find _ keywords (λ word. differs word run (other word)) in
    rw (begins_otherwise run front.0, none, is) refl

word_run : (run : List ℕ) (token : Token) (found : Option Keyword)
    → find (λ word. bytes_eq (keyword_text word) run) keywords ≡ found
    → word_of_run run found ≡ Some token → IsRun run token
word_run run token (Some word) searched is =
    let same = (bytes_eq-Decides (keyword_text word) run).0 (found_passes (λ w. bytes_eq (keyword_text w) run) keywords word searched) in
    let e : tokens.Keyword word ≡ token = cc in
    subst (λ t. IsRun run t) e (subst (λ r. IsRun r (tokens.Keyword word)) same (keyword word))
word_run run token None searched is =
    elim (cases_Bool (is_word run)) [
      | inl yes_it_is ↦ (
          let e : Some (tokens.Name run) ≡ Some token = rw yes_it_is at is in
          let same : tokens.Name run ≡ token = cc in
          let all = none_found (λ word. bytes_eq (keyword_text word) run) keywords searched in
          subst (λ t. IsRun run t) same (name yes_it_is (λ word equal.
          true≢false (sym ((bytes_eq-Decides (keyword_text word) run).1 (sym equal))
          ∙ each_keyword (λ w. bytes_eq (keyword_text w) run ≡ false) all word))))
      | inr it_is_not ↦ absurd (let e : None ≡ Some token = rw it_is_not at is in cc)
    ]

-- what has the token is a run
pub run_of : (run : List ℕ) (token : Token) → token_of_run run ≡ Some token → IsRun run token
run_of run token is =
    elim (cases_Bool (is_number run)) [
      | inl yes_it_is ↦ (
          let e : Some (tokens.Number (number_written run)) ≡ Some token = rw yes_it_is at is in
          let same : tokens.Number (number_written run) ≡ token = cc in
          subst (λ t. IsRun run t) same (number yes_it_is))
      | inr it_is_not ↦ word_run run token (find (λ word. bytes_eq (keyword_text word) run) keywords) refl (rw it_is_not at is)
    ]

-- a text that begins with a run has more behind it
pub begun : (text run : List ℕ) → starts_with nat_eq text run ≡ true → (more : List ℕ) × (text ≡ run ++ more)
begun text run is =
    let same = (bytes_eq-Decides run (take (length run) text)).0 is in
    (drop (length run) text, sym (take-append-drop (length run) text) ∙ ap (λ front. front ++ drop (length run) text) (sym same))

pub begins : (run more : List ℕ) → starts_with nat_eq (run ++ more) run ≡ true
begins run more = (bytes_eq-Decides run (take (length run) (run ++ more))).1 (sym (take-append_seam run more))

-- what a search for a run among the keywords tells
pub keyword_named : (run : List ℕ) (word : Keyword) → find (λ w. bytes_eq (keyword_text w) run) keywords ≡ Some word
    → keyword_text word ≡ run
keyword_named run word searched =
    (bytes_eq-Decides (keyword_text word) run).0 (found_passes (λ w. bytes_eq (keyword_text w) run) keywords word searched)

pub none_left : (run : List ℕ) → find (λ w. bytes_eq (keyword_text w) run) keywords ≡ None → (word : Keyword)
    → run ≡ keyword_text word → ⊥
none_left run searched word equal =
    let all = none_found (λ w. bytes_eq (keyword_text w) run) keywords searched in
    true≢false (sym ((bytes_eq-Decides (keyword_text word) run).1 (sym equal))
    ∙ each_keyword (λ w. bytes_eq (keyword_text w) run ≡ false) all word)
