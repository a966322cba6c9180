-- What one step does: which tokens it adds, and how a text that goes on behind the byte goes on before it.
use Rattle.std.proofs.Common.{◌≡◌, ℕ, ◌+◌, ◌<◌, ◌≤◌, Bool, true, false, ◌||◌, ◌==◌, List, [], ◌∷◌, ◌++◌, length, Option, Some, None, option_map, refl, sym, ap, ◌∙◌, subst, inl, inr, arith, append-nil}
use Rattle.std.proofs.lemmas.Bool.{eqb-true, cases_Bool, cond-true}
use Rattle.spec_model.specs.declared.token.Placed.{Placed}
use Rattle.spec_model.specs.declared.token.Punctuation.{Punctuation}
use Rattle.spec_model.specs.declared.token.Punctuation.TheVariants as signs
use Rattle.spec_model.specs.declared.token.Token.{Token}
use Rattle.spec_model.specs.declared.token.Token.TheVariants as tokens
use Rattle.spec_model.specs.Canonical.{sign_text}
use Rattle.spec_model.specs.Quote.{quote_sign}
use Rattle.spec_model.specs.Spelling.{Spelled, blank, sign, is_blank, comment_sign, is_run_byte, is_whole}
use Rattle.spec_scan.specs.declared.goal.Class.TheVariants as classes
use Rattle.spec_scan.specs.declared.goal.Goal.{Goal}
use Rattle.spec_scan.specs.declared.part.Part.{Part}
use Rattle.spec_scan.specs.declared.part.Part.TheVariants.{Between, Comment, Run, Inside, Escape, FirstDigit, SecondDigit, Equal, Bang}
use Rattle.spec_scan.specs.Scan.{opens, sign_of, State, state, take_token, take_sign, only_if, between}
use Rattle.spec_scan.specs.Table.{class_of, shift, shifts, takes}
use Rattle.spec_scan.proofs.Back.{Rising}
use Rattle.spec_scan.proofs.Goes.{Goes, token_at, moved_to, run_begun, text_begun, comment_begun, equal_begun, bang_begun}

-- the place where a part began
abbrev pub start : Part → ℕ → ℕ
start Between place = place
start Comment place = place
start (Run at front) place = at
start (Inside at text) place = at
start (Escape at text) place = at
start (FirstDigit at text) place = at
start (SecondDigit at text high) place = at
start (Equal at) place = at
start (Bang at) place = at

-- A part began before this place, and can be ended.
abbrev pub IsOpen : ℕ → Part → List Goal → Type 0
IsOpen place Between below = Unit {0}
IsOpen place Comment below = Unit {0}
IsOpen place (Run at front) below = (at < place) × (opens below front ≡ true)
IsOpen place (Inside at text) below = (at < place) × (takes below classes.Text ≡ true)
IsOpen place (Escape at text) below = (at < place) × (takes below classes.Text ≡ true)
IsOpen place (FirstDigit at text) below = (at < place) × (takes below classes.Text ≡ true)
IsOpen place (SecondDigit at text high) below = (at < place) × (takes below classes.Text ≡ true) × (high < 16)
IsOpen place (Equal at) below =
    (at < place) × ((takes below (classes.Sign signs.Becomes) || takes below (classes.Sign signs.Same)) ≡ true)
IsOpen place (Bang at) below = (at < place) × (takes below (classes.Sign signs.Other) ≡ true)

-- The byte at a place leads from this part to that one.
pub record Moved (place byte : ℕ) (part : Part) (below : List Goal) (placed : List Placed) (s : State) : Type 0 where
  pub new : List Placed
  pub added : s.placed ≡ placed ++ new
  pub runs : shifts new below ≡ Some s.below
  pub rising : Rising (start part place) (start s.part (place + 1)) new
  pub open_part : IsOpen (place + 1) s.part s.below
  pub back : (bytes : List ℕ) (ts : List Placed) → Goes s.part (place + 1) bytes ts → Goes part place (byte ∷ bytes) (new ++ ts)

pub only_if_gave : (test : Bool) (s other : State) → only_if test s ≡ Some other → (test ≡ true) × (s ≡ other)
only_if_gave true s other is = (refl, cc)
only_if_gave false s other is = absurd cc

-- no token is added
pub stays : {place byte : ℕ} {part : Part} {below : List Goal} {placed : List Placed} (later : Part)
    → start part place ≤ start later (place + 1)
    → IsOpen (place + 1) later below → ((bytes : List ℕ) (ts : List Placed) → Goes later (place + 1) bytes ts
    → Goes part place (byte ∷ bytes) ts)
    → Moved place byte part below placed (state later below placed)
stays {placed = placed} later sooner is_open back = record {
  new = [];
  added = sym (append-nil placed);
  runs = refl;
  rising = sooner;
  open_part = is_open;
  back = back;
}

-- the same, where a test has to pass
pub stays_if : (test : Bool) (later : Part) {place byte : ℕ} {part : Part} {below : List Goal} {placed : List Placed} {s : State}
    → only_if test (state later below placed) ≡ Some s → start part place ≤ start later (place + 1) → (test ≡ true
    → IsOpen (place + 1) later below)
    → (test ≡ true → (bytes : List ℕ) (ts : List Placed) → Goes later (place + 1) bytes ts → Goes part place (byte ∷ bytes) ts)
    → Moved place byte part below placed s
stays_if test later {place} {byte} {part} {below} {placed} {s} is sooner is_open back =
    let gave = only_if_gave test (state later below placed) s is in
    subst (λ found. Moved place byte part below placed found) gave.1 (stays later sooner (is_open gave.0) (back gave.0))

-- what a token that was taken left
pub taken : (below : List Goal) (placed : List Placed) (at : ℕ) (token : Token) (s : State)
    → take_token below placed at token ≡ Some s
    → (after : List Goal) × (shift below (class_of token) ≡ Some after) × (state Between after (placed ++ token_at at token ∷ []) ≡ s)
taken below placed at token s is = go (shift below (class_of token)) refl is
  where
    go : (found : Option (List Goal)) → shift below (class_of token) ≡ found
        → option_map (λ after. state Between after (placed ++ token_at at token ∷ [])) found ≡ Some s
        → (after : List Goal) × (shift below (class_of token) ≡ Some after) × (state Between after (placed ++ token_at at token ∷ []) ≡ s)
    go None found is = absurd cc
    go (Some after) found is = (after, found, cc)

-- one token is added
pub adds : {place byte : ℕ} {part : Part} {below : List Goal} {placed : List Placed} {s : State} (at : ℕ) (token : Token)
    → take_token below placed at token ≡ Some s
    → start part place ≡ at → at ≤ place
    → ((bytes : List ℕ) (ts : List Placed) → Spelled (place + 1) bytes ts
    → Goes part place (byte ∷ bytes) (token_at at token ∷ ts))
    → Moved place byte part below placed s
adds {place} {byte} {part} {below} {placed} {s} at token is began sooner back =
    let took = taken below placed at token s is in
    subst (λ found. Moved place byte part below placed found) took.2 (record {
      new = token_at at token ∷ [];
      added = refl;
      runs = rw took.1 refl;
      rising = (omega arith, omega arith);
      open_part = tt;
      back = back;
    })

-- the sign of a byte
sign_is : (byte : ℕ) (mark : Punctuation) → sign_of byte ≡ Some mark → (sign_text mark ≡ byte ∷ []) × ((rest : List ℕ)
    → is_whole mark rest ≡ true)
sign_is byte mark is =
    elim (cases_Bool (byte == 123)) [
      | inl e ↦ found signs.Open 123 e refl (λ rest. refl) (let h : Some signs.Open ≡ Some mark = rw e at is in cc)
      | inr n ↦
          (elim (cases_Bool (byte == 125)) [
            | inl e ↦ found signs.Close 125 e refl (λ rest. refl) (let h : Some signs.Close ≡ Some mark = rw (n, e) at is in cc)
            | inr n1 ↦
                (elim (cases_Bool (byte == 58)) [
                  | inl e ↦ found signs.Colon 58 e refl (λ rest. refl) (let h : Some signs.Colon ≡ Some mark = rw (n, n1, e) at is in cc)
                  | inr n2 ↦
                      (elim (cases_Bool (byte == 60)) [
                        | inl e ↦ found signs.Less 60 e refl (λ rest. refl) (let h : Some signs.Less ≡ Some mark = rw (n, n1, n2, e) at is in cc)
                        | inr n3 ↦
                            (elim (cases_Bool (byte == 43)) [
                              | inl e ↦ found signs.Plus 43 e refl (λ rest. refl) (let h : Some signs.Plus ≡ Some mark = rw (n, n1, n2, n3, e) at is in cc)
                              | inr n4 ↦
                                  (elim (cases_Bool (byte == 45)) [
                                    | inl e ↦ found signs.Minus 45 e refl (λ rest. refl) (let h : Some signs.Minus ≡ Some mark = rw (n, n1, n2, n3, n4, e) at is in cc)
                                    | inr n5 ↦
                                        absurd (let h : None ≡ Some mark = rw (n, n1, n2, n3, n4, n5) at is in cc)
                                  ])
                            ])
                      ])
                ])
          ])
    ]
  where
    found : (one : Punctuation) (number : ℕ) → (byte == number) ≡ true → sign_text one ≡ number ∷ [] → ((rest : List ℕ)
        → is_whole one rest ≡ true)
        → one ≡ mark → (sign_text mark ≡ byte ∷ []) × ((rest : List ℕ) → is_whole mark rest ≡ true)
    found one number e text whole same =
        let equal = eqb-true byte number e in
        subst (λ m. (sign_text m ≡ byte ∷ []) × ((rest : List ℕ) → is_whole m rest ≡ true)) same (
          text
              ∙ ap (λ b. b ∷ []) (sym equal),
          whole,
        )

sign_taken : {place byte : ℕ} (below : List Goal) (placed : List Placed) (s : State) (found : Option Punctuation)
    → sign_of byte ≡ found
    → take_sign below placed place found ≡ Some s → Moved place byte Between below placed s
sign_taken below placed s None searched is = absurd cc
sign_taken {place} {byte} below placed s (Some mark) searched is =
    let known = sign_is byte mark searched in
    adds place (tokens.Sign mark) is refl (omega arith) (λ bytes ts spelled.
    let long : place + length (sign_text mark) ≡ place + 1 = rw known.0 refl in
    subst (λ text. Spelled place (text ++ bytes) (token_at place (tokens.Sign mark) ∷ ts)) known.0
    (sign mark (known.1 bytes) (moved_to (sym long) spelled)))

-- a byte before which no part is open
pub between_moved : (place byte : ℕ) (below : List Goal) (placed : List Placed) (s : State)
    → between below placed place byte ≡ Some s
    → Moved place byte Between below placed s
between_moved place byte below placed s is =
    elim (cases_Bool (is_run_byte byte)) [
      | inl e ↦
          stays_if (opens below (byte ∷ [])) (Run place (byte ∷ [])) (sym (cond-true (is_run_byte byte) _ _ e)
          ∙ is) (omega arith) (λ opened. (omega arith, opened)) (λ opened bytes ts goes. run_begun goes)
      | inr n ↦ (elim (cases_Bool (is_blank byte)) [
        | inl e ↦
            (let same : Some (state Between below placed) ≡ Some s = rw (n, e) at is in
            let equal : state Between below placed ≡ s = cc in
            subst (λ found. Moved place byte Between below placed found) equal (stays Between (omega arith) tt (λ bytes ts goes. blank e goes)))
        | inr n1 ↦ (elim (cases_Bool (byte == comment_sign)) [
          | inl e ↦
              (let same : Some (state Comment below placed) ≡ Some s = rw (n, n1, e) at is in
              let equal : state Comment below placed ≡ s = cc in
              subst (λ found. Moved place byte Between below placed found) equal (stays Comment (omega arith) tt (λ bytes ts goes.
              subst (λ b. Spelled place (b ∷ bytes) ts) (sym (eqb-true byte comment_sign e)) (comment_begun goes))))
          | inr n2 ↦ (elim (cases_Bool (byte == quote_sign)) [
            | inl e ↦
                stays_if (takes below classes.Text) (Inside place []) (rw (n, n1, n2, e) at is) (omega arith) (λ opened. (omega arith, opened))
                (λ opened bytes ts goes. subst (λ b. Spelled place (b ∷ bytes) ts) (sym (eqb-true byte quote_sign e)) (text_begun goes))
            | inr n3 ↦ (elim (cases_Bool (byte == 61)) [
              | inl e ↦
                  stays_if (takes below (classes.Sign signs.Becomes) || takes below (classes.Sign signs.Same)) (Equal place) (rw (n, n1, n2, n3, e) at is) (omega arith)
                  (λ opened. (omega arith, opened)) (λ opened bytes ts goes. subst (λ b. Spelled place (b ∷ bytes) ts) (sym (eqb-true byte 61 e)) (equal_begun goes))
              | inr n4 ↦ (elim (cases_Bool (byte == 33)) [
                | inl e ↦
                    stays_if (takes below (classes.Sign signs.Other)) (Bang place) (rw (n, n1, n2, n3, n4, e) at is) (omega arith)
                    (λ opened. (omega arith, opened)) (λ opened bytes ts goes. subst (λ b. Spelled place (b ∷ bytes) ts) (sym (eqb-true byte 33 e)) (bang_begun goes))
                | inr n5 ↦ sign_taken below placed s (sign_of byte) refl (rw (n, n1, n2, n3, n4, n5) at is)
              ])
            ])
          ])
        ])
      ])
    ]
