-- How readers read tokens that fit pieces, step by step.
use Rattle.std.proofs.Common.{◌≡◌, ℕ, suc, ◌+◌, ◌-◌, ◌≤◌, Bool, true, false, List, [], ◌∷◌, length, Option, Some, refl, ap, sym, subst, ◌∙◌, arith}
use Rattle.spec_model.specs.declared.token.Placed.{Placed}
use Rattle.spec_model.specs.declared.token.Token.{Token}
use Rattle.spec_model.specs.Canonical.{depth_behind}
use Rattle.spec_model.specs.Grammar.{Piece, some, at, Fits}
use Rattle.spec_model.specs.Spelling.{IsWithinBraces}
use Rattle.spec_build.specs.Reader.{Outcome, Reader, and_then, given, reading, place_where, eat, sees, counted}

-- the tokens fit the pieces, no more than 32 braces are open where this many are open before them, and they are few
pub record State (pieces : List Piece) (depth bound : ℕ) (ts : List Placed) : Type 0 where
  pub fits : Fits pieces ts
  pub braces : IsWithinBraces depth ts
  pub few : length ts ≤ bound

-- a value is read, and the tokens behind it fit the pieces behind it
pub record Reads {A : Type 0} (outcome : Outcome A) (x : A) (next : List Piece) (depth bound : ℕ) : Type 0 where
  pub rest : List Placed
  pub is : outcome ≡ Some (x, rest)
  pub state : State next depth bound rest

pub done : {A : Type 0} {x : A} {next : List Piece} {depth bound : ℕ} {ts : List Placed} → State next depth bound ts → Reads (Some (x, ts)) x next depth bound
done {ts = ts} h = record { rest = ts; is = refl; state = h }

pub read_on : {A B : Type 0} {outcome : Outcome A} {x : A} {middle next : List Piece} {depth deep bound more : ℕ} {y : B} (g : A → Reader B)
    → Reads outcome x middle depth bound → ((rest : List Placed) → State middle depth bound rest → Reads (g x rest) y next deep more)
    → Reads (and_then outcome g) y next deep more
read_on g r k = let s = k r.rest r.state in record { rest = s.rest; is = ap (λ o. and_then o g) r.is ∙ s.is; state = s.state }

pub wider : {A : Type 0} {outcome : Outcome A} {x : A} {next : List Piece} {depth bound more : ℕ} → bound ≤ more
    → Reads outcome x next depth bound → Reads outcome x next depth more
wider le r = record { rest = r.rest; is = r.is; state = record { fits = r.state.fits; braces = r.state.braces; few = omega (arith, r.state.few) } }

-- the same value in other words
pub named : {A : Type 0} {outcome : Outcome A} {x y : A} {next : List Piece} {depth bound : ℕ} → x ≡ y → Reads outcome x next depth bound → Reads outcome y next depth bound
named {outcome = outcome} {next = next} {depth = depth} {bound = bound} e r = subst (λ v. Reads outcome v next depth bound) e r

-- ---- the first token

pub record Cut (token : Token) (next : List Piece) (depth bound : ℕ) (ts : List Placed) : Type 0 where
  pub place : ℕ
  pub more : List Placed
  pub is : ts ≡ record { at = place; token = token } ∷ more
  pub state : State next (depth_behind depth token) bound more

pub cut_some : {next : List Piece} {depth bound : ℕ} (token : Token) (ts : List Placed) → State (some token ∷ next) depth (suc bound) ts → Cut token next depth bound ts
cut_some token [] h = absurd h.fits
cut_some {depth = depth} token (placed ∷ more) h = record {
  place = placed.at;
  more = more;
  is = ap (λ u. record { at = placed.at; token = u } ∷ more) h.fits.0;
  state = record {
    fits = h.fits.1;
    braces = subst (λ u. IsWithinBraces (depth_behind depth u) more) h.fits.0 h.braces.1;
    few = omega (arith, h.few);
  };
}

pub record CutAt (place : ℕ) (token : Token) (next : List Piece) (depth bound : ℕ) (ts : List Placed) : Type 0 where
  pub more : List Placed
  pub is : ts ≡ record { at = place; token = token } ∷ more
  pub within : depth_behind depth token ≤ 32
  pub state : State next (depth_behind depth token) bound more

pub cut_at : {next : List Piece} {depth bound : ℕ} (place : ℕ) (token : Token) (ts : List Placed) → State (at place token ∷ next) depth (suc bound) ts
    → CutAt place token next depth bound ts
cut_at place token [] h = absurd h.fits
cut_at {depth = depth} place token (placed ∷ more) h = record {
  more = more;
  is = let e : placed.at ≡ place = h.fits.0 in let t : placed.token ≡ token = h.fits.1 in
      ap (λ p. record { at = p; token = placed.token } ∷ more) e ∙ ap (λ u. record { at = place; token = u } ∷ more) t;
  within = subst (λ u. depth_behind depth u ≤ 32) h.fits.1 h.braces.0;
  state = record {
    fits = h.fits.2;
    braces = subst (λ u. IsWithinBraces (depth_behind depth u) more) h.fits.1 h.braces.1;
    few = omega (arith, h.few);
  };
}

-- a bound that is met by one token more
pub looser : {pieces : List Piece} {depth bound : ℕ} {ts : List Placed} → State pieces depth bound ts → State pieces depth (suc bound) ts
looser h = record { fits = h.fits; braces = h.braces; few = omega (arith, h.few) }

-- ---- one token

pub token_reads : {A : Type 0} {x : A} {next : List Piece} {depth bound : ℕ} (meaning : Token → Option A) (token : Token) (ts : List Placed)
    → meaning token ≡ Some x → State (some token ∷ next) depth bound ts → Reads (reading meaning ts) x next (depth_behind depth token) bound
token_reads {A} {x} {next} {depth} {bound} meaning token ts e h =
    let c = cut_some token ts (looser h) in
    record { rest = c.more; is = ap (reading meaning) c.is ∙ ap (λ o. given o c.more) e; state = c.state }

pub place_in : {next : List Piece} {depth bound : ℕ} (token : Token) (ts : List Placed) → State (some token ∷ next) depth bound ts → ℕ
place_in token ts h = (cut_some token ts (looser h)).place

pub mark_reads : {next : List Piece} {depth bound : ℕ} (test : Token → Bool) (token : Token) (ts : List Placed)
    → test token ≡ true → (h : State (some token ∷ next) depth bound ts) → Reads (place_where test ts) (place_in token ts h) next (depth_behind depth token) bound
unfolding place_in
mark_reads test token ts e h =
    let c = cut_some token ts (looser h) in
    record { rest = c.more; is = ap (place_where test) c.is ∙ rw e refl; state = c.state }

-- the same, where the bound falls
pub mark_first : {next : List Piece} {depth bound : ℕ} (test : Token → Bool) (token : Token) (ts : List Placed)
    → test token ≡ true → (h : State (some token ∷ next) depth (suc bound) ts)
    → Reads (place_where test ts) (place_in token ts h) next (depth_behind depth token) bound
unfolding place_in
mark_first {next} {depth} {bound} test token ts e h =
    let c = cut_some token ts (looser h) in
    let d = cut_some token ts h in
    let same : c.more ≡ d.more = cc (c.is, d.is) in
    record { rest = c.more; is = ap (place_where test) c.is ∙ rw e refl; state = subst (λ u. State next (depth_behind depth token) bound u) (sym same) d.state }

pub mark_at_reads : {next : List Piece} {depth bound : ℕ} (test : Token → Bool) (place : ℕ) (token : Token) (ts : List Placed)
    → test token ≡ true → State (at place token ∷ next) depth bound ts → Reads (place_where test ts) place next (depth_behind depth token) bound
mark_at_reads test place token ts e h =
    let c = cut_at place token ts (looser h) in
    record { rest = c.more; is = ap (place_where test) c.is ∙ rw e refl; state = c.state }

pub eaten : {next : List Piece} {depth bound : ℕ} (test : Token → Bool) (token : Token) (ts : List Placed)
    → test token ≡ true → State (some token ∷ next) depth (suc bound) ts → Reads (eat test ts) true next (depth_behind depth token) bound
eaten test token ts e h =
    let c = cut_some token ts h in
    record { rest = c.more; is = ap (eat test) c.is ∙ rw e refl; state = c.state }

-- ---- what does not come next

-- no tokens that fit the pieces begin with a token for which the test holds
pub record Shuns (test : Token → Bool) (pieces : List Piece) : Type 0 where
  pub shuns : (ts : List Placed) → Fits pieces ts → sees test ts ≡ false

pub shuns_some : {next : List Piece} (test : Token → Bool) (token : Token) → test token ≡ false → Shuns test (some token ∷ next)
shuns_some {next} test token e = record { shuns = go }
  where
    go : (ts : List Placed) → Fits (some token ∷ next) ts → sees test ts ≡ false
    go [] h = absurd h
    go (placed ∷ more) h = ap test h.0 ∙ e

pub shuns_at : {next : List Piece} (test : Token → Bool) (place : ℕ) (token : Token) → test token ≡ false → Shuns test (at place token ∷ next)
shuns_at {next} test place token e = record { shuns = go }
  where
    go : (ts : List Placed) → Fits (at place token ∷ next) ts → sees test ts ≡ false
    go [] h = absurd h
    go (placed ∷ more) h = ap test h.1 ∙ e

pub not_eaten : {pieces : List Piece} {depth bound : ℕ} (test : Token → Bool) (ts : List Placed) → Shuns test pieces → State pieces depth bound ts
    → Reads (eat test ts) false pieces depth bound
not_eaten test ts none h = record { rest = ts; is = left ts (none.shuns ts h.fits); state = h }
  where
    left : (ts : List Placed) → sees test ts ≡ false → eat test ts ≡ Some (false, ts)
    left [] e = refl
    left (placed ∷ more) e = rw e refl

-- ---- turns

pub counted_reads : {A : Type 0} {x : A} {pieces next : List Piece} {depth deep bound : ℕ} (p : ℕ → Reader A) (ts : List Placed)
    → ((n : ℕ) → State pieces depth n ts → Reads (p n ts) x next deep n) → State pieces depth bound ts → Reads (counted p ts) x next deep bound
counted_reads p ts reads h = wider h.few (reads (length ts) (record { fits = h.fits; braces = h.braces; few = omega arith }))

-- one brace closed again
pub closed_again : {A : Type 0} {outcome : Outcome A} {x : A} {next : List Piece} {depth bound : ℕ} → Reads outcome x next (depth + 1 - 1) bound → Reads outcome x next depth bound
closed_again {outcome = outcome} {x = x} {next = next} {depth = depth} {bound = bound} r =
    let e : depth + 1 - 1 ≡ depth = omega arith in subst (λ d. Reads outcome x next d bound) e r
