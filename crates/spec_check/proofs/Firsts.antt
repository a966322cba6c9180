-- The first of what is bad, put together from parts.
use Rattle.std.proofs.Common.{◌≡◌, ℕ, ◌+◌, ◌⊎◌, inl, inr, refl, sym, subst, arith, List, ◌∷◌, drop, Option, Some, None}
use Rattle.spec_rules.specs.declared.fault.Fault.{Fault}
use Rattle.spec_rules.specs.Fault.{IsBefore}
use Rattle.spec_check.specs.declared.found.Found.{Found}
use Rattle.spec_check.specs.declared.found.Tested.{Tested}
use Rattle.spec_check.specs.Least.{FindsOne, IsEarlier, IsFirst, IsFirstBut, IsListedAt, IsNotBehind, IsToldAt}

pub before_trans : (a b c : ℕ) (first second third : Fault) → IsBefore a first b second → IsBefore b second c third → IsBefore a first c third
before_trans a b c first second third (inl lt) (inl lt') = inl (omega arith)
before_trans a b c first second third (inl lt) (inr (same', rest')) = inl (omega arith)
before_trans a b c first second third (inr (same, rest)) (inl lt') = inl (omega arith)
before_trans a b c first second third (inr (same, inl kind)) (inr (same', inl kind')) = inr (omega arith, inl (omega arith))
before_trans a b c first second third (inr (same, inl kind)) (inr (same', inr (kind', limit'))) = inr (omega arith, inl (omega arith))
before_trans a b c first second third (inr (same, inr (kind, limit))) (inr (same', inl kind')) = inr (omega arith, inl (omega arith))
before_trans a b c first second third (inr (same, inr (kind, limit))) (inr (same', inr (kind', limit'))) = inr (omega arith, inr (omega arith, omega arith))

finds : (IsA IsB : Fault → ℕ → Type 0) (found : Option Found) → ((fault : Fault) (at : ℕ) → IsA fault at → IsB fault at) → FindsOne IsA found → FindsOne IsB found
finds IsA IsB None widens one = tt
finds IsA IsB (Some found) widens one = widens found.fault found.at one

finds_one : (IsA IsB IsWhole : Fault → ℕ → Type 0) (a b found : Option Found) → FindsOne IsA a → FindsOne IsB b
    → ((fault : Fault) (at : ℕ) → IsA fault at → IsWhole fault at) → ((fault : Fault) (at : ℕ) → IsB fault at → IsWhole fault at)
    → (found ≡ a) ⊎ (found ≡ b) → FindsOne IsWhole found
finds_one IsA IsB IsWhole a b found of_a of_b a_widens b_widens (inl is) = subst (FindsOne IsWhole) (sym is) (finds IsA IsWhole a a_widens of_a)
finds_one IsA IsB IsWhole a b found of_a of_b a_widens b_widens (inr is) = subst (FindsOne IsWhole) (sym is) (finds IsB IsWhole b b_widens of_b)

-- The earlier of the first of two kinds is the first of both.
pub joined : (IsA IsB IsWhole : Fault → ℕ → Type 0) (a b found : Option Found) → IsFirst IsA a → IsFirst IsB b → IsEarlier a b found
    → ((fault : Fault) (at : ℕ) → IsWhole fault at → IsA fault at ⊎ IsB fault at)
    → ((fault : Fault) (at : ℕ) → IsA fault at → IsWhole fault at) → ((fault : Fault) (at : ℕ) → IsB fault at → IsWhole fault at)
    → IsFirst IsWhole found
joined IsA IsB IsWhole a b found first_a first_b earlier splits a_widens b_widens = record {
  one = finds_one IsA IsB IsWhole a b found first_a.one first_b.one a_widens b_widens earlier.one;
  first = λ fault at whole. not_behind fault at (splits fault at whole);
}
  where
    not_behind : (fault : Fault) (at : ℕ) → IsA fault at ⊎ IsB fault at → IsNotBehind found fault at
    not_behind fault at (inl of_a) = earlier.not_behind_left fault at (first_a.first fault at of_a)
    not_behind fault at (inr of_b) = earlier.not_behind_right fault at (first_b.first fault at of_b)

-- Nothing is of a kind of which nothing is.
pub first_of_none : (IsOne : Fault → ℕ → Type 0) → ((fault : Fault) (at : ℕ) → ¬ IsOne fault at) → IsFirst IsOne None
first_of_none IsOne none = record { one = tt; first = λ fault at one. none fault at one }

-- The first of a kind is the first of a kind that is the same.
pub first_as : (IsA IsB : Fault → ℕ → Type 0) (found : Option Found) → IsFirst IsA found
    → ((fault : Fault) (at : ℕ) → IsA fault at → IsB fault at) → ((fault : Fault) (at : ℕ) → IsB fault at → IsA fault at) → IsFirst IsB found
first_as IsA IsB found first to back = record {
  one = finds IsA IsB found to first.one;
  first = λ fault at of_b. first.first fault at (back fault at of_b);
}

-- Before a search all is left.
pub begun : (IsWhole : Fault → ℕ → Type 0) → IsFirstBut IsWhole IsWhole None
begun IsWhole = record { one = tt; first = λ fault at whole. inl whole; left = λ fault at left. left }

-- A search has come past the first part of what is left.
pub passed : (IsLeft IsHere IsLater IsWhole : Fault → ℕ → Type 0) (so_far here found : Option Found)
    → IsFirstBut IsLeft IsWhole so_far → IsFirst IsHere here → IsEarlier so_far here found
    → ((fault : Fault) (at : ℕ) → IsLeft fault at → IsHere fault at ⊎ IsLater fault at)
    → ((fault : Fault) (at : ℕ) → IsHere fault at → IsLeft fault at) → ((fault : Fault) (at : ℕ) → IsLater fault at → IsLeft fault at)
    → IsFirstBut IsLater IsWhole found
passed IsLeft IsHere IsLater IsWhole so_far here found first_so_far first_here earlier splits here_is_left later_is_left = record {
  one = finds_one IsWhole IsHere IsWhole so_far here found first_so_far.one first_here.one (λ fault at whole. whole)
      (λ fault at one. first_so_far.left fault at (here_is_left fault at one)) earlier.one;
  first = λ fault at whole. go fault at (first_so_far.first fault at whole);
  left = λ fault at later. first_so_far.left fault at (later_is_left fault at later);
}
  where
    of_left : (fault : Fault) (at : ℕ) → IsHere fault at ⊎ IsLater fault at → IsLater fault at ⊎ IsNotBehind found fault at
    of_left fault at (inl one) = inr (earlier.not_behind_right fault at (first_here.first fault at one))
    of_left fault at (inr later) = inl later

    go : (fault : Fault) (at : ℕ) → IsLeft fault at ⊎ IsNotBehind so_far fault at → IsLater fault at ⊎ IsNotBehind found fault at
    go fault at (inl left) = of_left fault at (splits fault at left)
    go fault at (inr not_behind) = inr (earlier.not_behind_left fault at not_behind)

-- A search has ended where nothing is left.
pub ended : (IsLeft IsWhole : Fault → ℕ → Type 0) (found : Option Found) → IsFirstBut IsLeft IsWhole found
    → ((fault : Fault) (at : ℕ) → ¬ IsLeft fault at) → IsFirst IsWhole found
ended IsLeft IsWhole found first none = record { one = first.one; first = λ fault at whole. go fault at (first.first fault at whole) }
  where
    go : (fault : Fault) (at : ℕ) → IsLeft fault at ⊎ IsNotBehind found fault at → IsNotBehind found fault at
    go fault at (inl left) = absurd (none fault at left)
    go fault at (inr not_behind) = not_behind

-- The second of two is the earlier where it comes before the first.
pub earlier_second : (one other : Found) → IsBefore other.at other.fault one.at one.fault → IsEarlier (Some one) (Some other) (Some other)
earlier_second one other before = record {
  one = inr refl;
  not_behind_left = λ fault at not_before before_other. not_before (before_trans at other.at one.at fault other.fault one.fault before_other before);
  not_behind_right = λ fault at not_before. not_before;
}

-- A search through tests has come past one more.
pub past_test : (tests : List Tested) (place i : ℕ) (tested : Tested) (so_far here found : Option Found)
    → drop i tests ≡ tested ∷ drop (i + 1) tests
    → IsFirstBut (IsListedAt (drop i tests) place) (IsListedAt tests place) so_far
    → IsFirst (IsToldAt tested place) here → IsEarlier so_far here found
    → IsFirstBut (IsListedAt (drop (i + 1) tests) place) (IsListedAt tests place) found
past_test tests place i tested so_far here found tests_left first_so_far first_here earlier =
    let left = subst (λ xs. IsFirstBut (IsListedAt xs place) (IsListedAt tests place) so_far) tests_left first_so_far in
    passed (IsListedAt (tested ∷ drop (i + 1) tests) place) (IsToldAt tested place) (IsListedAt (drop (i + 1) tests) place) (IsListedAt tests place)
    so_far here found left first_here earlier splits (λ fault at (one, here). (inl one, here)) (λ fault at (listed, here). (inr listed, here))
  where
    splits : (fault : Fault) (at : ℕ) → IsListedAt (tested ∷ drop (i + 1) tests) place fault at → IsToldAt tested place fault at ⊎ IsListedAt (drop (i + 1) tests) place fault at
    splits fault at (inl one, here) = inl (one, here)
    splits fault at (inr listed, here) = inr (listed, here)
