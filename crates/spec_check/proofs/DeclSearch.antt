-- The search through declarations.
use Rattle.std.proofs.Common.{◌≡◌, ℕ, ◌+◌, ◌<◌, ◌≤◌, ◌⊎◌, inl, inr, List, length, take, get_or, Option, Some, refl, sym, ap, subst, ◌∙◌, arith, slice_get}
use Rattle.std.proofs.Math.Nat.{eq-or-lt_of_le}
use Rattle.std.proofs.lemmas.Option.{slice_get_read, slice_get_within}
use Rattle.spec_model.specs.declared.tree.Decl.{Decl}
use Rattle.spec_rules.specs.declared.fault.Fault.{Fault}
use Rattle.spec_check.specs.declared.found.Found.{Found}
use Rattle.spec_check.specs.Decls.{IsBadDecl, decl_tests}
use Rattle.spec_check.specs.Least.{IsEarlier, IsFirst, IsFirstBut, IsListed, IsListedAt}
use Rattle.spec_check.proofs.Firsts.{ended, passed}

module _ (conns : ℕ) (decls : List Decl) (i : ℕ) (decl : Decl) (is : slice_get decls i ≡ Some decl) where
  at_decl : (fault : Fault) (at : ℕ) → IsListedAt (decl_tests conns (take i decls) decl) decl.at fault at → IsBadDecl conns decls i fault at
  at_decl fault at (listed, here) = record { number = i; behind = omega arith; decl = decl; is_decl = is; bad = listed; here = here }

  behind_decl : (fault : Fault) (at : ℕ) → IsBadDecl conns decls (i + 1) fault at → IsBadDecl conns decls i fault at
  behind_decl fault at bad = record { number = bad.number; behind = omega (arith, bad.behind); decl = bad.decl; is_decl = bad.is_decl; bad = bad.bad; here = bad.here }

  here_or_behind : (fault : Fault) (at number : ℕ) (other : Decl) → i ≤ number → slice_get decls number ≡ Some other
      → IsListed (decl_tests conns (take number decls) other) fault → other.at ≡ at → (i ≡ number) ⊎ (i < number)
      → IsListedAt (decl_tests conns (take i decls) decl) decl.at fault at ⊎ IsBadDecl conns decls (i + 1) fault at
  here_or_behind fault at number other le is_other listed here (inl same) =
      let same_decl : other ≡ decl =
      let both : Some other ≡ Some decl = sym is_other ∙ ap (slice_get decls) (sym same) ∙ is in cc
      in
      inl (
        subst (λ (d : Decl). IsListed (decl_tests conns (take i decls) d) fault) same_decl
            (subst (λ n. IsListed (decl_tests conns (take n decls) other) fault) (sym same) listed),
        ap (λ (d : Decl). d.at) (sym same_decl) ∙ here,
      )
  here_or_behind fault at number other le is_other listed here (inr lt) =
      inr (record { number = number; behind = omega arith; decl = other; is_decl = is_other; bad = listed; here = here })

  splits : (fault : Fault) (at : ℕ) → IsBadDecl conns decls i fault at
      → IsListedAt (decl_tests conns (take i decls) decl) decl.at fault at ⊎ IsBadDecl conns decls (i + 1) fault at
  splits fault at bad = here_or_behind fault at bad.number bad.decl bad.behind bad.is_decl bad.bad bad.here (eq-or-lt_of_le bad.behind)

-- A search through declarations has come past one more.
pub past_decl : (conns : ℕ) (decls : List Decl) (i : ℕ) (decl : Decl) (so_far here found : Option Found)
    → i < length decls → decl ≡ get_or decls i decl
    → IsFirstBut (IsBadDecl conns decls i) (IsBadDecl conns decls 0) so_far
    → IsFirst (IsListedAt (decl_tests conns (take i decls) decl) decl.at) here → IsEarlier so_far here found
    → IsFirstBut (IsBadDecl conns decls (i + 1)) (IsBadDecl conns decls 0) found
past_decl conns decls i decl so_far here found lt is first_so_far first_here earlier =
    let is_decl = slice_get_read decls (length decls) i decl refl lt is in
    passed (IsBadDecl conns decls i) (IsListedAt (decl_tests conns (take i decls) decl) decl.at) (IsBadDecl conns decls (i + 1)) (IsBadDecl conns decls 0)
    so_far here found first_so_far first_here earlier (splits conns decls i decl is_decl) (at_decl conns decls i decl is_decl) (behind_decl conns decls i decl is_decl)

-- At the end of the search no declaration is left.
pub past_decls : (conns : ℕ) (decls : List Decl) (i : ℕ) (found : Option Found) → length decls ≤ i
    → IsFirstBut (IsBadDecl conns decls i) (IsBadDecl conns decls 0) found → IsFirst (IsBadDecl conns decls 0) found
past_decls conns decls i found le first =
    ended (IsBadDecl conns decls i) (IsBadDecl conns decls 0) found first
    (λ fault at bad. let within = slice_get_within decls bad.number bad.decl bad.is_decl in omega (arith, bad.behind))
