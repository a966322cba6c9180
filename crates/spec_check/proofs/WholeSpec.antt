-- What is bad in a specification is what is bad in its parts.
use Rattle.std.proofs.Common.{◌≡◌, ℕ, ◌≤◌, ◌⊎◌, inl, inr, Bool, true, false, not, ◌&&◌, List, [], ◌++◌, take, Option, Some, None, refl, sym, subst, ◌∙◌, append-nil, arith, slice_get, zero-le}
use Rattle.spec_model.specs.declared.tree.Block.{Block}
use Rattle.spec_model.specs.declared.tree.Decl.{Decl}
use Rattle.spec_model.specs.declared.tree.Spec.{Spec}
use Rattle.spec_model.specs.Config.{StmtKind, kind_of, stmts_of}
use Rattle.spec_rules.specs.declared.fault.Fault.{Fault}
use Rattle.spec_rules.specs.declared.fault.Fault.TheVariants as faults
use Rattle.spec_rules.specs.declared.fault.Limit.{Limit}
use Rattle.spec_rules.specs.declared.fault.Limit.TheVariants as limits
use Rattle.spec_rules.specs.declared.names.Known.{Known}
use Rattle.spec_rules.specs.Accepted.{IsFirstBad}
use Rattle.spec_rules.specs.Bad.{HasDecl, HasStmt, IsBad, begins_with_recv, is_within}
use Rattle.spec_rules.specs.Fault.{IsBefore}
use Rattle.spec_rules.specs.Names.{names_declared}
use Rattle.spec_rules.specs.Path.{is_recv}
use Rattle.spec_rules.specs.Place.{Place, StandsInLoop, StandsInStart}
use Rattle.spec_check.specs.declared.found.Found.{Found}
use Rattle.spec_check.specs.declared.statement.Rules.{Rules}
use Rattle.spec_check.specs.Decls.{IsBadDecl, decl_tests}
use Rattle.spec_check.specs.Least.{IsEarlier, IsFirst, IsListed}
use Rattle.spec_check.specs.Stmts.{IsBadIn, stmt_tests}
use Rattle.spec_check.specs.Whole.{IsBadHeader, IsBadInStart, IsBadStmt, IsCrowded, IsNoTake, IsTooLong, rules_of}
use Rattle.spec_check.proofs.Firsts.{first_as, first_of_none, joined}

not_true : (b : Bool) → not b ≡ true → b ≡ false
not_true true h = sym h
not_true false h = refl

true_not : (b : Bool) → b ≡ false → not b ≡ true
true_not true h = sym h
true_not false h = refl

and_left : (a b : Bool) → (a && b) ≡ true → a ≡ true
and_left true b h = refl
and_left false b h = h

and_right : (a b : Bool) → (a && b) ≡ true → b ≡ true
and_right true b h = h
and_right false b h = absurd (cc)

-- The search in `start` is a walk through its block.
pub in_start : (rules : Rules) (known : List Known) (start : Option Block) (block : Block) (found : Option Found) → start ≡ Some block
    → IsFirst (IsBadIn rules (known ++ []) (stmts_of block) []) found → IsFirst (IsBadInStart rules known start) found
in_start rules known start block found is first =
    first_as (IsBadIn rules known (stmts_of block) []) (IsBadInStart rules known start) found
    (subst (λ names. IsFirst (IsBadIn rules names (stmts_of block) []) found) (append-nil known) first)
    (λ fault at bad. record { block = block; is_start = is; bad = bad })
    (λ fault at bad. let same : bad.block ≡ block = (let both : Some bad.block ≡ Some block = sym bad.is_start ∙ is in cc) in
    subst (λ (b : Block). IsBadIn rules known (stmts_of b) [] fault at) same bad.bad)

-- The earlier of the first faults of `start` and of the loop is the first at a statement.
pub in_stmts : (spec : Spec) (known : List Known) (a b found : Option Found) → known ≡ names_declared spec.decls
    → IsFirst (IsBadInStart (rules_of spec true) known spec.start) a → IsFirst (IsBadIn (rules_of spec false) (known ++ []) (stmts_of spec.body) []) b
    → IsEarlier a b found → IsFirst (IsBadStmt spec) found
in_stmts spec known a b found same first_a first_b earlier =
    joined (IsBadInStart (rules_of spec true) (names_declared spec.decls) spec.start) (IsBadIn (rules_of spec false) (names_declared spec.decls) (stmts_of spec.body) [])
    (IsBadStmt spec) a b found
    (subst (λ names. IsFirst (IsBadInStart (rules_of spec true) names spec.start) a) same first_a)
    (subst (λ names. IsFirst (IsBadIn (rules_of spec false) names (stmts_of spec.body) []) b) (append-nil known ∙ same) first_b)
    earlier (λ fault at bad. bad) (λ fault at bad. inl bad) (λ fault at bad. inr bad)

-- Paths are crowded first at the least place.
pub crowded_none : (spec : Spec) → ((at : ℕ) → ¬ IsBad spec faults.TooManyCompares at) → IsFirst (IsCrowded spec) None
crowded_none spec none = first_of_none (IsCrowded spec) (λ fault at (is, bad). none at bad)

not_before : (place at : ℕ) (fault : Fault) → faults.TooManyCompares ≡ fault → place ≤ at → ¬ IsBefore at fault place faults.TooManyCompares
not_before place at fault is le before = go (subst (λ f. IsBefore at f place faults.TooManyCompares) (sym is) before)
  where
    go : ¬ IsBefore at faults.TooManyCompares place faults.TooManyCompares
    go (inl lt) = omega arith
    go (inr (same, inl lt)) = omega arith
    go (inr (same, inr (kind, lt))) = omega arith

pub crowded_some : (spec : Spec) (place : ℕ) → IsBad spec faults.TooManyCompares place → ((other : ℕ) → IsBad spec faults.TooManyCompares other → place ≤ other)
    → IsFirst (IsCrowded spec) (Some (record { fault = faults.TooManyCompares; at = place }))
crowded_some spec place bad least = record {
  one = (refl, bad);
  first = λ fault at (is, other_bad). not_before place at fault is (least at other_bad);
}

-- what is bad, part by part
abbrev InFront : Spec → Fault → ℕ → Type 0
InFront spec fault at = IsBadHeader spec fault at ⊎ IsBadDecl spec.shape.conns spec.decls 0 fault at

abbrev InStmts : Spec → Fault → ℕ → Type 0
InStmts spec fault at = InFront spec fault at ⊎ IsBadStmt spec fault at

abbrev InPaths : Spec → Fault → ℕ → Type 0
InPaths spec fault at = IsTooLong spec fault at ⊎ IsCrowded spec fault at

abbrev InWhole : Spec → Fault → ℕ → Type 0
InWhole spec fault at = IsNoTake spec.body fault at ⊎ InPaths spec fault at

abbrev InParts : Spec → Fault → ℕ → Type 0
InParts spec fault at = InStmts spec fault at ⊎ InWhole spec fault at

of_header : (spec : Spec) (fault : Fault) (at : ℕ) → IsBadHeader spec fault at → IsBad spec fault at
of_header spec fault at (inl ((stands, is), here)) = subst (λ f. IsBad spec f at) is (not_true (is_within 1 4096 spec.shape.limit) stands, here)
of_header spec fault at (inr ((stands, is), here)) = subst (λ f. IsBad spec f at) is (not_true (is_within 1 16 spec.shape.conns) stands, here)

of_decl : (spec : Spec) (fault : Fault) (at number : ℕ) (decl : Decl) → slice_get spec.decls number ≡ Some decl → decl.at ≡ at
    → IsListed (decl_tests spec.shape.conns (take number spec.decls) decl) fault → IsBad spec fault at
of_decl spec fault at number decl is_decl here (inl (stands, is)) =
    subst (λ f. IsBad spec f at) is (inl (record { number = number; decl = decl; stands = is_decl; passes = stands; here = here }))
of_decl spec fault at number decl is_decl here (inr (inl (stands, is))) =
    subst (λ f. IsBad spec f at) is (inl (record { number = number; decl = decl; stands = is_decl; passes = stands; here = here }))
of_decl spec fault at number decl is_decl here (inr (inr (inl (stands, is)))) =
    subst (λ f. IsBad spec f at) is (record { number = number; decl = decl; stands = is_decl; passes = stands; here = here })
of_decl spec fault at number decl is_decl here (inr (inr (inr (inl (stands, is))))) =
    subst (λ f. IsBad spec f at) is (record { number = number; decl = decl; stands = is_decl; passes = stands; here = here })
of_decl spec fault at number decl is_decl here (inr (inr (inr (inr (inl (stands, is)))))) =
    subst (λ f. IsBad spec f at) is (inl (record { number = number; decl = decl; stands = is_decl; passes = stands; here = here }))
of_decl spec fault at number decl is_decl here (inr (inr (inr (inr (inr none))))) = absurd none

module _ (spec : Spec) (at : ℕ) (begins : Bool) (place : Place) (stands : StandsInStart spec place ⊎ StandsInLoop spec place)
    (start : begins ≡ true → StandsInStart spec place) (here : place.stmt.at ≡ at) where
  has : (test : List Known → StmtKind → Bool) → test place.known (kind_of place.stmt) ≡ true → HasStmt spec test at
  has test passes = record { place = place; stands = stands; passes = passes; here = here }

  of_tests : (fault : Fault) → IsListed (stmt_tests (rules_of spec begins) place.known (kind_of place.stmt)) fault → IsBad spec fault at
  of_tests fault (inl (passes, is)) = subst (λ f. IsBad spec f at) is (has _ passes)
  of_tests fault (inr (inl (passes, is))) = subst (λ f. IsBad spec f at) is (inr (has _ passes))
  of_tests fault (inr (inr (inl (passes, is)))) = subst (λ f. IsBad spec f at) is (has _ passes)
  of_tests fault (inr (inr (inr (inl (passes, is))))) =
      subst (λ f. IsBad spec f at) is (record {
        place = place;
        stands = start (and_left begins (is_recv (kind_of place.stmt)) passes);
        takes = and_right begins (is_recv (kind_of place.stmt)) passes;
        here = here;
      })
  of_tests fault (inr (inr (inr (inr (inl (passes, is)))))) = subst (λ f. IsBad spec f at) is (has _ passes)
  of_tests fault (inr (inr (inr (inr (inr (inl (passes, is))))))) = subst (λ f. IsBad spec f at) is (inr (has _ passes))
  of_tests fault (inr (inr (inr (inr (inr (inr (inl (passes, is)))))))) = subst (λ f. IsBad spec f at) is (has _ passes)
  of_tests fault (inr (inr (inr (inr (inr (inr (inr (inl (passes, is))))))))) = subst (λ f. IsBad spec f at) is (has _ passes)
  of_tests fault (inr (inr (inr (inr (inr (inr (inr (inr (inl (passes, is)))))))))) = subst (λ f. IsBad spec f at) is (has _ passes)
  of_tests fault (inr (inr (inr (inr (inr (inr (inr (inr (inr (inl (passes, is))))))))))) = subst (λ f. IsBad spec f at) is (has _ passes)
  of_tests fault (inr (inr (inr (inr (inr (inr (inr (inr (inr (inr (inl (passes, is)))))))))))) = subst (λ f. IsBad spec f at) is (inr (has _ passes))
  of_tests fault (inr (inr (inr (inr (inr (inr (inr (inr (inr (inr (inr none))))))))))) = absurd none

of_stmt : (spec : Spec) (fault : Fault) (at : ℕ) → IsBadStmt spec fault at → IsBad spec fault at
of_stmt spec fault at (inl bad) =
    let there = bad.bad in
    let stands : StandsInStart spec there.place = record { start = bad.block; is = bad.is_start; stands = there.is_place } in
    of_tests spec at true there.place (inl stands) (λ _. stands) there.bad.here fault there.bad.stands
of_stmt spec fault at (inr bad) = of_tests spec at false bad.place (inr bad.is_place) (λ h. absurd (cc)) bad.bad.here fault bad.bad.stands

of_parts : (spec : Spec) (fault : Fault) (at : ℕ) → InParts spec fault at → IsBad spec fault at
of_parts spec fault at (inl (inl (inl bad))) = of_header spec fault at bad
of_parts spec fault at (inl (inl (inr bad))) = of_decl spec fault at bad.number bad.decl bad.is_decl bad.here bad.bad
of_parts spec fault at (inl (inr bad)) = of_stmt spec fault at bad
of_parts spec fault at (inr (inl ((stands, is), here))) = subst (λ f. IsBad spec f at) is (not_true (begins_with_recv (stmts_of spec.body)) stands, here)
of_parts spec fault at (inr (inr (inl (is, past)))) = subst (λ f. IsBad spec f at) is past
of_parts spec fault at (inr (inr (inr (is, bad)))) = subst (λ f. IsBad spec f at) is bad

from_decl : (spec : Spec) (test : List Decl → Decl → Bool) (fault : Fault) (at : ℕ)
    → ((before : List Decl) (decl : Decl) → test before decl ≡ true → IsListed (decl_tests spec.shape.conns before decl) fault)
    → HasDecl spec test at → InParts spec fault at
from_decl spec test fault at lists bad =
    inl (inl (inr (record {
      number = bad.number;
      behind = zero-le;
      decl = bad.decl;
      is_decl = bad.stands;
      bad = lists (take bad.number spec.decls) bad.decl bad.passes;
      here = bad.here;
    })))

from_stmt : (spec : Spec) (test : List Known → StmtKind → Bool) (fault : Fault) (at : ℕ)
    → ((begins : Bool) (known : List Known) (kind : StmtKind) → test known kind ≡ true → IsListed (stmt_tests (rules_of spec begins) known kind) fault)
    → HasStmt spec test at → InParts spec fault at
from_stmt spec test fault at lists bad = inl (inr (go bad.stands))
  where
    go : StandsInStart spec bad.place ⊎ StandsInLoop spec bad.place → IsBadStmt spec fault at
    go (inl stands) = inl (record {
      block = stands.start;
      is_start = stands.is;
      bad = record { place = bad.place; is_place = stands.stands; bad = record { stands = lists true bad.place.known (kind_of bad.place.stmt) bad.passes; here = bad.here } };
    })
    go (inr stands) = inr (record {
      place = bad.place;
      is_place = stands;
      bad = record { stands = lists false bad.place.known (kind_of bad.place.stmt) bad.passes; here = bad.here };
    })

from_limit : (spec : Spec) (limit : Limit) (at : ℕ) → IsBad spec (faults.Limit limit) at → InParts spec (faults.Limit limit) at
from_limit spec limits.Message at (past, here) = inl (inl (inl (inl ((true_not (is_within 1 4096 spec.shape.limit) past, refl), here))))
from_limit spec limits.Conns at (past, here) = inl (inl (inl (inr ((true_not (is_within 1 16 spec.shape.conns) past, refl), here))))
from_limit spec limits.WrittenConn at (inl bad) = from_decl spec _ _ at (λ before decl passes. inr (inl (passes, refl))) bad
from_limit spec limits.WrittenConn at (inr bad) = from_stmt spec _ _ at (λ begins known kind passes. inr (inr (inr (inr (inr (inl (passes, refl))))))) bad
from_limit spec limits.Registers at bad = from_decl spec _ _ at (λ before decl passes. inr (inr (inl (passes, refl)))) bad
from_limit spec limits.Tables at bad = from_decl spec _ _ at (λ before decl passes. inr (inr (inr (inl (passes, refl))))) bad
from_limit spec limits.Stmts at past = inr (inr (inl (refl, past)))
from_limit spec limits.Cases at bad = from_stmt spec _ _ at (λ begins known kind passes. inr (inr (inr (inr (inr (inr (inl (passes, refl)))))))) bad
from_limit spec limits.Items at bad = from_stmt spec _ _ at (λ begins known kind passes. inr (inr (inr (inr (inr (inr (inr (inl (passes, refl))))))))) bad
from_limit spec limits.Parts at bad = from_stmt spec _ _ at (λ begins known kind passes. inr (inr (inr (inr (inr (inr (inr (inr (inl (passes, refl)))))))))) bad
from_limit spec limits.Arms at bad = from_stmt spec _ _ at (λ begins known kind passes. inr (inr (inr (inr (inr (inr (inr (inr (inr (inl (passes, refl))))))))))) bad
from_limit spec limits.Text at (inl bad) = from_decl spec _ _ at (λ before decl passes. inr (inr (inr (inr (inl (passes, refl)))))) bad
from_limit spec limits.Text at (inr bad) = from_stmt spec _ _ at (λ begins known kind passes. inr (inr (inr (inr (inr (inr (inr (inr (inr (inr (inl (passes, refl)))))))))))) bad

to_parts : (spec : Spec) (fault : Fault) (at : ℕ) → IsBad spec fault at → InParts spec fault at
to_parts spec faults.UnknownName at bad = from_stmt spec _ _ at (λ begins known kind passes. inl (passes, refl)) bad
to_parts spec faults.DoubleName at (inl bad) = from_decl spec _ _ at (λ before decl passes. inl (passes, refl)) bad
to_parts spec faults.DoubleName at (inr bad) = from_stmt spec _ _ at (λ begins known kind passes. inr (inl (passes, refl))) bad
to_parts spec faults.WrongType at bad = from_stmt spec _ _ at (λ begins known kind passes. inr (inr (inl (passes, refl)))) bad
to_parts spec faults.NoTake at (past, here) = inr (inl ((true_not (begins_with_recv (stmts_of spec.body)) past, refl), here))
to_parts spec faults.TakeInStart at bad =
    inl (inr (inl (record {
      block = bad.stands.start;
      is_start = bad.stands.is;
      bad = record { place = bad.place; is_place = bad.stands.stands; bad = record { stands = inr (inr (inr (inl (bad.takes, refl)))); here = bad.here } };
    })))
to_parts spec faults.PickLength at bad = from_stmt spec _ _ at (λ begins known kind passes. inr (inr (inr (inr (inl (passes, refl)))))) bad
to_parts spec faults.TooManyCompares at bad = inr (inr (inr (refl, bad)))
to_parts spec (faults.Limit limit) at bad = from_limit spec limit at bad

both : (IsA IsB : Fault → ℕ → Type 0) (a b found : Option Found) → IsFirst IsA a → IsFirst IsB b → IsEarlier a b found
    → IsFirst (λ fault at. IsA fault at ⊎ IsB fault at) found
both IsA IsB a b found first_a first_b earlier =
    joined IsA IsB (λ fault at. IsA fault at ⊎ IsB fault at) a b found first_a first_b earlier (λ fault at bad. bad) (λ fault at bad. inl bad) (λ fault at bad. inr bad)

-- The earliest of the first faults of the parts is the first of all.
pub in_whole : (spec : Spec) (header decl front stmt before take length path paths behind found : Option Found)
    → IsFirst (IsBadHeader spec) header → IsFirst (IsBadDecl spec.shape.conns spec.decls 0) decl → IsEarlier header decl front
    → IsFirst (IsBadStmt spec) stmt → IsEarlier front stmt before
    → IsFirst (IsTooLong spec) length → IsFirst (IsCrowded spec) path → IsEarlier length path paths
    → IsFirst (IsNoTake spec.body) take → IsEarlier take paths behind → IsEarlier before behind found → IsFirst (IsBad spec) found
in_whole spec header decl front stmt before take length path paths behind found of_header of_decl to_front of_stmt to_before of_length of_path to_paths of_take to_behind to_found =
    let in_front = both (IsBadHeader spec) (IsBadDecl spec.shape.conns spec.decls 0) header decl front of_header of_decl to_front in
    let in_stmts = both (InFront spec) (IsBadStmt spec) front stmt before in_front of_stmt to_before in
    let in_paths = both (IsTooLong spec) (IsCrowded spec) length path paths of_length of_path to_paths in
    let in_rest = both (IsNoTake spec.body) (InPaths spec) take paths behind of_take in_paths to_behind in
    let parts = both (InStmts spec) (InWhole spec) before behind found in_stmts in_rest to_found in
    first_as (InParts spec) (IsBad spec) found parts (of_parts spec) (to_parts spec)

-- The first fault is what refuses a specification.
pub first_bad : (spec : Spec) (found : Found) → IsFirst (IsBad spec) (Some found) → IsFirstBad spec found.fault found.at
first_bad spec found first = record { bad = first.one; first = first.first }
