-- Where too many that compare may be passed in a whole specification.
use Rattle.std.proofs.Common.{◌≡◌, ℕ, ◌≤◌, ◌⊎◌, inl, inr, true, List, [], ◌++◌, Option, Some, None, IfNone, IfSome, slice_get, refl, sym, subst, append-nil, arith}
use Rattle.spec_model.specs.declared.tree.Block.{Block, out-Block}
use Rattle.spec_model.specs.declared.tree.Spec.{Spec}
use Rattle.spec_model.specs.declared.tree.Stmt.{Stmt}
use Rattle.spec_model.specs.Config.{kind_of, stmts_of}
use Rattle.spec_rules.specs.declared.fault.Fault.TheVariants as faults
use Rattle.spec_rules.specs.Bad.{IsBad, PassesTooMany, RecvComparesTooMuch, StartComparesTooMuch, begins_with_recv}
use Rattle.spec_rules.specs.Names.{names_declared}
use Rattle.spec_rules.specs.Path.{PathPasses, is_recv, returns}
use Rattle.spec_rules.specs.Place.{Place, StandsIn, StandsInLoop, StandsInStart, blocks_of}
use Rattle.spec_paths.specs.declared.ahead.Ahead.{Ahead}
use Rattle.spec_paths.specs.Ahead.{IsAhead, IsCrowded, crowded_from}
use Rattle.spec_paths.specs.Bounds.{IsGreatest, IsLeast, lesser_of}
use Rattle.spec_paths.specs.Crowded.{IsCrowdedInStart}
use Rattle.spec_paths.proofs.CrowdedPlaces.{stands_as}
use Rattle.spec_paths.proofs.Extremes.{least_of_either, least_of_same}
use Rattle.spec_paths.proofs.PathsAhead.{CrowdsAt, at_end, least_crowded_from}

-- with nothing left to do nothing is passed
pub nothing_left : IsGreatest (PathPasses []) (Some 0)
nothing_left = (0, returns, (λ count path. let none = at_end count path in omega (arith, none)), refl)

pub least_in_start : (start : Block) (ahead : Ahead) → IsAhead (stmts_of start) [] ahead → IsLeast (IsCrowdedInStart (Some start)) (crowded_from (out-Block start).at ahead)
least_in_start start ahead is =
    least_of_same (λ at. CrowdsAt (out-Block start).at (PathPasses (stmts_of start ++ [])) at ⊎ IsCrowded (stmts_of start) [] at) (IsCrowdedInStart (Some start)) _ there back
    (least_crowded_from (out-Block start).at (PathPasses (stmts_of start ++ [])) (IsCrowded (stmts_of start) []) ahead is.most is.crowded)
  where
    there : (at : ℕ) → CrowdsAt (out-Block start).at (PathPasses (stmts_of start ++ [])) at ⊎ IsCrowded (stmts_of start) [] at → IsCrowdedInStart (Some start) at
    there at (inl (here, (count, too_many, path))) =
        inl (here, record { count = count; too_many = too_many; path = subst (λ stmts. PathPasses stmts count) (append-nil (stmts_of start)) path })
    there at (inr crowded) = inr crowded

    back : (at : ℕ) → IsCrowdedInStart (Some start) at → CrowdsAt (out-Block start).at (PathPasses (stmts_of start ++ [])) at ⊎ IsCrowded (stmts_of start) [] at
    back at (inl (here, passes)) = inl (here, (passes.count, passes.too_many, subst (λ stmts. PathPasses stmts passes.count) (sym (append-nil (stmts_of start))) passes.path))
    back at (inr crowded) = inr crowded

module _ (spec : Spec) where
  -- a crowded place among statements that stand in the specification
  crowded_in_spec : (stmts : List Stmt) (at : ℕ)
      → ((place : Place) → StandsIn (names_declared spec.decls) stmts [] place → StandsInStart spec place ⊎ StandsInLoop spec place)
      → IsCrowded stmts [] at → RecvComparesTooMuch spec at
  crowded_in_spec stmts at stand crowded =
      let other = stands_as crowded.known (names_declared spec.decls) stmts [] crowded.place crowded.stands in
      record {
        place = other.other;
        stands = stand other.other other.stands;
        takes = subst (λ stmt. is_recv (kind_of stmt) ≡ true) other.same_stmt crowded.takes;
        number = crowded.number;
        case = crowded.case;
        is = subst (λ stmt. slice_get (blocks_of (kind_of stmt)) crowded.number ≡ Some crowded.case) other.same_stmt crowded.is;
        passes = subst (λ behind. PassesTooMany (stmts_of crowded.case.block ++ behind)) other.same_behind crowded.passes;
        here = subst (λ stmt. stmt.at ≡ at) other.same_stmt crowded.here;
      }

  bad_in_start : (start : Option Block) (at : ℕ) → spec.start ≡ start → IsCrowdedInStart start at → StartComparesTooMuch spec at ⊎ RecvComparesTooMuch spec at
  bad_in_start None at is crowded = absurd crowded
  bad_in_start (Some start) at is (inl (here, passes)) = inl (record { start = start; is = is; passes = passes; here = here })
  bad_in_start (Some start) at is (inr crowded) =
      inr (crowded_in_spec (stmts_of start) at (λ place stands. inl (record { start = start; is = is; stands = stands })) crowded)

  bad_there : (at : ℕ) → IsCrowdedInStart spec.start at ⊎ IsCrowded (stmts_of spec.body) [] at → StartComparesTooMuch spec at ⊎ RecvComparesTooMuch spec at
  bad_there at (inl in_start) = bad_in_start spec.start at refl in_start
  bad_there at (inr in_loop) = inr (crowded_in_spec (stmts_of spec.body) at (λ place. inr) in_loop)

  bad_back : (at : ℕ) → StartComparesTooMuch spec at ⊎ RecvComparesTooMuch spec at → IsCrowdedInStart spec.start at ⊎ IsCrowded (stmts_of spec.body) [] at
  bad_back at (inl from_start) = inl (subst (λ start. IsCrowdedInStart start at) (sym from_start.is) (inl (from_start.here, from_start.passes)))
  bad_back at (inr from_recv) = by_stands from_recv.stands
    where
      crowded : (stmts : List Stmt) → StandsIn (names_declared spec.decls) stmts [] from_recv.place → IsCrowded stmts [] at
      crowded stmts stands = record {
        known = names_declared spec.decls;
        place = from_recv.place;
        stands = stands;
        takes = from_recv.takes;
        number = from_recv.number;
        case = from_recv.case;
        is = from_recv.is;
        passes = from_recv.passes;
        here = from_recv.here;
      }

      by_stands : StandsInStart spec from_recv.place ⊎ StandsInLoop spec from_recv.place → IsCrowdedInStart spec.start at ⊎ IsCrowded (stmts_of spec.body) [] at
      by_stands (inl in_start) =
          inl (subst (λ start. IsCrowdedInStart start at) (sym in_start.is) (inr (crowded (stmts_of in_start.start) in_start.stands)))
      by_stands (inr in_loop) = inr (crowded (stmts_of spec.body) in_loop)

  pub least_bad : (in_start in_loop : Option ℕ) → begins_with_recv (stmts_of spec.body) ≡ true → IsLeast (IsCrowdedInStart spec.start) in_start
      → IsLeast (IsCrowded (stmts_of spec.body) []) in_loop → IsLeast (IsBad spec faults.TooManyCompares) (lesser_of in_start in_loop)
  least_bad in_start in_loop begins start_is loop_is =
      least_of_same (λ at. IsCrowdedInStart spec.start at ⊎ IsCrowded (stmts_of spec.body) [] at) (IsBad spec faults.TooManyCompares) _
      (λ at crowded. (begins, bad_there at crowded)) (λ at bad. bad_back at bad.1) (least_of_either _ _ in_start in_loop start_is loop_is)

-- what is said of the least number with a property, by cases
pub least_given : (P : ℕ → Type 0) (least : Option ℕ) → IsLeast P least → IfSome least (λ at. P at × ((other : ℕ) → P other → at ≤ other))
least_given P None none = tt
least_given P (Some least) is = is

pub none_given : (P : ℕ → Type 0) (least : Option ℕ) → IsLeast P least → IfNone least ((at : ℕ) → ¬ P at)
none_given P None none = none
none_given P (Some least) is = tt
