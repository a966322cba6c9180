-- How many comparisons are still allowed before the next take.
use Rattle.std.proofs.Common.{◌≡◌, ℕ, zero, suc, ◌+◌, ◌*◌, ◌<◌, ◌≤◌, ◌⊎◌, inl, inr, true, false, List, [], ◌∷◌, ◌++◌, map, Option, Some, None, refl, sym, ◌∙◌, ap, subst, arith}
use Rattle.std.specs.Prelude.{if◌then◌else◌, slice_get}
use Rattle.std.proofs.lemmas.Bool.{cases_lt}
use Rattle.spec_model.specs.declared.config.Config.{Config}
use Rattle.spec_model.specs.declared.config.Task.{Task}
use Rattle.spec_model.specs.declared.config.Task.TheVariants.{Do, Forget}
use Rattle.spec_model.specs.declared.event.ServerEvent.{ServerEvent}
use Rattle.spec_model.specs.declared.event.ServerEvent.TheVariants as events
use Rattle.spec_model.specs.declared.tree.Block.{Block, out-Block}
use Rattle.spec_model.specs.declared.tree.Expr.{Expr}
use Rattle.spec_model.specs.declared.tree.Kind.TheOpen.{Recv, Send, Pick, Assign, If, Either, Assume, Put, Lookup, Delete}
use Rattle.spec_model.specs.declared.tree.Spec.{Spec}
use Rattle.spec_model.specs.declared.tree.Stmt.{Stmt}
use Rattle.spec_model.specs.Config.{StmtKind, begin, kind_of, stmts_of}
use Rattle.spec_model.specs.Run.{BeginsWithRecv}
use Rattle.spec_model.specs.Step.{after_silent_stmt}
use Rattle.spec_model.specs.Table.{looked_up, most_pairs}
use Rattle.spec_rules.specs.declared.fault.Fault.TheVariants as faults
use Rattle.spec_rules.specs.declared.names.Known.{Known}
use Rattle.spec_rules.specs.Accepted.{IsAccepted}
use Rattle.spec_rules.specs.Bad.{begins_with_recv, most_compares}
use Rattle.spec_rules.specs.Path.{PathPasses, compares, is_recv, passes, ways_on}
use Rattle.spec_rules.specs.Place.{Inner, Place, StandsIn, StandsInLoop, StandsInStart, blocks_of, bound_behind, first, later, without_names}
use Rattle.spec_rules.proofs.Leaves.{IsBlockIn, Leaves, compares_on, enters, goes_on}
use Rattle.spec_rules.proofs.Standing.{begins, deeper}
use Rattle.spec_paths.specs.Tests.{most_tests}
use Rattle.spec_paths.proofs.SmallTables.{AreSmall}

-- the statements among the tasks
abbrev pub undone : List Task → List Stmt
undone [] = []
undone (Do stmt passed ∷ tasks) = stmt ∷ undone tasks
undone (Forget count ∷ tasks) = undone tasks

-- how many pairs the look-up that stands first has passed
abbrev pub half_done : List Task → ℕ
half_done [] = 0
half_done (Do stmt passed ∷ tasks) = passed
half_done (Forget count ∷ tasks) = 0

-- A look-up has passed at most as many pairs as a table has, and any other statement none.
abbrev pub most_passed : Option (List ℕ × Expr) → ℕ
most_passed None = 0
most_passed (Some asked) = most_pairs

-- A statement stands at a place of the specification, with those behind it that are done there, and has passed few pairs.
pub record IsPlaced (spec : Spec) (stmt : Stmt) (passed : ℕ) (behind : List Stmt) : Type 0 where
  pub place : Place
  pub stands : StandsInStart spec place ⊎ StandsInLoop spec place
  pub stmt_is : place.stmt ≡ stmt
  pub behind_is : place.behind ≡ behind
  pub few : passed ≤ most_passed (looked_up (kind_of stmt))

abbrev pub ArePlaced : Spec → List Task → Type 0
ArePlaced spec [] = Unit {0}
ArePlaced spec (Do stmt passed ∷ tasks) = IsPlaced spec stmt passed (undone tasks) × ArePlaced spec tasks
ArePlaced spec (Forget count ∷ tasks) = ArePlaced spec tasks

-- Behind so many comparisons since the last take, each statement that compares on a path from here may make 256 more, but for those that
-- the look-up in hand has made.
pub record IsWithin (spec : Spec) (tests : ℕ) (c : Config) : Type 0 where
  pub placed : ArePlaced spec c.todo
  pub small : AreSmall c.tables
  pub budget : (count : ℕ) → PathPasses (undone c.todo) count → tests + most_pairs * count ≤ most_tests + half_done c.todo

-- the comparisons since the last take, with one event more
abbrev pub tests_with : ServerEvent → ℕ → ℕ
tests_with (events.Take conn message) tests = 0
tests_with (events.Test outcome) tests = tests + 1
tests_with _ tests = tests

pub undone-begun : (stmts : List Stmt) (count : ℕ) (rest : List Task) → undone (map begin stmts ++ Forget count ∷ rest) ≡ stmts ++ undone rest
undone-begun [] count rest = refl
undone-begun (stmt ∷ stmts) count rest = ap (λ others. stmt ∷ others) (undone-begun stmts count rest)

-- the statements of a block whose places stand in the specification are placed, once it is entered
pub placed-begun : (spec : Spec) (known : List Known) (stmts : List Stmt) (count : ℕ) (rest : List Task)
    → ((place : Place) → StandsIn known stmts (undone rest) place → StandsInStart spec place ⊎ StandsInLoop spec place) → ArePlaced spec rest
    → ArePlaced spec (map begin stmts ++ Forget count ∷ rest)
placed-begun spec known [] count rest stand placed = placed
placed-begun spec known (stmt ∷ stmts) count rest stand placed = (
  record {
    place = record { known = known; stmt = stmt; behind = stmts ++ undone rest };
    stands = stand _ (first known stmt stmts (undone rest));
    stmt_is = refl;
    behind_is = sym (undone-begun stmts count rest);
    few = omega arith;
  },
  placed-begun spec (known ++ bound_behind (kind_of stmt)) stmts count rest (λ place stands. stand place (later stands)) placed,
)

-- What stands in a block of a placed statement stands in the specification.
block-stands : (spec : Spec) (stmt : Stmt) (passed : ℕ) (behind : List Stmt) (placed : IsPlaced spec stmt passed behind) (number : ℕ) (inner : Inner)
    → slice_get (blocks_of (kind_of stmt)) number ≡ Some inner → (place : Place) → StandsIn (placed.place.known ++ inner.bound) (stmts_of inner.block) behind place
    → StandsInStart spec place ⊎ StandsInLoop spec place
block-stands spec stmt passed behind placed number inner is place stands = by_stands placed.stands
  where
    there : slice_get (blocks_of (kind_of placed.place.stmt)) number ≡ Some inner
    there = subst (λ one. slice_get (blocks_of (kind_of one)) number ≡ Some inner) (sym placed.stmt_is) is

    within : StandsIn (placed.place.known ++ inner.bound) (stmts_of inner.block) placed.place.behind place
    within = subst (λ behind. StandsIn (placed.place.known ++ inner.bound) (stmts_of inner.block) behind place) (sym placed.behind_is) stands

    by_stands : StandsInStart spec placed.place ⊎ StandsInLoop spec placed.place → StandsInStart spec place ⊎ StandsInLoop spec place
    by_stands (inl in_start) =
        inl (record { start = in_start.start; is = in_start.is; stands = deeper _ _ _ placed.place place number inner in_start.stands there within })
    by_stands (inr in_loop) = inr (deeper _ _ _ placed.place place number inner in_loop there within)

-- once a block of a placed statement is entered
block-placed : (spec : Spec) (stmt : Stmt) (passed : ℕ) (block : Block) (count : ℕ) (rest : List Task) → IsPlaced spec stmt passed (undone rest) → ArePlaced spec rest
    → IsBlockIn (blocks_of (kind_of stmt)) block → ArePlaced spec (map begin (stmts_of block) ++ Forget count ∷ rest)
block-placed spec stmt passed block count rest placed others in_stmt =
    subst (λ one. ArePlaced spec (map begin (stmts_of one) ++ Forget count ∷ rest)) in_stmt.same
    (placed-begun spec (placed.place.known ++ in_stmt.inner.bound) (stmts_of in_stmt.inner.block) count rest
    (block-stands spec stmt passed (undone rest) placed in_stmt.number in_stmt.inner in_stmt.is) others)

-- ---- ways on

-- the ways on from a statement that is no `recv` and has blocks are those
way_in : (kind : StmtKind) (block : Block) → is_recv kind ≡ false → IsBlockIn (blocks_of kind) block → (number : ℕ) × (slice_get (ways_on kind) number ≡ Some (stmts_of block))
way_in (Recv chan cases other rest) block no_recv in_kind = absurd (cc)
way_in (If cond holds fails) block no_recv in_kind = (in_kind.number, by_number in_kind.number in_kind.inner in_kind.is in_kind.same)
  where
    by_number : (number : ℕ) (inner : Inner) → slice_get (without_names holds ∷ without_names fails ∷ []) number ≡ Some inner → inner.block ≡ block
        → slice_get (stmts_of holds ∷ stmts_of fails ∷ []) number ≡ Some (stmts_of block)
    by_number zero inner is same = let here : without_names holds ≡ inner = cc in ap (λ (one : Inner). Some (stmts_of one.block)) here ∙ ap (λ one. Some (stmts_of one)) same
    by_number (suc zero) inner is same = let here : without_names fails ≡ inner = cc in ap (λ (one : Inner). Some (stmts_of one.block)) here ∙ ap (λ one. Some (stmts_of one)) same
    by_number (suc (suc number)) inner is same = absurd (cc)
way_in (Either arms) block no_recv in_kind = (in_kind.number, ways_of_arms arms in_kind.number in_kind.inner in_kind.is in_kind.same)
  where
    ways_of_arms : (arms : List Block) (number : ℕ) (inner : Inner) → slice_get (map without_names arms) number ≡ Some inner → inner.block ≡ block
        → slice_get (map stmts_of arms) number ≡ Some (stmts_of block)
    ways_of_arms [] number inner is same = absurd (cc)
    ways_of_arms (arm ∷ arms) zero inner is same = let here : without_names arm ≡ inner = cc in ap (λ (one : Inner). Some (stmts_of one.block)) here ∙ ap (λ one. Some (stmts_of one)) same
    ways_of_arms (arm ∷ arms) (suc number) inner is same = ways_of_arms arms number inner is same
way_in (Lookup table key name found missing) block no_recv in_kind = (in_kind.number, by_number in_kind.number in_kind.inner in_kind.is in_kind.same)
  where
    by_number : (number : ℕ) (inner : Inner) → slice_get (blocks_of (Lookup table key name found missing)) number ≡ Some inner → inner.block ≡ block
        → slice_get (stmts_of found ∷ stmts_of missing ∷ []) number ≡ Some (stmts_of block)
    by_number zero inner is same = let here : found ≡ inner.block = cc in ap (λ one. Some (stmts_of one)) (here ∙ same)
    by_number (suc zero) inner is same = let here : missing ≡ inner.block = cc in ap (λ one. Some (stmts_of one)) (here ∙ same)
    by_number (suc (suc number)) inner is same = absurd (cc)
way_in (Send conn parts) block no_recv in_kind = let none = in_kind.is in absurd (cc)
way_in (Pick name len alphabet) block no_recv in_kind = let none = in_kind.is in absurd (cc)
way_in (Assign name left tail) block no_recv in_kind = let none = in_kind.is in absurd (cc)
way_in (Assume cond) block no_recv in_kind = let none = in_kind.is in absurd (cc)
way_in (Put table key value) block no_recv in_kind = let none = in_kind.is in absurd (cc)
way_in (Delete table key) block no_recv in_kind = let none = in_kind.is in absurd (cc)

-- one for a statement that compares
abbrev pub comparisons : StmtKind → ℕ
comparisons kind = if compares kind then 1 else 0

-- what the look-up in hand has made is allowed for by its own 256
pub passed-few : (kind : StmtKind) (passed : ℕ) → passed ≤ most_passed (looked_up kind) → passed ≤ most_pairs * comparisons kind
passed-few (Put table key value) passed few = omega arith
passed-few (Lookup table key name found missing) passed few = omega arith
passed-few (Delete table key) passed few = omega arith
passed-few (Recv chan cases other rest) passed few = omega arith
passed-few (Send conn parts) passed few = omega arith
passed-few (Pick name len alphabet) passed few = omega arith
passed-few (Assign name left tail) passed few = omega arith
passed-few (If cond holds fails) passed few = omega arith
passed-few (Either arms) passed few = omega arith
passed-few (Assume cond) passed few = omega arith

-- a path behind the statement is one through it
path_on : (stmt : Stmt) (tail : List Stmt) (number : ℕ) (way : List Stmt) (count : ℕ) → is_recv (kind_of stmt) ≡ false → slice_get (ways_on (kind_of stmt)) number ≡ Some way
    → PathPasses (way ++ tail) count → PathPasses (stmt ∷ tail) (comparisons (kind_of stmt) + count)
path_on stmt tail number way count no_recv is path = passes number way no_recv is path

-- ---- one step

-- What a statement that is no `recv` leaves keeps the budget: behind it, where its own comparisons are no longer counted, and at the next pair.
pub left_within : (spec : Spec) (tests after_tests : ℕ) (stmt : Stmt) (passed : ℕ) (rest todo : List Task) → IsPlaced spec stmt passed (undone rest) → ArePlaced spec rest
    → ((count : ℕ) → PathPasses (stmt ∷ undone rest) count → tests + most_pairs * count ≤ most_tests + passed) → is_recv (kind_of stmt) ≡ false
    → ((count : ℕ) → tests + most_pairs * (comparisons (kind_of stmt) + count) ≤ most_tests + passed → after_tests + most_pairs * count ≤ most_tests)
    → ((asked : List ℕ × Expr) → looked_up (kind_of stmt) ≡ Some asked → todo ≡ Do stmt (passed + 1) ∷ rest → (passed < most_pairs) × (after_tests ≤ tests + 1))
    → Leaves stmt passed (kind_of stmt) rest todo
    → ArePlaced spec todo × ((count : ℕ) → PathPasses (undone todo) count → after_tests + most_pairs * count ≤ most_tests + half_done todo)
left_within spec tests after_tests stmt passed rest _ placed others budget no_recv behind_it next (goes_on _ ways) = (
  others,
  λ count path.
      let way : slice_get (ways_on (kind_of stmt)) 0 ≡ Some [] = ap (λ all. slice_get all 0) ways in
      let within = behind_it count (budget (comparisons (kind_of stmt) + count) (path_on stmt (undone rest) 0 [] count no_recv way path)) in
      omega (arith, within),
)
left_within spec tests after_tests stmt passed rest _ placed others budget no_recv behind_it next (compares_on asked looks_up) =
    let (few, one_more) = next asked looks_up refl in (
      (
        record {
          place = placed.place;
          stands = placed.stands;
          stmt_is = placed.stmt_is;
          behind_is = placed.behind_is;
          few = subst (λ look_up. passed + 1 ≤ most_passed look_up) (sym looks_up) (omega (arith, few));
        },
        others,
      ),
      λ count path. let within = budget count path in omega (arith, within, one_more),
    )
left_within spec tests after_tests stmt passed rest _ placed others budget no_recv behind_it next (enters block forgotten in_stmt) = (
  block-placed spec stmt passed block forgotten rest placed others in_stmt,
  λ count path.
      let way = way_in (kind_of stmt) block no_recv in_stmt in
      let path_there = subst (λ stmts. PathPasses stmts count) (undone-begun (stmts_of block) forgotten rest) path in
      let within = behind_it count (budget (comparisons (kind_of stmt) + count) (path_on stmt (undone rest) way.0 (stmts_of block) count no_recv way.1 path_there)) in
      omega (arith, within),
)

-- with the comparisons of the statement in hand behind it
pub behind-silent : (tests passed own count : ℕ) → passed ≤ most_pairs * own → tests + most_pairs * (own + count) ≤ most_tests + passed → tests + most_pairs * count ≤ most_tests
behind-silent tests passed own count few within = omega (arith, few, within)

pub behind-test : (tests passed own count : ℕ) → own ≡ 1 → passed < most_pairs → tests + most_pairs * (own + count) ≤ most_tests + passed → tests + 1 + most_pairs * count ≤ most_tests
behind-test tests passed own count one few within = let within_one = subst (λ n. tests + most_pairs * (n + count) ≤ most_tests + passed) one within in omega (arith, few, within_one)

pub silent-no_recv : (c : Config) (rest : List Task) (passed : ℕ) (kind : StmtKind) (d : Config) → after_silent_stmt c rest passed kind ≡ Some d → is_recv kind ≡ false
silent-no_recv c rest passed (Recv chan cases other block) d gave = absurd (cc)
silent-no_recv c rest passed _ d gave = refl

recv-asks_none : (kind : StmtKind) (asked : List ℕ × Expr) → is_recv kind ≡ true → looked_up kind ≡ Some asked → ⊥
recv-asks_none (Recv chan cases other block) asked takes looks_up = absurd (cc)
recv-asks_none _ asked takes looks_up = absurd (cc)

-- a comparison has passed less pairs than a table may have
pub passed-before-test : (look_up : Option (List ℕ × Expr)) (passed : ℕ) → passed ≤ most_passed look_up → ((asked : List ℕ × Expr) → look_up ≡ Some asked → passed < most_pairs) → passed < most_pairs
passed-before-test None passed few looks = omega arith
passed-before-test (Some asked) passed few looks = looks asked refl

-- a take begins a new budget
pub record Fresh (spec : Spec) : Type 0 where
  pub behind_recv : (place : Place) → StandsInStart spec place ⊎ StandsInLoop spec place → is_recv (kind_of place.stmt) ≡ true → (number : ℕ) (inner : Inner)
      → slice_get (blocks_of (kind_of place.stmt)) number ≡ Some inner → (count : ℕ) → PathPasses (stmts_of inner.block ++ place.behind) count → count ≤ most_compares
  pub behind_start : (start : Block) → spec.start ≡ Some start → (count : ℕ) → PathPasses (stmts_of start) count → count ≤ most_compares
  pub takes_first : BeginsWithRecv spec

begins-true : (spec : Spec) → BeginsWithRecv spec → begins_with_recv (stmts_of spec.body) ≡ true
begins-true spec first_recv = rw (first_recv.body, first_recv.takes) refl

pub fresh : (spec : Spec) → IsAccepted spec → Fresh spec
fresh spec accepted = record {
  behind_recv = λ place stands takes number inner is count path. few count (λ too_many.
      accepted.none_bad faults.TooManyCompares place.stmt.at (
        begins-true spec (begins spec accepted),
        inr (record {
          place = place;
          stands = stands;
          takes = takes;
          number = number;
          case = inner;
          is = is;
          passes = record { count = count; too_many = too_many; path = path };
          here = refl;
        }),
      ));
  behind_start = λ start is count path. few count (λ too_many.
      accepted.none_bad faults.TooManyCompares (out-Block start).at (
        begins-true spec (begins spec accepted),
        inl (record {
          start = start;
          is = is;
          passes = record { count = count; too_many = too_many; path = path };
          here = refl;
        }),
      ));
  takes_first = begins spec accepted;
}
  where
    few : (count : ℕ) → (most_compares < count → ⊥) → count ≤ most_compares
    few count not_more = elim (cases_lt most_compares count) [ inl more ↦ absurd (not_more more) | inr at_most ↦ at_most ]

pub taken_within : (spec : Spec) (stmt : Stmt) (passed : ℕ) (rest todo : List Task) → Fresh spec → IsPlaced spec stmt passed (undone rest) → ArePlaced spec rest → is_recv (kind_of stmt) ≡ true
    → Leaves stmt passed (kind_of stmt) rest todo
    → ArePlaced spec todo × ((count : ℕ) → PathPasses (undone todo) count → 0 + most_pairs * count ≤ most_tests + half_done todo)
taken_within spec stmt passed rest _ new placed others takes (goes_on no_recv ways) = absurd (cc)
taken_within spec stmt passed rest _ new placed others takes (compares_on asked looks_up) = absurd (recv-asks_none (kind_of stmt) asked takes looks_up)
taken_within spec stmt passed rest _ new placed others takes (enters block forgotten in_stmt) = (
  block-placed spec stmt passed block forgotten rest placed others in_stmt,
  λ count path.
      let path_there = subst (λ stmts. PathPasses stmts count) (undone-begun (stmts_of block) forgotten rest) path in
      let path_placed : PathPasses (stmts_of in_stmt.inner.block ++ placed.place.behind) count
      = subst (λ behind. PathPasses (stmts_of in_stmt.inner.block ++ behind) count) (sym placed.behind_is)
      (subst (λ one. PathPasses (stmts_of one ++ undone rest) count) (sym in_stmt.same) path_there) in
      let few = new.behind_recv placed.place placed.stands (subst (λ one. is_recv (kind_of one) ≡ true) (sym placed.stmt_is) takes) in_stmt.number in_stmt.inner
      (subst (λ one. slice_get (blocks_of (kind_of one)) in_stmt.number ≡ Some in_stmt.inner) (sym placed.stmt_is) in_stmt.is) count path_placed in
      omega (arith, few),
)
