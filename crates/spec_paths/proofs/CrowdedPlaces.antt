-- Which places are crowded among statements, by their first one.
use Rattle.std.proofs.Common.{◌≡◌, ℕ, ◌<◌, ◌⊎◌, inl, inr, true, List, [], ◌∷◌, ◌++◌, map, Option, Some, None, option_map, slice_get, refl, sym, ◌∙◌, ap, subst}
use Rattle.std.proofs.lemmas.Option.{slice_get-map}
use Rattle.spec_model.specs.declared.tree.Block.{Block}
use Rattle.spec_model.specs.declared.tree.Stmt.{Stmt}
use Rattle.spec_model.specs.Config.{StmtKind, kind_of, stmts_of}
use Rattle.spec_rules.specs.declared.names.Known.{Known}
use Rattle.spec_rules.specs.Bad.{PassesTooMany, most_compares}
use Rattle.spec_rules.specs.Path.{PathPasses, is_recv}
use Rattle.spec_rules.specs.Place.{Inner, Place, StandsIn, blocks_of, bound_behind, first, inside, later}
use Rattle.spec_paths.specs.Ahead.{IsCrowded, IsCrowdedInOne, PassesThroughOne}

pub stands_nowhere : (known : List Known) (behind : List Stmt) (place : Place) → StandsIn known [] behind place → ⊥
stands_nowhere known behind place stands = elim stands [ ]

-- a place as it stands where other names are known
pub record StandsAs (known : List Known) (stmts behind : List Stmt) (place : Place) : Type 0 where
  pub other : Place
  pub stands : StandsIn known stmts behind other
  pub same_stmt : place.stmt ≡ other.stmt
  pub same_behind : place.behind ≡ other.behind

-- a statement stands where it does, whatever names are known
pub stands_as : (before known : List Known) (stmts behind : List Stmt) (place : Place) → StandsIn before stmts behind place → StandsAs known stmts behind place
stands_as before known _ behind place (first _ stmt stmts _) =
    record { other = record { known = known; stmt = stmt; behind = stmts ++ behind }; stands = first known stmt stmts behind; same_stmt = refl; same_behind = refl }
stands_as before known _ behind place (later {stmt = stmt} {stmts = stmts} stands) =
    let there = stands_as (before ++ bound_behind (kind_of stmt)) (known ++ bound_behind (kind_of stmt)) stmts behind place stands in
    record { other = there.other; stands = later there.stands; same_stmt = there.same_stmt; same_behind = there.same_behind }
stands_as before known _ behind place (inside {stmt = stmt} {stmts = stmts} number inner is stands) =
    let there = stands_as (before ++ inner.bound) (known ++ inner.bound) (stmts_of inner.block) (stmts ++ behind) place stands in
    record { other = there.other; stands = inside number inner is there.stands; same_stmt = there.same_stmt; same_behind = there.same_behind }

abbrev pub blocks_in : StmtKind → List Block
blocks_in kind = map (λ (inner : Inner). inner.block) (blocks_of kind)

-- The statement is a `recv`, and through one of its cases a path passes too many.
pub record CrowdsHere (stmt : Stmt) (tail : List Stmt) (at : ℕ) : Type 0 where
  pub takes : is_recv (kind_of stmt) ≡ true
  pub count : ℕ
  pub too_many : most_compares < count
  pub path : PassesThroughOne (blocks_in (kind_of stmt)) tail count
  pub here : stmt.at ≡ at

pub block_at : (inners : List Inner) (number : ℕ) (inner : Inner) → slice_get inners number ≡ Some inner
    → slice_get (map (λ (one : Inner). one.block) inners) number ≡ Some inner.block
block_at inners number inner is = slice_get-map (λ (one : Inner). one.block) inners number ∙ ap (option_map (λ (one : Inner). one.block)) is

inner_at : (inners : List Inner) (number : ℕ) (block : Block) → slice_get (map (λ (one : Inner). one.block) inners) number ≡ Some block
    → (inner : Inner) × (slice_get inners number ≡ Some inner) × (inner.block ≡ block)
inner_at inners number block is = by_inner (slice_get inners number) refl (sym (slice_get-map (λ (one : Inner). one.block) inners number) ∙ is)
  where
    by_inner : (found : Option Inner) → slice_get inners number ≡ found → option_map (λ (one : Inner). one.block) found ≡ Some block
        → (inner : Inner) × (slice_get inners number ≡ Some inner) × (inner.block ≡ block)
    by_inner None none gave = absurd (cc)
    by_inner (Some inner) there gave = (inner, there, cc)

-- A crowded place is that of the first statement, or one in its blocks, or one behind it.
pub crowded_where : (stmt : Stmt) (stmts behind : List Stmt) (at : ℕ) → IsCrowded (stmt ∷ stmts) behind at
    → (CrowdsHere stmt (stmts ++ behind) at ⊎ IsCrowdedInOne (blocks_in (kind_of stmt)) (stmts ++ behind) at) ⊎ IsCrowded stmts behind at
crowded_where stmt stmts behind at crowded = by_place crowded.known crowded.place crowded.stands crowded.takes crowded.number crowded.case crowded.is crowded.passes crowded.here
  where
    by_place : (known : List Known) (place : Place) → StandsIn known (stmt ∷ stmts) behind place → is_recv (kind_of place.stmt) ≡ true → (number : ℕ) (case : Inner)
        → slice_get (blocks_of (kind_of place.stmt)) number ≡ Some case → PassesTooMany (stmts_of case.block ++ place.behind) → place.stmt.at ≡ at
        → (CrowdsHere stmt (stmts ++ behind) at ⊎ IsCrowdedInOne (blocks_in (kind_of stmt)) (stmts ++ behind) at) ⊎ IsCrowded stmts behind at
    by_place known place (first _ _ _ _) takes number case is passes here = inl (inl (record {
      takes = takes;
      count = passes.count;
      too_many = passes.too_many;
      path = record { number = number; item = case.block; is = block_at (blocks_of (kind_of stmt)) number case is; has = passes.path };
      here = here;
    }))
    by_place known place (later stands) takes number case is passes here =
        inr (record { known = known ++ bound_behind (kind_of stmt); place = place; stands = stands; takes = takes; number = number; case = case; is = is; passes = passes; here = here })
    by_place known place (inside other inner other_is stands) takes number case is passes here = inl (inr (record {
      number = other;
      item = inner.block;
      is = block_at (blocks_of (kind_of stmt)) other inner other_is;
      has = record { known = known ++ inner.bound; place = place; stands = stands; takes = takes; number = number; case = case; is = is; passes = passes; here = here };
    }))

pub crowded_here : (stmt : Stmt) (stmts behind : List Stmt) (at : ℕ) → CrowdsHere stmt (stmts ++ behind) at → IsCrowded (stmt ∷ stmts) behind at
crowded_here stmt stmts behind at crowds =
    let (inner, there, same) = inner_at (blocks_of (kind_of stmt)) crowds.path.number crowds.path.item crowds.path.is in
    record {
      known = [];
      place = record { known = []; stmt = stmt; behind = stmts ++ behind };
      stands = first [] stmt stmts behind;
      takes = crowds.takes;
      number = crowds.path.number;
      case = inner;
      is = there;
      passes = record {
        count = crowds.count;
        too_many = crowds.too_many;
        path = subst (λ block. PathPasses (stmts_of block ++ (stmts ++ behind)) crowds.count) (sym same) crowds.path.has;
      };
      here = crowds.here;
    }

pub crowded_inside : (stmt : Stmt) (stmts behind : List Stmt) (at : ℕ) → IsCrowdedInOne (blocks_in (kind_of stmt)) (stmts ++ behind) at → IsCrowded (stmt ∷ stmts) behind at
crowded_inside stmt stmts behind at some =
    let (inner, there, same) = inner_at (blocks_of (kind_of stmt)) some.number some.item some.is in
    let within : IsCrowded (stmts_of inner.block) (stmts ++ behind) at = subst (λ block. IsCrowded (stmts_of block) (stmts ++ behind) at) (sym same) some.has in
    let other = stands_as within.known inner.bound (stmts_of inner.block) (stmts ++ behind) within.place within.stands in
    record {
      known = [];
      place = other.other;
      stands = inside some.number inner there other.stands;
      takes = subst (λ stmt. is_recv (kind_of stmt) ≡ true) other.same_stmt within.takes;
      number = within.number;
      case = within.case;
      is = subst (λ stmt. slice_get (blocks_of (kind_of stmt)) within.number ≡ Some within.case) other.same_stmt within.is;
      passes = subst (λ behind. PassesTooMany (stmts_of within.case.block ++ behind)) other.same_behind within.passes;
      here = subst (λ stmt. stmt.at ≡ at) other.same_stmt within.here;
    }

pub crowded_later : (stmt : Stmt) (stmts behind : List Stmt) (at : ℕ) → IsCrowded stmts behind at → IsCrowded (stmt ∷ stmts) behind at
crowded_later stmt stmts behind at crowded =
    let other = stands_as crowded.known (bound_behind (kind_of stmt)) stmts behind crowded.place crowded.stands in
    record {
      known = [];
      place = other.other;
      stands = later other.stands;
      takes = subst (λ stmt. is_recv (kind_of stmt) ≡ true) other.same_stmt crowded.takes;
      number = crowded.number;
      case = crowded.case;
      is = subst (λ stmt. slice_get (blocks_of (kind_of stmt)) crowded.number ≡ Some crowded.case) other.same_stmt crowded.is;
      passes = subst (λ behind. PassesTooMany (stmts_of crowded.case.block ++ behind)) other.same_behind crowded.passes;
      here = subst (λ stmt. stmt.at ≡ at) other.same_stmt crowded.here;
    }
