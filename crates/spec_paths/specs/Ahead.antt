-- What is ahead of statements: how many that compare a path passes, and the first place that is crowded.
use Rattle.std.specs.Prelude.{◌≡◌, ℕ, true, ◌++◌, nat_lt, if◌then◌else◌, List, slice_get, Option, Some, None}
use Rattle.spec_model.specs.declared.tree.Block.{Block}
use Rattle.spec_model.specs.declared.tree.Stmt.{Stmt}
use Rattle.spec_model.specs.Config.{kind_of, stmts_of}
use Rattle.spec_rules.specs.declared.names.Known.{Known}
use Rattle.spec_rules.specs.Bad.{PassesTooMany, most_compares}
use Rattle.spec_rules.specs.Path.{PathPasses, is_recv}
use Rattle.spec_rules.specs.Place.{Inner, Place, StandsIn, blocks_of}
use Rattle.spec_paths.specs.declared.ahead.Ahead.{Ahead}
use Rattle.spec_paths.specs.Bounds.{IsGreatest, IsLeast, greater_of, lesser_of, one_more}

abbrev pub nothing_ahead : Ahead
nothing_ahead = record { most = None; crowded = None }

abbrev pub both_ahead : Ahead → Ahead → Ahead
both_ahead one other = record { most = greater_of one.most other.most; crowded = lesser_of one.crowded other.crowded }

abbrev pub past_comparison : Ahead → Ahead
past_comparison ahead = record { most = one_more ahead.most; crowded = ahead.crowded }

abbrev pub ahead_before : Ahead → Ahead → Ahead
ahead_before inside later = record { most = inside.most; crowded = lesser_of inside.crowded later.crowded }

-- A place is crowded where too many are ahead of it.
abbrev pub crowded_from : ℕ → Ahead → Option ℕ
crowded_from at ahead = by_most ahead.most
  where
    by_most : Option ℕ → Option ℕ
    by_most None = ahead.crowded
    by_most (Some most) = if nat_lt most_compares most then lesser_of (Some at) ahead.crowded else ahead.crowded

-- At this place a `recv` stands among the statements, from which a path passes too many that compare.
pub record IsCrowded (stmts behind : List Stmt) (at : ℕ) : Type 0 where
  pub known : List Known
  pub place : Place
  pub stands : StandsIn known stmts behind place
  pub takes : is_recv (kind_of place.stmt) ≡ true
  pub number : ℕ
  pub case : Inner
  pub is : slice_get (blocks_of (kind_of place.stmt)) number ≡ Some case
  pub passes : PassesTooMany (stmts_of case.block ++ place.behind)
  pub here : place.stmt.at ≡ at

-- what is ahead of statements behind which others are done
pub record IsAhead (stmts behind : List Stmt) (ahead : Ahead) : Type 0 where
  pub most : IsGreatest (PathPasses (stmts ++ behind)) ahead.most
  pub crowded : IsLeast (IsCrowded stmts behind) ahead.crowded

-- some item of a list with this property
pub record SomeItem {A : Type 0} (P : A → Type 0) (items : List A) : Type 0 where
  pub number : ℕ
  pub item : A
  pub is : slice_get items number ≡ Some item
  pub has : P item

-- A path through one of the blocks passes so many.
abbrev pub PassesThroughOne : List Block → List Stmt → ℕ → Type 0
PassesThroughOne blocks behind count = SomeItem (λ block. PathPasses (stmts_of block ++ behind) count) blocks

-- In one of the blocks this place is crowded.
abbrev pub IsCrowdedInOne : List Block → List Stmt → ℕ → Type 0
IsCrowdedInOne blocks behind at = SomeItem (λ block. IsCrowded (stmts_of block) behind at) blocks

-- what is ahead where the server goes on through one of the blocks
pub record IsAheadInOne (blocks : List Block) (behind : List Stmt) (ahead : Ahead) : Type 0 where
  pub most : IsGreatest (PassesThroughOne blocks behind) ahead.most
  pub crowded : IsLeast (IsCrowdedInOne blocks behind) ahead.crowded
