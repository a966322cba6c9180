-- What is ahead of statements, from what is ahead of their parts.
use Rattle.std.proofs.Common.{◌≡◌, ℕ, ◌+◌, ◌<◌, ◌≤◌, Bool, true, false, ◌⊎◌, inl, inr, List, [], ◌∷◌, ◌++◌, map, Option, Some, None, slice_get, option_map, refl, sym, ◌∙◌, ap, subst, arith}
use Rattle.std.specs.Prelude.{if◌then◌else◌, min, nat_lt}
use borrow.Author.Tests.{ltb-true, ltb-false}
use Rattle.std.proofs.lemmas.Option.{slice_get-map}
use Rattle.spec_model.specs.declared.tree.Block.{Block}
use Rattle.spec_model.specs.declared.tree.Case.{Case}
use Rattle.spec_model.specs.declared.tree.Chan.{Chan}
use Rattle.spec_model.specs.declared.tree.Kind.TheOpen.{Either, Recv}
use Rattle.spec_model.specs.declared.tree.Stmt.{Stmt}
use Rattle.spec_model.specs.Config.{StmtKind, kind_of, stmts_of}
use Rattle.spec_rules.specs.Bad.{most_compares}
use Rattle.spec_rules.specs.Path.{PathPasses, compares, is_recv, passes, reaches, returns, ways_on}
use Rattle.spec_paths.specs.declared.ahead.Ahead.{Ahead}
use Rattle.spec_paths.specs.Ahead.{IsAhead, IsAheadInOne, IsCrowded, IsCrowdedInOne, PassesThroughOne, SomeItem, ahead_before, both_ahead, crowded_from, past_comparison}
use Rattle.spec_paths.specs.Bounds.{IsGreatest, ceiling, IsLeast, greater_of, lesser_of, one_more}
use Rattle.spec_paths.specs.Crowded.{block_of_case}
use Rattle.spec_paths.proofs.CrowdedPlaces.{CrowdsHere, blocks_in, crowded_here, crowded_inside, crowded_later, crowded_where, stands_nowhere}
use Rattle.spec_paths.proofs.Extremes.{greatest_of_either, greatest_of_one_more, greatest_of_same, least_of_either, least_of_same}
use Rattle.spec_paths.proofs.SomeItems.{alone, in_either, in_first, in_second, nobody, only}

-- ---- through one of several blocks

pub ahead_alone : (block : Block) (behind : List Stmt) (ahead : Ahead) → IsAhead (stmts_of block) behind ahead → IsAheadInOne (block ∷ []) behind ahead
ahead_alone block behind ahead is = record {
  most = greatest_of_same (PathPasses (stmts_of block ++ behind)) (PassesThroughOne (block ∷ []) behind) ahead.most
      (λ count. alone (λ one. PathPasses (stmts_of one ++ behind) count) block) (λ count. only (λ one. PathPasses (stmts_of one ++ behind) count) block) is.most;
  crowded = least_of_same (IsCrowded (stmts_of block) behind) (IsCrowdedInOne (block ∷ []) behind) ahead.crowded
      (λ at. alone (λ one. IsCrowded (stmts_of one) behind at) block) (λ at. only (λ one. IsCrowded (stmts_of one) behind at) block) is.crowded;
}

pub ahead_of_both : (blocks others : List Block) (behind : List Stmt) (one other : Ahead) → IsAheadInOne blocks behind one → IsAheadInOne others behind other
    → IsAheadInOne (blocks ++ others) behind (both_ahead one other)
ahead_of_both blocks others behind one other is other_is = record {
  most = greatest_of_same (λ count. PassesThroughOne blocks behind count ⊎ PassesThroughOne others behind count) (PassesThroughOne (blocks ++ others) behind) (greater_of one.most other.most)
      (λ count either. elim either [ inl there ↦ in_first _ blocks others there | inr there ↦ in_second _ blocks others there ]) (λ count. in_either (λ block. PathPasses (stmts_of block ++ behind) count) blocks others)
      (greatest_of_either (PassesThroughOne blocks behind) (PassesThroughOne others behind) one.most other.most is.most other_is.most);
  crowded = least_of_same (λ at. IsCrowdedInOne blocks behind at ⊎ IsCrowdedInOne others behind at) (IsCrowdedInOne (blocks ++ others) behind) (lesser_of one.crowded other.crowded)
      (λ at either. elim either [ inl there ↦ in_first _ blocks others there | inr there ↦ in_second _ blocks others there ]) (λ at. in_either (λ block. IsCrowded (stmts_of block) behind at) blocks others)
      (least_of_either (IsCrowdedInOne blocks behind) (IsCrowdedInOne others behind) one.crowded other.crowded is.crowded other_is.crowded);
}

-- one block more
pub ahead_in_one_more : (blocks more : List Block) (block : Block) (behind : List Stmt) (one other both : Ahead) → blocks ++ block ∷ [] ≡ more → both ≡ both_ahead one other
    → IsAheadInOne blocks behind one → IsAhead (stmts_of block) behind other → IsAheadInOne more behind both
ahead_in_one_more blocks more block behind one other both joined is ahead other_ahead =
    subst (λ all. IsAheadInOne all behind both) joined
    (subst (IsAheadInOne (blocks ++ block ∷ []) behind) (sym is) (ahead_of_both blocks (block ∷ []) behind one other ahead (ahead_alone block behind other other_ahead)))

-- ---- paths through the first statement

-- A path goes on through the statement, with what it passes from there on.
pub record GoesOn (kind : StmtKind) (tail : List Stmt) (count : ℕ) : Type 0 where
  pub later_count : ℕ
  pub way : SomeItem (λ way. PathPasses (way ++ tail) later_count) (ways_on kind)
  pub sum : count ≡ (if compares kind then 1 else 0) + later_count

pub goes_on : (stmt : Stmt) (tail : List Stmt) (count : ℕ) → is_recv (kind_of stmt) ≡ false → PathPasses (stmt ∷ tail) count → GoesOn (kind_of stmt) tail count
goes_on stmt tail count no_recv (reaches takes) = absurd (cc)
goes_on stmt tail count no_recv (passes {count = later_count} number way _ is path) =
    record { later_count = later_count; way = record { number = number; item = way; is = is; has = path }; sum = refl }

pub went_on : (stmt : Stmt) (tail : List Stmt) (count : ℕ) → is_recv (kind_of stmt) ≡ false → GoesOn (kind_of stmt) tail count → PathPasses (stmt ∷ tail) count
went_on stmt tail count no_recv goes = subst (PathPasses (stmt ∷ tail)) (sym goes.sum) (passes goes.way.number goes.way.item no_recv goes.way.is goes.way.has)

pub at_recv : (stmt : Stmt) (tail : List Stmt) (count : ℕ) → is_recv (kind_of stmt) ≡ true → PathPasses (stmt ∷ tail) count → count ≡ 0
at_recv stmt tail count takes (reaches _) = refl
at_recv stmt tail count takes (passes number way no_recv is path) = absurd (cc)

pub at_end : (count : ℕ) → PathPasses [] count → count ≡ 0
at_end count returns = refl

-- what is passed with the statement itself
abbrev pub IsWeighed : Bool → (ℕ → Type 0) → ℕ → Type 0
IsWeighed comparing P count = (later_count : ℕ) × P later_count × (count ≡ (if comparing then 1 else 0) + later_count)

abbrev pub weighed : Bool → Option ℕ → Option ℕ
weighed true most = one_more most
weighed false most = most

greatest_weighed : (comparing : Bool) (P : ℕ → Type 0) (most : Option ℕ) → IsGreatest P most → IsGreatest (IsWeighed comparing P) (weighed comparing most)
greatest_weighed true P most is = greatest_of_one_more P most is
greatest_weighed false P most is =
    greatest_of_same P (IsWeighed false P) most (λ count has. (count, has, omega arith))
    (λ count more. let same : more.0 ≡ count = omega (arith, more.2) in subst P same more.1) is

-- ---- statements

pub ahead_of_none : (behind : List Stmt) (most : Option ℕ) → IsGreatest (PathPasses behind) most → IsAhead [] behind (record { most = most; crowded = None })
ahead_of_none behind most is = record { most = is; crowded = λ at crowded. stands_nowhere crowded.known behind crowded.place crowded.stands }

-- Of a statement that is no `recv` nothing is crowded but what is in its blocks and behind it.
crowded_through : (stmt : Stmt) (stmts behind : List Stmt) (inside_crowded later_crowded : Option ℕ) → is_recv (kind_of stmt) ≡ false
    → IsLeast (IsCrowdedInOne (blocks_in (kind_of stmt)) (stmts ++ behind)) inside_crowded → IsLeast (IsCrowded stmts behind) later_crowded
    → IsLeast (IsCrowded (stmt ∷ stmts) behind) (lesser_of inside_crowded later_crowded)
crowded_through stmt stmts behind inside_crowded later_crowded no_recv is later_is =
    least_of_same (λ at. IsCrowdedInOne (blocks_in (kind_of stmt)) (stmts ++ behind) at ⊎ IsCrowded stmts behind at) (IsCrowded (stmt ∷ stmts) behind) _
    (λ at either. elim either [ inl in_one ↦ crowded_inside stmt stmts behind at in_one | inr behind_it ↦ crowded_later stmt stmts behind at behind_it ])
    (λ at crowded. by_where at (crowded_where stmt stmts behind at crowded))
    (least_of_either _ _ inside_crowded later_crowded is later_is)
  where
    by_where : (at : ℕ) → (CrowdsHere stmt (stmts ++ behind) at ⊎ IsCrowdedInOne (blocks_in (kind_of stmt)) (stmts ++ behind) at) ⊎ IsCrowded stmts behind at
        → IsCrowdedInOne (blocks_in (kind_of stmt)) (stmts ++ behind) at ⊎ IsCrowded stmts behind at
    by_where at (inl (inl here)) = let takes = here.takes in absurd (cc)
    by_where at (inl (inr in_one)) = inl in_one
    by_where at (inr behind_it) = inr behind_it

way_of_block : (blocks : List Block) (tail : List Stmt) (count : ℕ) → PassesThroughOne blocks tail count → SomeItem (λ way. PathPasses (way ++ tail) count) (map stmts_of blocks)
way_of_block blocks tail count some = record {
  number = some.number;
  item = stmts_of some.item;
  is = slice_get-map stmts_of blocks some.number ∙ ap (option_map stmts_of) some.is;
  has = some.has;
}

block_of_way : (blocks : List Block) (tail : List Stmt) (count : ℕ) → SomeItem (λ way. PathPasses (way ++ tail) count) (map stmts_of blocks) → PassesThroughOne blocks tail count
block_of_way blocks tail count some = by_block (slice_get blocks some.number) refl (sym (slice_get-map stmts_of blocks some.number) ∙ some.is)
  where
    by_block : (found : Option Block) → slice_get blocks some.number ≡ found → option_map stmts_of found ≡ Some some.item → PassesThroughOne blocks tail count
    by_block None none gave = absurd (cc)
    by_block (Some block) there gave =
        let same : some.item ≡ stmts_of block = cc in
        record { number = some.number; item = block; is = there; has = subst (λ way. PathPasses (way ++ tail) count) same some.has }

-- the statement goes on through one of its blocks
pub ahead_through : (stmt : Stmt) (kind : StmtKind) (blocks : List Block) (stmts behind : List Stmt) (within_ahead next_ahead : Ahead) → kind_of stmt ≡ kind → is_recv kind ≡ false
    → ways_on kind ≡ map stmts_of blocks → blocks_in kind ≡ blocks → IsAheadInOne blocks (stmts ++ behind) within_ahead → IsAhead stmts behind next_ahead
    → IsAhead (stmt ∷ stmts) behind (record { most = weighed (compares kind) within_ahead.most; crowded = lesser_of within_ahead.crowded next_ahead.crowded })
ahead_through stmt kind blocks stmts behind within_ahead next_ahead is no_recv ways in_kind ahead later_ahead = record {
  most = greatest_of_same (IsWeighed (compares kind) (PassesThroughOne blocks (stmts ++ behind))) (PathPasses (stmt ∷ (stmts ++ behind))) _
      (λ count more. went_on stmt (stmts ++ behind) count no_recv_here (subst (λ k. GoesOn k (stmts ++ behind) count) (sym is) (record {
        later_count = more.0;
        way = subst (SomeItem (λ way. PathPasses (way ++ (stmts ++ behind)) more.0)) (sym ways) (way_of_block blocks (stmts ++ behind) more.0 more.1);
        sum = more.2;
      })))
      (λ count path. let goes = subst (λ k. GoesOn k (stmts ++ behind) count) is (goes_on stmt (stmts ++ behind) count no_recv_here path) in (
        goes.later_count,
        block_of_way blocks (stmts ++ behind) goes.later_count (subst (SomeItem (λ way. PathPasses (way ++ (stmts ++ behind)) goes.later_count)) ways goes.way),
        goes.sum,
      ))
      (greatest_weighed (compares kind) (PassesThroughOne blocks (stmts ++ behind)) within_ahead.most ahead.most);
  crowded = crowded_through stmt stmts behind within_ahead.crowded next_ahead.crowded no_recv_here
      (subst (λ bs. IsLeast (IsCrowdedInOne bs (stmts ++ behind)) within_ahead.crowded) (sym (ap blocks_in is ∙ in_kind)) ahead.crowded) later_ahead.crowded;
}
  where
    no_recv_here : is_recv (kind_of stmt) ≡ false
    no_recv_here = ap is_recv is ∙ no_recv

-- the statement has no blocks, and goes straight on
pub ahead_straight : (stmt : Stmt) (kind : StmtKind) (stmts behind : List Stmt) (next_ahead : Ahead) → kind_of stmt ≡ kind → is_recv kind ≡ false
    → ways_on kind ≡ [] ∷ [] → blocks_in kind ≡ [] → IsAhead stmts behind next_ahead
    → IsAhead (stmt ∷ stmts) behind (record { most = weighed (compares kind) next_ahead.most; crowded = next_ahead.crowded })
ahead_straight stmt kind stmts behind next_ahead is no_recv ways in_kind later_ahead = record {
  most = greatest_of_same (IsWeighed (compares kind) (PathPasses (stmts ++ behind))) (PathPasses (stmt ∷ (stmts ++ behind))) _
      (λ count more. went_on stmt (stmts ++ behind) count no_recv_here (subst (λ k. GoesOn k (stmts ++ behind) count) (sym is) (record {
        later_count = more.0;
        way = subst (SomeItem (λ way. PathPasses (way ++ (stmts ++ behind)) more.0)) (sym ways) (alone (λ way. PathPasses (way ++ (stmts ++ behind)) more.0) [] more.1);
        sum = more.2;
      })))
      (λ count path. let goes = subst (λ k. GoesOn k (stmts ++ behind) count) is (goes_on stmt (stmts ++ behind) count no_recv_here path) in (
        goes.later_count,
        only (λ way. PathPasses (way ++ (stmts ++ behind)) goes.later_count) [] (subst (SomeItem (λ way. PathPasses (way ++ (stmts ++ behind)) goes.later_count)) ways goes.way),
        goes.sum,
      ))
      (greatest_weighed (compares kind) (PathPasses (stmts ++ behind)) next_ahead.most later_ahead.most);
  crowded = crowded_through stmt stmts behind None next_ahead.crowded no_recv_here
      (λ at some. nobody _ (subst (λ bs. IsCrowdedInOne bs (stmts ++ behind) at) (ap blocks_in is ∙ in_kind) some)) later_ahead.crowded;
}
  where
    no_recv_here : is_recv (kind_of stmt) ≡ false
    no_recv_here = ap is_recv is ∙ no_recv

-- ---- at a `recv`, and at `start`

-- The place is crowded where a number with the property is too great.
abbrev pub CrowdsAt : ℕ → (ℕ → Type 0) → ℕ → Type 0
CrowdsAt here P at = (here ≡ at) × ((count : ℕ) × (most_compares < count) × P count)

crowds_at_least : (here : ℕ) (P : ℕ → Type 0) (greatest : ℕ) → P greatest → most_compares < greatest → IsLeast (CrowdsAt here P) (Some here)
crowds_at_least here P greatest has too_many = ((refl, (greatest, too_many, has)), λ at crowds. omega (arith, crowds.0))

pub least_crowded_from : (here : ℕ) (P Q : ℕ → Type 0) (within_ahead : Ahead) → IsGreatest P within_ahead.most → IsLeast Q within_ahead.crowded
    → IsLeast (λ at. CrowdsAt here P at ⊎ Q at) (crowded_from here within_ahead)
least_crowded_from here P Q within_ahead most crowded = by_most within_ahead.most most
  where
    only_inside : ((count : ℕ) → most_compares < count → P count → ⊥) → IsLeast (λ at. CrowdsAt here P at ⊎ Q at) within_ahead.crowded
    only_inside few = least_of_same Q (λ at. CrowdsAt here P at ⊎ Q at) within_ahead.crowded (λ at. inr)
        (λ at either. elim either [ inl crowds ↦ absurd (few crowds.1.0 crowds.1.1 crowds.1.2) | inr crowded_within ↦ crowded_within ]) crowded

    by_test : (counted greatest : ℕ) → P greatest → ((count : ℕ) → P count → count ≤ greatest) → counted ≡ min greatest ceiling → (test : Bool) → nat_lt most_compares counted ≡ test
        → IsLeast (λ at. CrowdsAt here P at ⊎ Q at) (if test then lesser_of (Some here) within_ahead.crowded else within_ahead.crowded)
    by_test counted greatest has none_more is true tested =
        let too_many : most_compares < counted = ltb-true most_compares counted tested in
        least_of_either (CrowdsAt here P) Q (Some here) within_ahead.crowded (crowds_at_least here P greatest has (omega (arith, is, too_many))) crowded
    by_test counted greatest has none_more is false tested =
        let few : counted ≤ most_compares = ltb-false most_compares counted tested in
        only_inside (λ count too_many other. let below = none_more count other in omega (arith, is, few, below, too_many))

    by_most : (most : Option ℕ) → IsGreatest P most → IsLeast (λ at. CrowdsAt here P at ⊎ Q at) (crowded_from here (record { most = most; crowded = within_ahead.crowded }))
    by_most None none = only_inside (λ count too_many has. none count has)
    by_most (Some counted) (greatest, has, none_more, is) = by_test counted greatest has none_more is (nat_lt most_compares counted) refl

-- the statement is a `recv`
pub ahead_at_recv : (stmt : Stmt) (kind : StmtKind) (blocks : List Block) (stmts behind : List Stmt) (within_ahead next_ahead : Ahead) → kind_of stmt ≡ kind → is_recv kind ≡ true
    → blocks_in kind ≡ blocks → IsAheadInOne blocks (stmts ++ behind) within_ahead → IsAhead stmts behind next_ahead
    → IsAhead (stmt ∷ stmts) behind (record { most = Some 0; crowded = lesser_of (crowded_from stmt.at within_ahead) next_ahead.crowded })
ahead_at_recv stmt kind blocks stmts behind within_ahead next_ahead is takes in_kind ahead later_ahead = record {
  most = (0, reaches takes_here, (λ count path. let none = at_recv stmt (stmts ++ behind) count takes_here path in omega (arith, none)), refl);
  crowded = least_of_same (λ at. (CrowdsAt stmt.at (PassesThroughOne blocks (stmts ++ behind)) at ⊎ IsCrowdedInOne blocks (stmts ++ behind) at) ⊎ IsCrowded stmts behind at)
      (IsCrowded (stmt ∷ stmts) behind) _ there back
      (least_of_either _ (IsCrowded stmts behind) (crowded_from stmt.at within_ahead) next_ahead.crowded
      (least_crowded_from stmt.at (PassesThroughOne blocks (stmts ++ behind)) (IsCrowdedInOne blocks (stmts ++ behind)) within_ahead ahead.most ahead.crowded) later_ahead.crowded);
}
  where
    takes_here : is_recv (kind_of stmt) ≡ true
    takes_here = ap is_recv is ∙ takes

    same_blocks : blocks_in (kind_of stmt) ≡ blocks
    same_blocks = ap blocks_in is ∙ in_kind

    there : (at : ℕ) → (CrowdsAt stmt.at (PassesThroughOne blocks (stmts ++ behind)) at ⊎ IsCrowdedInOne blocks (stmts ++ behind) at) ⊎ IsCrowded stmts behind at
        → IsCrowded (stmt ∷ stmts) behind at
    there at (inl (inl (here, (count, too_many, path)))) = crowded_here stmt stmts behind at (record {
      takes = takes_here;
      count = count;
      too_many = too_many;
      path = subst (λ bs. PassesThroughOne bs (stmts ++ behind) count) (sym same_blocks) path;
      here = here;
    })
    there at (inl (inr in_one)) = crowded_inside stmt stmts behind at (subst (λ bs. IsCrowdedInOne bs (stmts ++ behind) at) (sym same_blocks) in_one)
    there at (inr behind_it) = crowded_later stmt stmts behind at behind_it

    by_where : (at : ℕ) → (CrowdsHere stmt (stmts ++ behind) at ⊎ IsCrowdedInOne (blocks_in (kind_of stmt)) (stmts ++ behind) at) ⊎ IsCrowded stmts behind at
        → (CrowdsAt stmt.at (PassesThroughOne blocks (stmts ++ behind)) at ⊎ IsCrowdedInOne blocks (stmts ++ behind) at) ⊎ IsCrowded stmts behind at
    by_where at (inl (inl crowds)) =
        inl (inl (crowds.here, (crowds.count, crowds.too_many, subst (λ bs. PassesThroughOne bs (stmts ++ behind) crowds.count) same_blocks crowds.path)))
    by_where at (inl (inr in_one)) = inl (inr (subst (λ bs. IsCrowdedInOne bs (stmts ++ behind) at) same_blocks in_one))
    by_where at (inr behind_it) = inr behind_it

    back : (at : ℕ) → IsCrowded (stmt ∷ stmts) behind at → (CrowdsAt stmt.at (PassesThroughOne blocks (stmts ++ behind)) at ⊎ IsCrowdedInOne blocks (stmts ++ behind) at) ⊎ IsCrowded stmts behind at
    back at crowded = by_where at (crowded_where stmt stmts behind at crowded)

-- the statement compares, and goes on through one of two blocks
pub ahead_of_two : (stmt : Stmt) (kind : StmtKind) (first second : Block) (stmts behind : List Stmt) (one other inside_both past whole later_ahead : Ahead)
    → kind_of stmt ≡ kind → is_recv kind ≡ false → compares kind ≡ true → ways_on kind ≡ stmts_of first ∷ stmts_of second ∷ [] → blocks_in kind ≡ first ∷ second ∷ []
    → inside_both ≡ both_ahead one other → past ≡ past_comparison inside_both → whole ≡ ahead_before past later_ahead
    → IsAhead (stmts_of first) (stmts ++ behind) one → IsAhead (stmts_of second) (stmts ++ behind) other → IsAhead stmts behind later_ahead
    → IsAhead (stmt ∷ stmts) behind whole
ahead_of_two stmt kind first second stmts behind one other inside_both past whole later_ahead is no_recv comparing ways in_kind both_is past_is whole_is ahead other_ahead is_later =
    let whole_here : ahead_before (past_comparison (both_ahead one other)) later_ahead ≡ whole = cc in
    subst (IsAhead (stmt ∷ stmts) behind) whole_here
    (subst (λ test. IsAhead (stmt ∷ stmts) behind (record { most = weighed test (both_ahead one other).most; crowded = lesser_of (both_ahead one other).crowded later_ahead.crowded })) comparing
    (ahead_through stmt kind (first ∷ second ∷ []) stmts behind (both_ahead one other) later_ahead is no_recv ways in_kind
    (ahead_of_both (first ∷ []) (second ∷ []) (stmts ++ behind) one other (ahead_alone first (stmts ++ behind) one ahead) (ahead_alone second (stmts ++ behind) other other_ahead)) is_later))

-- ---- the blocks of cases and arms

pub cases_in : (chan : Chan) (cases : List Case) (other : List ℕ) (rest : Block) → blocks_in (Recv chan cases other rest) ≡ map block_of_case cases ++ rest ∷ []
cases_in chan [] other rest = refl
cases_in chan (case ∷ cases) other rest = ap (λ blocks. block_of_case case ∷ blocks) (cases_in chan cases other rest)

pub arms_in : (arms : List Block) → blocks_in (Either arms) ≡ arms
arms_in [] = refl
arms_in (arm ∷ arms) = ap (λ blocks. arm ∷ blocks) (arms_in arms)
