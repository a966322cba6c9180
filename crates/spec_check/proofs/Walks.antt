-- What is bad in statements, one statement after the other.
use Rattle.std.proofs.Common.{◌≡◌, ℕ, zero, suc, ◌+◌, ◌<◌, ◌≤◌, ◌⊎◌, inl, inr, List, [], ◌∷◌, ◌++◌, length, drop, get_or, map, Option, Some, refl, sym, ap, subst, ◌∙◌, slice_get}
use Rattle.std.proofs.lemmas.List.{drop_all, drop_more}
use Rattle.spec_model.specs.declared.tree.Stmt.{Stmt}
use Rattle.spec_model.specs.Config.{kind_of, stmts_of}
use Rattle.spec_rules.specs.declared.fault.Fault.{Fault}
use Rattle.spec_rules.specs.declared.names.Known.{Known}
use Rattle.spec_rules.specs.Place.{Inner, Place, StandsIn, first, later, inside, blocks_of, bound_behind}
use Rattle.spec_check.specs.declared.found.Found.{Found}
use Rattle.spec_check.specs.declared.statement.Rules.{Rules}
use Rattle.spec_check.specs.Least.{IsEarlier, IsFirst, IsFirstBut, IsListedAt}
use Rattle.spec_check.specs.Stmts.{IsBadAt, IsBadIn, IsBadInBlocks, IsBadThere, stmt_tests}
use Rattle.spec_check.proofs.Firsts.{ended, joined, passed}

in_blocks : (rules : Rules) (known : List Known) (inners : List Inner) (behind : List Stmt) (fault : Fault) (at number : ℕ) (inner : Inner)
    → slice_get inners number ≡ Some inner → IsBadIn rules (known ++ inner.bound) (stmts_of inner.block) behind fault at
    → IsBadInBlocks rules known inners behind fault at
in_blocks rules known [] behind fault at number inner is bad = absurd (cc)
in_blocks rules known (one ∷ inners) behind fault at zero inner is bad =
    let same : inner ≡ one = cc in
    inl (subst (λ (block : Inner). IsBadIn rules (known ++ block.bound) (stmts_of block.block) behind fault at) same bad)
in_blocks rules known (one ∷ inners) behind fault at (suc number) inner is bad = inr (in_blocks rules known inners behind fault at number inner is bad)

-- A fault that stands in one of the blocks of a statement stands in it.
from_blocks : (rules : Rules) (known : List Known) (inners : List Inner) (behind : List Stmt) (fault : Fault) (at : ℕ)
    → IsBadInBlocks rules known inners behind fault at
    → (number : ℕ) × (inner : Inner) × (slice_get inners number ≡ Some inner) × IsBadIn rules (known ++ inner.bound) (stmts_of inner.block) behind fault at
from_blocks rules known [] behind fault at bad = absurd bad
from_blocks rules known (one ∷ inners) behind fault at (inl bad) = (0, one, refl, bad)
from_blocks rules known (one ∷ inners) behind fault at (inr bad) =
    let (number, inner, is, there) = from_blocks rules known inners behind fault at bad in
    (suc number, inner, is, there)

by_place : (rules : Rules) (known : List Known) (stmt : Stmt) (stmts behind : List Stmt) (place : Place) (fault : Fault) (at : ℕ)
    → StandsIn known (stmt ∷ stmts) behind place → IsBadThere rules place fault at
    → IsBadAt rules known stmt (stmts ++ behind) fault at ⊎ IsBadIn rules (known ++ bound_behind (kind_of stmt)) stmts behind fault at
by_place rules known stmt stmts behind place fault at (first _ _ _ _) bad = inl (inl (bad.stands, bad.here))
by_place rules known stmt stmts behind place fault at (later stands) bad = inr (record { place = place; is_place = stands; bad = bad })
by_place rules known stmt stmts behind place fault at (inside number inner is stands) bad =
    inl (inr (in_blocks rules known (blocks_of (kind_of stmt)) (stmts ++ behind) fault at number inner is (record { place = place; is_place = stands; bad = bad })))

-- A fault stands at the first statement or in it, or behind it.
pub at_or_behind : (rules : Rules) (known : List Known) (stmt : Stmt) (stmts behind : List Stmt) (fault : Fault) (at : ℕ)
    → IsBadIn rules known (stmt ∷ stmts) behind fault at
    → IsBadAt rules known stmt (stmts ++ behind) fault at ⊎ IsBadIn rules (known ++ bound_behind (kind_of stmt)) stmts behind fault at
at_or_behind rules known stmt stmts behind fault at bad = by_place rules known stmt stmts behind bad.place fault at bad.is_place bad.bad

pub at_first : (rules : Rules) (known : List Known) (stmt : Stmt) (stmts behind : List Stmt) (fault : Fault) (at : ℕ)
    → IsBadAt rules known stmt (stmts ++ behind) fault at → IsBadIn rules known (stmt ∷ stmts) behind fault at
at_first rules known stmt stmts behind fault at (inl (stands, here)) = record {
  place = record { known = known; stmt = stmt; behind = stmts ++ behind };
  is_place = first known stmt stmts behind;
  bad = record { stands = stands; here = here };
}
at_first rules known stmt stmts behind fault at (inr blocks) =
    let (number, inner, is, bad) = from_blocks rules known (blocks_of (kind_of stmt)) (stmts ++ behind) fault at blocks in
    record { place = bad.place; is_place = inside number inner is bad.is_place; bad = bad.bad }

pub behind_first : (rules : Rules) (known : List Known) (stmt : Stmt) (stmts behind : List Stmt) (fault : Fault) (at : ℕ)
    → IsBadIn rules (known ++ bound_behind (kind_of stmt)) stmts behind fault at → IsBadIn rules known (stmt ∷ stmts) behind fault at
behind_first rules known stmt stmts behind fault at bad = record { place = bad.place; is_place = later bad.is_place; bad = bad.bad }

stands_in_none : {known : List Known} {behind : List Stmt} {place : Place} → ¬ StandsIn known [] behind place
stands_in_none stands = elim stands [ ]

-- Nothing is bad in no statements.
pub none_in_none : (rules : Rules) (known : List Known) (behind : List Stmt) (fault : Fault) (at : ℕ) → ¬ IsBadIn rules known [] behind fault at
none_in_none rules known behind fault at bad = stands_in_none bad.is_place

-- A walk has come past one statement more.
pub walked : (rules : Rules) (known before : List Known) (stmts : List Stmt) (i : ℕ) (stmt : Stmt) (so_far here found : Option Found)
    → i < length stmts → stmt ≡ get_or stmts i stmt
    → ((behind : List Stmt) → IsFirstBut (IsBadIn rules known (drop i stmts) behind) (IsBadIn rules before stmts behind) so_far)
    → ((behind : List Stmt) → IsFirst (IsBadAt rules known stmt behind) here) → IsEarlier so_far here found
    → (behind : List Stmt) → IsFirstBut (IsBadIn rules (known ++ bound_behind (kind_of stmt)) (drop (i + 1) stmts) behind) (IsBadIn rules before stmts behind) found
walked rules known before stmts i stmt so_far here found lt is first_so_far first_here earlier behind =
    let stmts_left : drop i stmts ≡ stmt ∷ drop (i + 1) stmts = drop_more stmts i stmt lt ∙ ap (λ x. x ∷ drop (i + 1) stmts) (sym is) in
    let left = subst (λ xs. IsFirstBut (IsBadIn rules known xs behind) (IsBadIn rules before stmts behind) so_far) stmts_left (first_so_far behind) in
    passed (IsBadIn rules known (stmt ∷ drop (i + 1) stmts) behind) (IsBadAt rules known stmt (drop (i + 1) stmts ++ behind))
    (IsBadIn rules (known ++ bound_behind (kind_of stmt)) (drop (i + 1) stmts) behind) (IsBadIn rules before stmts behind) so_far here found
    left (first_here (drop (i + 1) stmts ++ behind)) earlier
    (at_or_behind rules known stmt (drop (i + 1) stmts) behind)
    (at_first rules known stmt (drop (i + 1) stmts) behind)
    (behind_first rules known stmt (drop (i + 1) stmts) behind)

-- A search through blocks has come past one block more.
pub past_block : (rules : Rules) (known : List Known) (inner : Inner) (inners all : List Inner) (behind : List Stmt) (so_far here found : Option Found)
    → IsFirstBut (IsBadInBlocks rules known (inner ∷ inners) behind) (IsBadInBlocks rules known all behind) so_far
    → IsFirst (IsBadIn rules (known ++ inner.bound) (stmts_of inner.block) behind) here → IsEarlier so_far here found
    → IsFirstBut (IsBadInBlocks rules known inners behind) (IsBadInBlocks rules known all behind) found
past_block rules known inner inners all behind so_far here found left first_here earlier =
    passed (IsBadInBlocks rules known (inner ∷ inners) behind) (IsBadIn rules (known ++ inner.bound) (stmts_of inner.block) behind)
    (IsBadInBlocks rules known inners behind) (IsBadInBlocks rules known all behind) so_far here found left first_here earlier
    (λ fault at bad. bad) (λ fault at bad. inl bad) (λ fault at bad. inr bad)

from_append : (rules : Rules) (known : List Known) (inners more : List Inner) (behind : List Stmt) (fault : Fault) (at : ℕ)
    → IsBadInBlocks rules known (inners ++ more) behind fault at → IsBadInBlocks rules known inners behind fault at ⊎ IsBadInBlocks rules known more behind fault at
from_append rules known [] more behind fault at bad = inr bad
from_append rules known (one ∷ inners) more behind fault at (inl bad) = inl (inl bad)
from_append rules known (one ∷ inners) more behind fault at (inr bad) = go (from_append rules known inners more behind fault at bad)
  where
    go : IsBadInBlocks rules known inners behind fault at ⊎ IsBadInBlocks rules known more behind fault at
        → IsBadInBlocks rules known (one ∷ inners) behind fault at ⊎ IsBadInBlocks rules known more behind fault at
    go (inl there) = inl (inr there)
    go (inr there) = inr there

to_append_left : (rules : Rules) (known : List Known) (inners more : List Inner) (behind : List Stmt) (fault : Fault) (at : ℕ)
    → IsBadInBlocks rules known inners behind fault at → IsBadInBlocks rules known (inners ++ more) behind fault at
to_append_left rules known [] more behind fault at bad = absurd bad
to_append_left rules known (one ∷ inners) more behind fault at (inl bad) = inl bad
to_append_left rules known (one ∷ inners) more behind fault at (inr bad) = inr (to_append_left rules known inners more behind fault at bad)

to_append_right : (rules : Rules) (known : List Known) (inners more : List Inner) (behind : List Stmt) (fault : Fault) (at : ℕ)
    → IsBadInBlocks rules known more behind fault at → IsBadInBlocks rules known (inners ++ more) behind fault at
to_append_right rules known [] more behind fault at bad = bad
to_append_right rules known (one ∷ inners) more behind fault at bad = inr (to_append_right rules known inners more behind fault at bad)

-- The earlier of the first faults in blocks and in the last block is the first of all.
pub with_last : (rules : Rules) (known : List Known) (inners : List Inner) (inner : Inner) (behind : List Stmt) (a b found : Option Found)
    → IsFirst (IsBadInBlocks rules known inners behind) a → IsFirst (IsBadIn rules (known ++ inner.bound) (stmts_of inner.block) behind) b
    → IsEarlier a b found → IsFirst (IsBadInBlocks rules known (inners ++ inner ∷ []) behind) found
with_last rules known inners inner behind a b found first_a first_b earlier =
    joined (IsBadInBlocks rules known inners behind) (IsBadIn rules (known ++ inner.bound) (stmts_of inner.block) behind)
    (IsBadInBlocks rules known (inners ++ inner ∷ []) behind) a b found first_a first_b earlier
    (λ fault at bad. go fault at (from_append rules known inners (inner ∷ []) behind fault at bad))
    (to_append_left rules known inners (inner ∷ []) behind)
    (λ fault at bad. to_append_right rules known inners (inner ∷ []) behind fault at (inl bad))
  where
    last_one : (fault : Fault) (at : ℕ) → IsBadInBlocks rules known (inner ∷ []) behind fault at → IsBadIn rules (known ++ inner.bound) (stmts_of inner.block) behind fault at
    last_one fault at (inl bad) = bad
    last_one fault at (inr bad) = absurd bad

    go : (fault : Fault) (at : ℕ) → IsBadInBlocks rules known inners behind fault at ⊎ IsBadInBlocks rules known (inner ∷ []) behind fault at
        → IsBadInBlocks rules known inners behind fault at ⊎ IsBadIn rules (known ++ inner.bound) (stmts_of inner.block) behind fault at
    go fault at (inl bad) = inl bad
    go fault at (inr bad) = inr (last_one fault at bad)

-- The first fault at a statement or in it is the earlier of those at it and in its blocks.
pub at_stmt : (rules : Rules) (known : List Known) (stmt : Stmt) (behind : List Stmt) (own inner found : Option Found)
    → IsFirst (IsListedAt (stmt_tests rules known (kind_of stmt)) stmt.at) own
    → IsFirst (IsBadInBlocks rules known (blocks_of (kind_of stmt)) behind) inner → IsEarlier own inner found
    → IsFirst (IsBadAt rules known stmt behind) found
at_stmt rules known stmt behind own inner found first_own first_inner earlier =
    joined (IsListedAt (stmt_tests rules known (kind_of stmt)) stmt.at) (IsBadInBlocks rules known (blocks_of (kind_of stmt)) behind)
    (IsBadAt rules known stmt behind) own inner found first_own first_inner earlier
    (λ fault at bad. bad) (λ fault at bad. inl bad) (λ fault at bad. inr bad)

-- The same where the names known and bound are equal.
pub among : (rules : Rules) (known known' bound bound' : List Known) (stmts behind : List Stmt) (found : Option Found) → known ≡ known' → bound ≡ bound'
    → IsFirst (IsBadIn rules (known ++ bound) stmts behind) found → IsFirst (IsBadIn rules (known' ++ bound') stmts behind) found
among rules known known' bound bound' stmts behind found same_known same_bound is_first =
    subst (λ names. IsFirst (IsBadIn rules (known' ++ names) stmts behind) found) same_bound
    (subst (λ names. IsFirst (IsBadIn rules (names ++ bound) stmts behind) found) same_known is_first)

-- The earlier of the first faults in two blocks is the first in both.
pub in_two : (rules : Rules) (known : List Known) (one other : Inner) (behind : List Stmt) (a b found : Option Found)
    → IsFirst (IsBadIn rules (known ++ one.bound) (stmts_of one.block) behind) a
    → IsFirst (IsBadIn rules (known ++ other.bound) (stmts_of other.block) behind) b → IsEarlier a b found
    → IsFirst (IsBadInBlocks rules known (one ∷ other ∷ []) behind) found
in_two rules known one other behind a b found first_a first_b earlier =
    joined (IsBadIn rules (known ++ one.bound) (stmts_of one.block) behind) (IsBadIn rules (known ++ other.bound) (stmts_of other.block) behind)
    (IsBadInBlocks rules known (one ∷ other ∷ []) behind) a b found first_a first_b earlier
    splits (λ fault at bad. inl bad) (λ fault at bad. inr (inl bad))
  where
    second : (fault : Fault) (at : ℕ) → IsBadInBlocks rules known (other ∷ []) behind fault at → IsBadIn rules (known ++ other.bound) (stmts_of other.block) behind fault at
    second fault at (inl bad) = bad
    second fault at (inr bad) = absurd bad

    splits : (fault : Fault) (at : ℕ) → IsBadInBlocks rules known (one ∷ other ∷ []) behind fault at
        → IsBadIn rules (known ++ one.bound) (stmts_of one.block) behind fault at ⊎ IsBadIn rules (known ++ other.bound) (stmts_of other.block) behind fault at
    splits fault at (inl bad) = inl bad
    splits fault at (inr bad) = inr (second fault at bad)

-- The same search over the blocks of items, such as the cases of a `recv` or arms.
pub past_item : {A : Type 0} (rules : Rules) (known : List Known) (inner_of : A → Inner) (items : List A) (i : ℕ) (item : A) (behind : List Stmt) (so_far here found : Option Found)
    → i < length items → item ≡ get_or items i item
    → IsFirstBut (IsBadInBlocks rules known (map inner_of (drop i items)) behind) (IsBadInBlocks rules known (map inner_of items) behind) so_far
    → IsFirst (IsBadIn rules (known ++ (inner_of item).bound) (stmts_of (inner_of item).block) behind) here → IsEarlier so_far here found
    → IsFirstBut (IsBadInBlocks rules known (map inner_of (drop (i + 1) items)) behind) (IsBadInBlocks rules known (map inner_of items) behind) found
past_item rules known inner_of items i item behind so_far here found lt is first_so_far first_here earlier =
    let items_left : drop i items ≡ item ∷ drop (i + 1) items = drop_more items i item lt ∙ ap (λ x. x ∷ drop (i + 1) items) (sym is) in
    let left = subst (λ xs. IsFirstBut (IsBadInBlocks rules known (map inner_of xs) behind) (IsBadInBlocks rules known (map inner_of items) behind) so_far) items_left first_so_far in
    past_block rules known (inner_of item) (map inner_of (drop (i + 1) items)) (map inner_of items) behind so_far here found left first_here earlier

-- At the end of a search over the blocks of items nothing is left.
pub past_items : {A : Type 0} (rules : Rules) (known : List Known) (inner_of : A → Inner) (items : List A) (i : ℕ) (behind : List Stmt) (found : Option Found)
    → length items ≤ i
    → IsFirstBut (IsBadInBlocks rules known (map inner_of (drop i items)) behind) (IsBadInBlocks rules known (map inner_of items) behind) found
    → IsFirst (IsBadInBlocks rules known (map inner_of items) behind) found
past_items rules known inner_of items i behind found le is_first =
    let left = subst (λ xs. IsFirstBut (IsBadInBlocks rules known (map inner_of xs) behind) (IsBadInBlocks rules known (map inner_of items) behind) found) (drop_all i items le) is_first in
    ended (IsBadInBlocks rules known [] behind) (IsBadInBlocks rules known (map inner_of items) behind) found left (λ fault at bad. bad)

-- At the end of a walk no statement is left.
pub walked_all : (rules : Rules) (known before : List Known) (stmts : List Stmt) (i : ℕ) (behind : List Stmt) (found : Option Found)
    → length stmts ≤ i → IsFirstBut (IsBadIn rules known (drop i stmts) behind) (IsBadIn rules before stmts behind) found
    → IsFirst (IsBadIn rules before stmts behind) found
walked_all rules known before stmts i behind found le is_first =
    let left = subst (λ xs. IsFirstBut (IsBadIn rules known xs behind) (IsBadIn rules before stmts behind) found) (drop_all i stmts le) is_first in
    ended (IsBadIn rules known [] behind) (IsBadIn rules before stmts behind) found left (none_in_none rules known behind)
