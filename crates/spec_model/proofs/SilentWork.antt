-- Silent work ends, where the loop begins with a `recv`: each piece of it leaves less to do, but for the loop's return.
use Rattle.std.proofs.Common.{◌≡◌, ℕ, zero, suc, ◌+◌, ◌<◌, List, [], ◌∷◌, length, Option, Some, None, refl, sym, ◌∙◌, ap, arith, take, ◌==◌}
use Rattle.spec_model.specs.declared.config.Config.{Config}
use Rattle.spec_model.specs.declared.config.Pair.{Pair}
use Rattle.spec_model.specs.declared.config.Task.{Task}
use Rattle.spec_model.specs.declared.config.Task.TheVariants.{Do, Forget}
use Rattle.spec_model.specs.declared.tree.Kind.{Kind, out-Kind}
use Rattle.spec_model.specs.declared.tree.Kind.TheOpen.{Assign, Put, Lookup, Delete}
use Rattle.spec_model.specs.declared.tree.Spec.{Spec}
use Rattle.spec_model.specs.Config.{StmtKind, kind_of, after_entering, with_value}
use Rattle.spec_model.proofs.Partial.{bind_gave, map_gave, only_if_gave}
use Rattle.spec_model.specs.Table.{after_miss, pairs_in, with_pairs, most_pairs}
use Rattle.spec_model.specs.Value.{◌>>=◌, only_if, text_of}
use Rattle.spec_model.proofs.Weights.{weight, kind_weight, kind_weight-lookup, kind_weight-positive, weight-entered}
use Rattle.spec_model.specs.Run.{Settles, settled, passes, BeginsWithRecv}
use Rattle.spec_model.specs.Step.{after_silent_work, after_silent_work_at, after_silent_stmt, assigned_value}

put_leaves : (c : Config) (rest : List Task) (table : List ℕ) (pairs : Option (List Pair)) (key value : Option (List ℕ)) (d : Config) →
    (pairs >>= (λ pairs. key >>= (λ k. value >>= (λ v. Some (with_pairs (record c { todo = rest }) table (take most_pairs (record { key = k; value = v } ∷ pairs))))))) ≡ Some d
    → d.todo ≡ rest
put_leaves c rest table (Some pairs) (Some k) (Some v) d e = cc
put_leaves c rest table (Some pairs) (Some k) None d e = absurd (cc)
put_leaves c rest table (Some pairs) None value d e = absurd (cc)
put_leaves c rest table None key value d e = absurd (cc)

-- a look-up that found nothing leaves less to do
missed_falls : (c : Config) (rest : List Task) (kind : Kind) (action : StmtKind) (d : Config) → out-Kind kind ≡ action → after_miss c rest action ≡ Some d → weight d.todo < kind_weight kind + weight rest
missed_falls c rest kind (Put table key value) d is e =
    let left = put_leaves c rest table (pairs_in c table) (text_of c key) (text_of c value) d e in let one = kind_weight-positive kind in rw left (omega arith)
missed_falls c rest kind (Lookup table key name found missing) d is e =
    let left : d ≡ after_entering c rest missing [] = cc in
    let entering = weight-entered c rest missing [] in let whole = kind_weight-lookup kind table key name found missing is in rw left (omega arith)
missed_falls c rest kind (Delete table key) d is e =
    let left : d.todo ≡ rest = cc in let one = kind_weight-positive kind in rw left (omega arith)
missed_falls c rest kind _ d is e = absurd (cc)

look_up_falls : (c : Config) (rest : List Task) (passed : ℕ) (kind : Kind) (stmt_kind : StmtKind) (table : List ℕ) (d : Config) → out-Kind kind ≡ stmt_kind
    → (pairs_in c table >>= (λ pairs. only_if (passed == length pairs) (after_miss c rest stmt_kind))) ≡ Some d → weight d.todo < kind_weight kind + weight rest
look_up_falls c rest passed kind stmt_kind table d is e =
    let pairs = bind_gave (pairs_in c table) (λ pairs. only_if (passed == length pairs) (after_miss c rest stmt_kind)) d e in
    let all_passed = only_if_gave (passed == length pairs.0) (after_miss c rest stmt_kind) d pairs.2 in
    missed_falls c rest kind stmt_kind d is all_passed.1

acts_falls : (c : Config) (rest : List Task) (passed : ℕ) (kind : Kind) (stmt_kind : StmtKind) (d : Config) → out-Kind kind ≡ stmt_kind
    → after_silent_stmt c rest passed stmt_kind ≡ Some d → weight d.todo < kind_weight kind + weight rest
acts_falls c rest passed kind (Assign name left tail) d is e =
    let given = map_gave (λ value. record c { todo = rest; registers = with_value c.registers name value }) (assigned_value c left tail) d e in
    let left_to_do : d.todo ≡ rest = ap (λ (after : Config). after.todo) (sym given.2) in let one = kind_weight-positive kind in rw left_to_do (omega arith)
acts_falls c rest passed kind (Put table key value) d is e = look_up_falls c rest passed kind _ table d is e
acts_falls c rest passed kind (Lookup table key name found missing) d is e = look_up_falls c rest passed kind _ table d is e
acts_falls c rest passed kind (Delete table key) d is e = look_up_falls c rest passed kind _ table d is e
acts_falls c rest passed kind _ d is e = absurd (cc)

-- a piece of silent work leaves less to do, but for the loop's return
pub silent_falls : (spec : Spec) (c : Config) (task : Task) (rest : List Task) (d : Config) → after_silent_work_at spec c (task ∷ rest) ≡ Some d → weight d.todo < weight (task ∷ rest)
silent_falls spec c (Forget count) rest d e = let left : d.todo ≡ rest = cc in rw left (omega arith)
silent_falls spec c (Do stmt compared) rest d e = acts_falls c rest compared stmt.kind (kind_of stmt) d refl e

-- where the loop begins, nothing more is done silently
at_loop : (spec : Spec) (begins : BeginsWithRecv spec) (c : Config) → after_silent_work spec (after_entering c [] spec.body []) ≡ None
at_loop spec begins c = rw (begins.body, begins.takes) refl

-- Silent work ends from a configuration, if it ends from each with less to do.
settles_by_piece : (spec : Spec) (c : Config) (task : Task) (rest : List Task) → c.todo ≡ task ∷ rest
    → ((d : Config) → weight d.todo < weight (task ∷ rest) → (to : Config) × Settles spec d to)
    → (piece : Option Config) → after_silent_work_at spec c (task ∷ rest) ≡ piece → (to : Config) × Settles spec c to
settles_by_piece spec c task rest todo lighter None none = (c, settled (ap (after_silent_work_at spec c) todo ∙ none))
settles_by_piece spec c task rest todo lighter (Some d) gave =
    let later = lighter d (silent_falls spec c task rest d gave) in
    (later.0, passes (ap (after_silent_work_at spec c) todo ∙ gave) later.1)

settles_by_todo : (spec : Spec) (c : Config) → BeginsWithRecv spec → (todo : List Task) → c.todo ≡ todo
    → ((d : Config) → weight d.todo < weight todo → (to : Config) × Settles spec d to) → (to : Config) × Settles spec c to
settles_by_todo spec c begins [] todo lighter =
    (after_entering c [] spec.body [], passes (ap (after_silent_work_at spec c) todo) (settled (at_loop spec begins c)))
settles_by_todo spec c begins (task ∷ rest) todo lighter =
    settles_by_piece spec c task rest todo lighter (after_silent_work_at spec c (task ∷ rest)) refl

settles_within : (spec : Spec) → BeginsWithRecv spec → (n : ℕ) (c : Config) → weight c.todo < n → (to : Config) × Settles spec c to
settles_within spec begins zero c small = absurd (omega arith)
settles_within spec begins (suc n) c small =
    settles_by_todo spec c begins c.todo refl (λ d lighter. settles_within spec begins n d (omega arith))

pub silent_work_ends : (spec : Spec) → BeginsWithRecv spec → (from : Config) → (to : Config) × Settles spec from to
silent_work_ends spec begins from = settles_within spec begins (suc (weight from.todo)) from (omega arith)
