-- Tallies behind one action more.
use Rattle.std.proofs.Common.{◌≡◌, ◌≢◌, ℕ, zero, suc, ◌+◌, ◌<◌, ◌≤◌, ◌⊎◌, inl, inr, Bool, true, false, ◌&&◌, ◌==◌, if◌then◌else◌, List, [], ◌∷◌, ◌++◌, length, Some, refl, sym, ◌∙◌, ap, arith}
use Rattle.std.specs.Prelude.{slice_get, slice_set}
use Rattle.std.proofs.lemmas.Bool.{cases_eq}
use Rattle.std.proofs.lemmas.Bool.Decides.{nat_tests}
use Rattle.std.proofs.lemmas.List.{length-set}
use Rattle.std.proofs.lemmas.List.Sums.{fold-append, sum_by-cons, sum_by_push}
use Rattle.exchange_text.specs.declared.action.Action.{Action}
use Rattle.exchange_text.specs.declared.action.Action.TheVariants.{Send, Await}
use Rattle.script_gen.specs.declared.draft.Tally.{Tally}
use Rattle.script_gen.specs.Generator.{ends_in_send, is_send, sends_on}
use Rattle.script_gen.specs.Paced.{sends_in}
use Rattle.script_gen.specs.Tallies.{AreTallies, tally_behind, tally_of}

abbrev Actions : Type 0
Actions = List (ℕ × Action)

-- how much one action more adds to a count
abbrev one_if : Bool → ℕ
one_if test = if test then 1 else 0

pub sends_on-push : (conn other : ℕ) (actions : Actions) (action : Action)
    → sends_on conn (actions ++ (other, action) ∷ []) ≡ sends_on conn actions + one_if ((other == conn) && is_send action)
sends_on-push conn other actions action = sum_by_push (λ (action : ℕ × Action). one_if ((action.0 == conn) && is_send action.1)) actions (other, action)

pub sends_in-push : (other : ℕ) (actions : Actions) (action : Action) → sends_in (actions ++ (other, action) ∷ []) ≡ sends_in actions + one_if (is_send action)
sends_in-push other actions action = sum_by_push (λ (action : ℕ × Action). one_if (is_send action.1)) actions (other, action)

pub ends_in_send-push : (conn other : ℕ) (actions : Actions) (action : Action)
    → ends_in_send conn (actions ++ (other, action) ∷ []) ≡ (if other == conn then is_send action else ends_in_send conn actions)
ends_in_send-push conn other actions action = fold-append _ false actions ((other, action) ∷ [])

fewer : (here sent : Bool) → one_if (here && sent) ≤ one_if sent
fewer true sent = omega arith
fewer false true = omega arith
fewer false false = omega arith

at_most_one : (test : Bool) → one_if test ≤ 1
at_most_one true = omega arith
at_most_one false = omega arith

pub one_send_at_most : (conn other : ℕ) (actions : Actions) (action : Action) → sends_on conn (actions ++ (other, action) ∷ []) ≤ sends_on conn actions + 1
one_send_at_most conn other actions action =
    let push = sends_on-push conn other actions action in
    let one = at_most_one ((other == conn) && is_send action) in
    omega (arith, push, one)

-- A connection has no more sends than all connections together.
pub sends_on_within : (conn : ℕ) (actions : Actions) → sends_on conn actions ≤ sends_in actions
sends_on_within conn [] = omega arith
sends_on_within conn ((other, action) ∷ actions) =
    let later = sends_on_within conn actions in
    let here = fewer (other == conn) (is_send action) in
    let on_conn = sum_by-cons (λ (action : ℕ × Action). one_if ((action.0 == conn) && is_send action.1)) (other, action) actions in
    let in_all = sum_by-cons (λ (action : ℕ × Action). one_if (is_send action.1)) (other, action) actions in
    omega (arith, later, here, on_conn, in_all)

-- the connection itself, and another one
tally-same : (conn : ℕ) (actions : Actions) (action : Action) → tally_of (actions ++ (conn, action) ∷ []) conn ≡ tally_behind (tally_of actions conn) action
tally-same conn actions (Send parts) =
    let same : (conn == conn) ≡ true = grind (arith, nat_tests) in
    let sends = sends_on-push conn conn actions (Send parts) in
    let ends = ends_in_send-push conn conn actions (Send parts) in
    rw (sends, ends, same) refl
tally-same conn actions (Await count) =
    let same : (conn == conn) ≡ true = grind (arith, nat_tests) in
    let counted = rw same at (sends_on-push conn conn actions (Await count)) in
    let sends : sends_on conn (actions ++ (conn, Await count) ∷ []) ≡ sends_on conn actions = omega (arith, counted) in
    let ends = ends_in_send-push conn conn actions (Await count) in
    rw (sends, ends, same) refl

tally-other : (conn other : ℕ) (actions : Actions) (action : Action) → other ≢ conn → tally_of (actions ++ (other, action) ∷ []) conn ≡ tally_of actions conn
tally-other conn other actions action differs =
    let apart : (other == conn) ≡ false = grind (arith, nat_tests) in
    let counted = rw apart at (sends_on-push conn other actions action) in
    let sends : sends_on conn (actions ++ (other, action) ∷ []) ≡ sends_on conn actions = omega (arith, counted) in
    let ends = ends_in_send-push conn other actions action in
    rw (sends, ends, apart) refl

get-set_same : {A : Type 0} (items : List A) (place : ℕ) (item : A) → place < length items → slice_get (slice_set items place item) place ≡ Some item
get-set_same [] place item within = absurd (omega arith)
get-set_same (first ∷ items) zero item within = refl
get-set_same (first ∷ items) (suc place) item within = get-set_same items place item (omega arith)

get-set_other : {A : Type 0} (items : List A) (place other : ℕ) (item : A) → other ≢ place → slice_get (slice_set items place item) other ≡ slice_get items other
get-set_other [] place other item differs = refl
get-set_other (first ∷ items) zero zero item differs = absurd (differs refl)
get-set_other (first ∷ items) zero (suc other) item differs = refl
get-set_other (first ∷ items) (suc place) zero item differs = refl
get-set_other (first ∷ items) (suc place) (suc other) item differs = get-set_other items place other item (λ same. differs (ap suc same))

-- The tallies are right behind one action more, where that of its connection is counted on.
pub tallied_more : (conns conn : ℕ) (actions : Actions) (action : Action) (tallies : List Tally) (tally : Tally) → conn < conns → AreTallies conns actions tallies
    → tally ≡ tally_behind (tally_of actions conn) action → AreTallies conns (actions ++ (conn, action) ∷ []) (slice_set tallies conn tally)
tallied_more conns conn actions action tallies tally there are is = record {
  all = length-set tallies conn tally ∙ are.all;
  each = λ other within. by_conn other within (cases_eq other conn);
}
  where
    by_conn : (other : ℕ) → other < conns → (other ≡ conn) ⊎ (other ≢ conn) → slice_get (slice_set tallies conn tally) other ≡ Some (tally_of (actions ++ (conn, action) ∷ []) other)
    by_conn other within (inl same) =
        rw same (get-set_same tallies conn tally (omega (arith, are.all)) ∙ ap Some (is ∙ sym (tally-same conn actions action)))
    by_conn other within (inr differs) =
        get-set_other tallies conn other tally differs ∙ are.each other within ∙ ap Some (sym (tally-other other conn actions action (λ same. differs (sym same))))
