-- Silent work, one piece after the other.
use Rattle.std.proofs.Common.{◌≡◌, ℕ, ◌+◌, ◌<◌, List, [], ◌∷◌, Option, Some, None, refl, arith}
use Rattle.spec_model.specs.declared.config.Config.{Config}
use Rattle.spec_model.specs.declared.config.Task.{Task}
use Rattle.spec_model.specs.declared.tree.Spec.{Spec}
use Rattle.spec_model.specs.Config.{after_entering}
use Rattle.spec_model.specs.Run.{BeginsWithRecv, Settles, passes}
use Rattle.spec_model.specs.Step.{after_silent_work, after_silent_work_at}
use Rattle.spec_model.proofs.SilentWork.{silent_falls}
use Rattle.spec_model.proofs.Weights.{weight}

-- what silent work leads to from the second configuration, it leads to from the first
abbrev pub Continues : Spec → Config → Config → Type 0
Continues spec from now = (to : Config) → Settles spec now to → Settles spec from to

abbrev left_by : ℕ → Option Config → ℕ
left_by todo None = 0
left_by todo (Some next) = 1 + todo

-- what is left of silent work: nothing, or one more than what is to be done weighs
abbrev pub work_left : Spec → Config → ℕ
work_left spec c = left_by (weight c.todo) (after_silent_work spec c)

pub continues-more : (spec : Spec) (from now next : Config) → Continues spec from now → after_silent_work spec now ≡ Some next → Continues spec from next
continues-more spec from now next so_far gave = λ to settles. so_far to (passes gave settles)

left_small : (n : ℕ) (o : Option Config) → left_by n o < n + 2
left_small n None = omega arith
left_small n (Some next) = omega arith

left_some : (n : ℕ) (o : Option Config) (next : Config) → o ≡ Some next → left_by n o ≡ 1 + n
left_some n None next e = absurd (cc)
left_some n (Some other) next e = refl

-- where the loop begins, nothing more is done silently
at_loop : (spec : Spec) (begins : BeginsWithRecv spec) (c : Config) → after_silent_work spec (after_entering c [] spec.body []) ≡ None
at_loop spec begins c = rw (begins.body, begins.takes) refl

falls_at : (spec : Spec) → BeginsWithRecv spec → (c next : Config) (todo : List Task) → c.todo ≡ todo → after_silent_work_at spec c todo ≡ Some next
    → work_left spec next < 1 + weight todo
falls_at spec begins c next [] is gave =
    let entered : after_entering c [] spec.body [] ≡ next = cc in
    let none : after_silent_work spec next ≡ None = rw (← entered) (at_loop spec begins c) in
    rw none (omega arith)
falls_at spec begins c next (task ∷ rest) is gave =
    let lighter = silent_falls spec c task rest next gave in
    let small = left_small (weight next.todo) (after_silent_work spec next) in omega arith

-- each piece leaves less
pub work_falls : (spec : Spec) (c next : Config) → BeginsWithRecv spec → after_silent_work spec c ≡ Some next → work_left spec next < work_left spec c
work_falls spec c next begins gave =
    let before = left_some (weight c.todo) (after_silent_work spec c) next gave in
    let falls = falls_at spec begins c next c.todo refl gave in omega arith
