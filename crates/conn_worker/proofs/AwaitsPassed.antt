-- Met awaits that are passed.
use Rattle.std.proofs.Common.{◌≡◌, ℕ, ◌+◌, ◌≤◌, true, Option, Some, None, length, refl, sym, ap, subst}
use Rattle.std.proofs.lemmas.Bool.{leb-true}
use Rattle.conn_worker.proofs.Fitting.{fits-met}
use Rattle.conn_worker.specs.Driving.{Course}
use Rattle.conn_worker.specs.Parts.{PassesSome, is_met, next_action}
use Rattle.exchange_text.specs.declared.action.Action.{Action}
use Rattle.exchange_text.specs.declared.action.Action.TheVariants.{Send, Await}

-- what is met is an await of no more
met_is : (received : ℕ) (action : Option Action) → is_met received action ≡ true → (count : ℕ) × (action ≡ Some (Await count)) × (count ≤ received)
met_is received None met = absurd (cc)
met_is received (Some (Send parts)) met = absurd (cc)
met_is received (Some (Await count)) met = (count, refl, leb-true count received met)

-- One more is passed.
pub one_more : (start old course : Course) → course ≡ old → PassesSome start old → is_met (length old.receipts) (next_action old) ≡ true
    → PassesSome start (record course { passed = course.passed + 1 })
one_more start old course is some met =
    let (count, next, enough) = met_is (length old.receipts) (next_action old) met in
    let P : Course → Type 0 = λ course. PassesSome start (record course { passed = course.passed + 1 }) in
    let make : Course → Course = λ course. record course { passed = old.passed + 1 } in
    subst P (sym is) (record {
      only = ap make some.only;
      fits = λ link events fits. fits-met link old events (some.fits link events fits) count next enough;
    })
