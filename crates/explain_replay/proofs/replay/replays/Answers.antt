use Rattle.std.proofs.Common.{refl}
use Rattle.spec_model.specs.World.{Explains}
use Rattle.explain_replay.specs.declared.replay.ReplayRefusal.TheVariants.{NotLegal, NotServer, NotExchange}
use Rattle.explain_replay.proofs.OneRefusal.{no_run, none_refused, only_this}
use Rattle.explain_replay.proofs.replay.replays.Goals as goal

pub returns-in-Err-clause-only_refused : goal.returns-in-Err-clause-only_refused
returns-in-Err-clause-only_refused c other refused not_memory =
    only_this c.args.spec.now c.args.exchange.now c.args.world.now (NotLegal c.in-Err.place) other (c.in-Err.field-0-1, c.in-Err.ensures.ends) (λ same. cc same) refused not_memory _ refl

pub returns-in-Some-clause-only_explains : goal.returns-in-Some-clause-only_explains
returns-in-Some-clause-only_explains c explains =
    absurd (no_run c.args.spec.now c.args.world.now c.in-Some.place (rw c.in-Some.is at c.in_ok-place.ensures) explains.run)

pub returns-in-Some-clause-only_refused : goal.returns-in-Some-clause-only_refused
returns-in-Some-clause-only_refused c other refused not_memory =
    let first = rw c.in-Some.is at c.in_ok-place.ensures in
    only_this c.args.spec.now c.args.exchange.now c.args.world.now (NotServer c.in-Some.place) other (c.in_default.ensures.legal.0 refl, first) (λ same. cc same) refused not_memory _ refl

pub returns-in-None-clause-only_refused : goal.returns-in-None-clause-only_refused
returns-in-None-clause-only_refused c other refused not_memory =
    let run = rw c.in_default-2.is at c.in_ok-place.ensures in
    let explains : Explains c.args.spec.now c.args.world.now c.args.exchange.now = record { legal = c.in_default.ensures.legal.0 refl; clients = c.in-None.ensures; run = run } in
    absurd (none_refused c.args.spec.now c.args.exchange.now c.args.world.now other refused not_memory explains)

pub returns-in-Some-first_difference-clause-only_refused : goal.returns-in-Some-first_difference-clause-only_refused
returns-in-Some-first_difference-clause-only_refused c other refused not_memory =
    let run = rw c.in_default-2.is at c.in_ok-place.ensures in
    only_this c.args.spec.now c.args.exchange.now c.args.world.now (NotExchange c.in-Some-first_difference.place) other
    (c.in_default.ensures.legal.0 refl, run, c.in-Some-first_difference.ensures) (λ same. cc same) refused not_memory _ refl
