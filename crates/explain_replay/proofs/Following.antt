-- How a follower goes on.
use Rattle.std.proofs.Common.{◌≡◌, ◌≢◌, ℕ, ◌⊎◌, inl, inr, Bool, true, List, [], ◌∷◌, ◌++◌, drop, option_map, slice_get, length, Option, Some, None, Result, Ok, Err, IfOk, refl, sym, ◌∙◌, ap, subst}
use Rattle.std.specs.Vec.Iter.{into_iter_items}
use Rattle.std.proofs.lemmas.Bool.{cases_eq, eq-eqb, ne_eqb}
use Rattle.std.proofs.lemmas.List.{length-map}
use Rattle.spec_model.specs.declared.config.Config.{Config}
use Rattle.spec_model.specs.declared.config.Task.{Task}
use Rattle.spec_model.specs.declared.config.Task.TheVariants.{Do, Forget}
use Rattle.spec_model.specs.declared.event.ClientEvent.{ClientEvent}
use Rattle.spec_model.specs.declared.event.Mark.{Mark}
use Rattle.spec_model.specs.declared.event.Mark.TheVariants as marks
use Rattle.spec_model.specs.declared.event.ServerEvent.{ServerEvent}
use Rattle.spec_model.specs.declared.event.ServerEvent.TheVariants.{Take, Arm, Test, Pick, Send}
use Rattle.spec_model.specs.declared.tree.Kind.TheOpen as kinds
use Rattle.spec_model.specs.declared.tree.Spec.{Spec}
use Rattle.spec_model.specs.declared.tree.Stmt.{Stmt}
use Rattle.spec_model.specs.Config.{StmtKind, kind_of}
use Rattle.spec_model.specs.Run.{Opens, Step}
use Rattle.spec_model.specs.Skeleton.{mark_of}
use Rattle.spec_model.specs.Step.{after_event_at, after_stmt}
use Rattle.spec_model.specs.World.{IsPrefixOf, client_sends, server_takes}
use Rattle.spec_model.proofs.LegalWorlds.{IsLegal-in_order}
use Rattle.spec_model.proofs.RunSteps.{settles_once, step_once}
use Rattle.net_world.specs.declared.way.Way.TheVariants.{Up}
use Rattle.net_world.specs.Net.{UnderWay, queue, with_queue}
use Rattle.server_run.specs.Options.{HasStep, forced_at, forced_event}
use Rattle.server_run.specs.Served.{Served}
use Rattle.server_run.proofs.ForcedEvents.{is_plain, step_is_forced}
use Rattle.explain_replay.specs.declared.follower.Follower.{Follower}
use Rattle.explain_replay.specs.Explain.{AreSupplied, FindsNext, GoesOn, LieAhead, RunPicking}
use Rattle.explain_replay.proofs.Queues.{queue-other, queue-taken}

-- a statement that may show a send makes no choice
sends_plainly : (spec : Spec) (c : Config) (rest : List Task) (stmt : Stmt) (passed : ℕ) (kind : StmtKind) (conn : ℕ) (message : List ℕ) (d : Config)
    → after_stmt spec c rest stmt passed kind (Send conn message) ≡ Some d → is_plain kind ≡ true
sends_plainly spec c rest stmt passed (kinds.Recv chan cases other block) conn message d gave = absurd (cc)
sends_plainly spec c rest stmt passed (kinds.Pick name len alphabet) conn message d gave = absurd (cc)
sends_plainly spec c rest stmt passed (kinds.Either arms) conn message d gave = absurd (cc)
sends_plainly spec c rest stmt passed _ conn message d gave = refl

send_is_forced_at : (spec : Spec) (c : Config) (todo : List Task) (conn : ℕ) (message : List ℕ) (d : Config)
    → after_event_at spec c todo (Send conn message) ≡ Some d → forced_at spec c todo ≡ Some (Send conn message)
send_is_forced_at spec c [] conn message d gave = absurd (cc)
send_is_forced_at spec c (Forget count ∷ rest) conn message d gave = absurd (cc)
send_is_forced_at spec c (Do stmt passed ∷ rest) conn message d gave =
    step_is_forced spec c rest stmt passed (kind_of stmt) (Send conn message) d (sends_plainly spec c rest stmt passed (kind_of stmt) conn message d gave) gave

-- where a server can go on by a send, that is the one that it is forced to
send_is_forced : (spec : Spec) (c : Config) (conn : ℕ) (message : List ℕ) → HasStep spec c (Send conn message) → forced_event spec c ≡ Some (Send conn message)
send_is_forced spec c conn message (middle, gave) = send_is_forced_at spec c c.todo conn message middle gave

server_takes-front_same : (conn : ℕ) (message : List ℕ) (events : List ServerEvent) → server_takes conn (Take conn message ∷ events) ≡ message ∷ server_takes conn events
server_takes-front_same conn message events = rw (eq-eqb conn conn refl) refl

server_takes-front_other : (conn other : ℕ) (message : List ℕ) (events : List ServerEvent) → conn ≢ other → server_takes other (Take conn message ∷ events) ≡ server_takes other events
server_takes-front_other conn other message events apart = rw (ne_eqb conn other apart) refl

-- A take comes first, and all that is taken and picked is there.
module _ (net : List UnderWay) (texts : List (List ℕ)) (conn : ℕ) (message : List ℕ) (events : List ServerEvent) (supplied : AreSupplied net texts (Take conn message ∷ events)) where
  abbrev later : List (List ℕ)
  later = (supplied.takes conn).0

  queue_is : queue Up conn net ≡ message ∷ (server_takes conn events ++ later)
  queue_is = (supplied.takes conn).1 ∙ ap (λ takes. takes ++ later) (server_takes-front_same conn message events)

  take_is_oldest : option_map (λ message. Take conn message) (slice_get (queue Up conn net) 0) ≡ Some (Take conn message)
  take_is_oldest = ap (λ messages. option_map (λ message. Take conn message) (slice_get messages 0)) queue_is

  abbrev left : List UnderWay
  left = with_queue Up conn (drop 1 (queue Up conn net)) net

  later_takes : (other : ℕ) → (other ≡ conn) ⊎ (other ≢ conn) → IsPrefixOf (server_takes other events) (queue Up other left)
  later_takes other (inl same) = rw same (later, queue-taken net conn ∙ ap (drop 1) queue_is)
  later_takes other (inr apart) =
      let front = server_takes-front_other conn other message events (λ same. apart (sym same)) in
      ((supplied.takes other).0, queue-other net conn other (drop 1 (queue Up conn net)) apart ∙ (supplied.takes other).1 ∙ ap (λ takes. takes ++ (supplied.takes other).0) front)

  supplied_behind : AreSupplied left texts events
  supplied_behind = record { takes = λ other. later_takes other (cases_eq other conn); picks = supplied.picks }

-- How the next event with each mark is found.
module _ (old : Follower) where
  pub finds_take : (conn : ℕ) (new : Follower) (found : Option ServerEvent) → found ≡ option_map (λ message. Take conn message) (slice_get (queue Up conn old.net) 0)
      → new.net ≡ with_queue Up conn (drop 1 (queue Up conn old.net)) old.net → new.texts ≡ old.texts → FindsNext old (marks.Take conn) new found
  finds_take conn new found oldest left texts (Take other message) events is step supplied =
      let same : other ≡ conn = cc in
      let here = subst (λ conn. AreSupplied old.net (into_iter_items old.texts) (Take conn message ∷ events)) same supplied in (
        oldest ∙ take_is_oldest old.net (into_iter_items old.texts) conn message events here ∙ ap (λ conn. Some (Take conn message)) (sym same),
        rw (left, texts) (supplied_behind old.net (into_iter_items old.texts) conn message events here),
      )
  finds_take conn new found oldest left texts (Arm arm) events is step supplied = absurd (cc)
  finds_take conn new found oldest left texts (Test outcome) events is step supplied = absurd (cc)
  finds_take conn new found oldest left texts (Pick text) events is step supplied = absurd (cc)
  finds_take conn new found oldest left texts (Send other message) events is step supplied = absurd (cc)

  pub finds_arm : (arm : ℕ) → FindsNext old (marks.Arm arm) old (Some (Arm arm))
  finds_arm arm (Arm other) events is step supplied = (cc, record { takes = supplied.takes; picks = supplied.picks })
  finds_arm arm (Take conn message) events is step supplied = absurd (cc)
  finds_arm arm (Test outcome) events is step supplied = absurd (cc)
  finds_arm arm (Pick text) events is step supplied = absurd (cc)
  finds_arm arm (Send conn message) events is step supplied = absurd (cc)

  pub finds_test : (outcome : Bool) → FindsNext old (marks.Test outcome) old (Some (Test outcome))
  finds_test outcome (Test other) events is step supplied = (cc, record { takes = supplied.takes; picks = supplied.picks })
  finds_test outcome (Take conn message) events is step supplied = absurd (cc)
  finds_test outcome (Arm arm) events is step supplied = absurd (cc)
  finds_test outcome (Pick text) events is step supplied = absurd (cc)
  finds_test outcome (Send conn message) events is step supplied = absurd (cc)

  pub finds_pick : (new : Follower) (found : Option ServerEvent) → found ≡ option_map (λ text. Pick text) (slice_get (into_iter_items old.texts) 0)
      → into_iter_items new.texts ≡ drop 1 (into_iter_items old.texts) → new.net ≡ old.net → FindsNext old marks.Pick new found
  finds_pick new found first left net (Pick text) events is step supplied = (
    first ∙ ap (λ texts. option_map (λ text. Pick text) (slice_get texts 0)) (sym supplied.picks),
    record { takes = rw net supplied.takes; picks = ap (drop 1) supplied.picks ∙ sym left },
  )
  finds_pick new found first left net (Take conn message) events is step supplied = absurd (cc)
  finds_pick new found first left net (Arm arm) events is step supplied = absurd (cc)
  finds_pick new found first left net (Test outcome) events is step supplied = absurd (cc)
  finds_pick new found first left net (Send conn message) events is step supplied = absurd (cc)

  finds_send : (conn : ℕ) (found : Option ServerEvent) → found ≡ forced_event old.server.spec old.server.config → FindsNext old (marks.Send conn) old found
  finds_send conn found forced (Send other message) events is step supplied =
      (forced ∙ send_is_forced old.server.spec old.server.config other message step, record { takes = supplied.takes; picks = supplied.picks })
  finds_send conn found forced (Take other message) events is step supplied = absurd (cc)
  finds_send conn found forced (Arm arm) events is step supplied = absurd (cc)
  finds_send conn found forced (Test outcome) events is step supplied = absurd (cc)
  finds_send conn found forced (Pick text) events is step supplied = absurd (cc)

pub finds_forced : {E : Type 0} (old : Follower) (mark : Mark) (conn : ℕ) → mark ≡ marks.Send conn → (answer : Result (Option ServerEvent) E)
    → IfOk answer (λ found. found ≡ forced_event old.server.spec old.server.config) → IfOk answer (λ found. FindsNext old mark old found)
finds_forced old mark conn is (Ok found) forced = rw is (finds_send old conn found forced)
finds_forced old mark conn is (Err error) forced = tt

-- The next event with a mark is found, and then made.
module _ (old middle : Follower) (mark : Mark) (found : Option ServerEvent) (finds : FindsNext old mark middle found) (same : middle.server ≡ old.server) where
  next_ahead : (marks : List Mark) (event : ServerEvent) (events : List ServerEvent) → LieAhead old (mark ∷ marks) (event ∷ events)
      → (found ≡ Some event) × AreSupplied middle.net (into_iter_items middle.texts) events
  next_ahead marks event events ahead =
      let has : mark_of event ≡ mark = cc (ahead.has) in
      finds event events has (ahead.steps.1.0, ahead.steps.1.1) ahead.supplied

  pub finds_none : (new : Follower) → found ≡ None → GoesOn old mark new None
  finds_none new none marks event events ahead = let next = next_ahead marks event events ahead in absurd (cc (next.0))

  pub may_go_on : (event : ServerEvent) (new : Follower) → found ≡ Some event → ((config : Config) → ¬ Step middle.server.spec middle.server.config event config) → GoesOn old mark new None
  may_go_on event new is none marks next events ahead =
      let there : event ≡ next = let first = next_ahead marks next events ahead in cc (first.0) in
      let step : Step old.server.spec old.server.config event ahead.steps.0 = rw there ahead.steps.1 in
      absurd (none ahead.steps.0 (rw same step))

  pub goes_on : (event : ServerEvent) (server : Served) → found ≡ Some event → server.spec ≡ middle.server.spec → Step middle.server.spec middle.server.config event server.config
      → GoesOn old mark (record middle { server = server }) (Some event)
  goes_on event server is spec step marks next events ahead =
      let first = next_ahead marks next events ahead in
      let there : event ≡ next = cc (first.0) in
      let of_old : Step old.server.spec old.server.config next server.config = rw (← there) (subst (λ (from : Served). Step from.spec from.config event server.config) same step) in
      let end : server.config ≡ ahead.steps.0 = step_once old.server.spec old.server.config next server.config ahead.steps.0 of_old ahead.steps.1 in
      let of_spec : server.spec ≡ old.server.spec = spec ∙ ap (λ (from : Served). from.spec) same in (
        ap Some there,
        record { has = cc (ahead.has); end = ahead.end; steps = rw (of_spec, end) ahead.steps.2; supplied = first.1 },
      )

-- What lies ahead begins with the event that is made.
pub record MadeNext (new : Follower) (later : List Mark) (events : List ServerEvent) (made : Option ServerEvent) : Type 0 where
  pub event : ServerEvent
  pub rest : List ServerEvent
  pub whole : events ≡ event ∷ rest
  pub is : made ≡ Some event
  pub ahead : LieAhead new later rest

pub made_next : (old new : Follower) (mark : Mark) (marks later : List Mark) (events : List ServerEvent) (made : Option ServerEvent) → marks ≡ mark ∷ later → GoesOn old mark new made
    → LieAhead old marks events → MadeNext new later events made
made_next old new mark marks later [] made are goes ahead = absurd (cc (ahead.has, are))
made_next old new mark marks later (event ∷ rest) made are goes ahead =
    let here : LieAhead old (mark ∷ later) (event ∷ rest) = subst (λ marks. LieAhead old marks (event ∷ rest)) are ahead in
    let gone = goes later event rest here in
    record { event = event; rest = rest; whole = refl; is = gone.0; ahead = gone.1 }

-- as many events lie ahead as there are marks
pub length-ahead : (follower : Follower) (marks : List Mark) (events : List ServerEvent) → LieAhead follower marks events → length events ≡ length marks
length-ahead follower marks events ahead = sym (length-map events mark_of) ∙ ap length ahead.has

-- A run that picks the texts lies ahead of the follower that stands at the opening, all that clients sent being under way.
pub lies_ahead : (spec : Spec) (exchange : List ClientEvent) (skeleton : List Mark) (follower : Follower) (events : List ServerEvent) → follower.server.spec ≡ spec
    → Opens spec follower.server.config → ((conn : ℕ) → queue Up conn follower.net ≡ client_sends conn exchange)
    → RunPicking spec exchange skeleton (into_iter_items follower.texts) events → LieAhead follower skeleton events
lies_ahead spec exchange skeleton follower events of_spec opens sent picking =
    let run = picking.run.explains.run in
    let opening : run.1.0 ≡ follower.server.config = settles_once spec _ run.1.0 follower.server.config run.1.1 opens in
    let arranged = picking.run.explains.arranged in
    let in_order = λ (conn : ℕ). (IsLegal-in_order arranged.legal conn).up in
    record {
      has = picking.run.has;
      end = run.0;
      steps = rw (of_spec, ← opening) run.1.2;
      supplied = record {
        takes = λ conn. rw (sent conn, ← arranged.clients, ← arranged.server) (in_order conn);
        picks = picking.picks;
      };
    }
