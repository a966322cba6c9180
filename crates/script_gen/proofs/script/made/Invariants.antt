use Rattle.std.proofs.Common.{◌≡◌, ◌-◌, []}
use Rattle.script_gen.specs.Generator.{steps}
use Rattle.script_gen.specs.Paced.{sends_in}
use Rattle.script_gen.specs.Ready.{IsMade}
use Rattle.script_gen.proofs.script.made.Given as goal

-- With the steps that are left all of them are made.
abbrev pub invariant-loop : goal.invariant-loop
invariant-loop l = record {
  actions : (steps l.plan (l.count - l.counter) l.draft.actions l.words).0 ≡ (steps l.plan l.count [] l.fn.words).0;
  made : IsMade l.plan l.draft;
  sends : sends_in l.draft.actions ≡ l.counter;
}
