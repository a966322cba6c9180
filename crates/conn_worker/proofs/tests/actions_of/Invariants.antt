use Rattle.std.proofs.Common.{◌≡◌, length}
use Rattle.std.specs.List.{AllByRecursion}
use Rattle.exchange_text.specs.Actions.{IsAction}
use Rattle.conn_worker.proofs.tests.actions_of.Given as goal

-- so many actions were made so far, each one that a script may have
abbrev pub invariant-loop-action : goal.invariant-loop-action
invariant-loop-action l = record {
  each : AllByRecursion (IsAction l.shape) l.actions.items;
  counted : length l.actions.items ≡ l.action-index;
}
