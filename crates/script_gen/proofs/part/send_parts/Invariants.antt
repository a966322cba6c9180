use Rattle.std.proofs.Common.{◌≡◌, ◌+◌, ◌≤◌, ◌++◌, drop, length, sum_by}
use Rattle.std.specs.List.{AllByRecursion}
use Rattle.exchange_text.specs.Actions.{IsPart, length_of}
use Rattle.script_gen.specs.Parts.{parts_of, within}
use Rattle.script_gen.proofs.part.send_parts.Given as goal

-- With the parts of the items that are left these are the parts of the template as far as there is room.
abbrev pub invariant-loop-item : goal.invariant-loop-item
invariant-loop-item l = record {
  parts : l.sent.parts ++ within l.sent.room (parts_of l.plan l.earlier (drop l.item-index l.template) l.words).0
      ≡ within l.plan.shape.limit (parts_of l.plan l.earlier l.template l.fn.words).0;
  left : (parts_of l.plan l.earlier (drop l.item-index l.template) l.words).1 ≡ (parts_of l.plan l.earlier l.template l.fn.words).1;
  each : AllByRecursion (IsPart l.plan.shape.framing) l.sent.parts;
  few : length l.sent.parts ≤ l.item-index;
  room : sum_by length_of l.sent.parts + l.sent.room ≡ l.plan.shape.limit;
}
