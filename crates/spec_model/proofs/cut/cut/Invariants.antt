use Rattle.std.proofs.Common.{◌≡◌, ◌-◌, ◌≤◌, take, drop, length, replicate, option_map}
use Rattle.spec_model.specs.Cut.{spans_from}
use Rattle.spec_model.specs.Pattern.{pieces_of}
use Rattle.spec_model.proofs.Cuts.{spans_behind}
use Rattle.spec_model.proofs.cut.cut.Given as goal

abbrev pub invariant-loop-place : goal.invariant-loop-place
invariant-loop-place l = record {
  within : l.start ≤ length l.message;
  room : length l.spans ≡ 16;
  empty : drop l.place l.spans ≡ replicate (16 - l.place) (0, 0);
  -- the spans found so far are the first, and the rest of the pattern cuts the rest of the message into the others
  found : spans_behind (take l.place l.spans) l.start (drop l.place l.pattern) (drop l.start l.message) ≡ option_map (spans_from 0) (pieces_of l.pattern l.message);
}
