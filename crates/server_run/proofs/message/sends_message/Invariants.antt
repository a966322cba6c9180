use Rattle.std.proofs.Common.{◌≡◌, ◌≤◌, ℕ, Some, drop}
use Rattle.server_run.proofs.Sending.{parts_fit}
use Rattle.server_run.specs.State.{config_of}
use Rattle.server_run.proofs.message.sends_message.Given as goal

abbrev pub invariant-loop-part : goal.invariant-loop-part
invariant-loop-part l = record {
  small : (len : ℕ) → l.so_far ≡ Some len → len ≤ l.shape.limit;
  -- the parts still to come decide as all parts do
  found : parts_fit l.shape l.so_far (config_of l.state) (drop l.part-index l.parts) ≡ parts_fit l.shape (Some 0) (config_of l.state) l.parts;
}
