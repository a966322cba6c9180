use Rattle.std.proofs.Common.{◌≡◌, drop}
use Rattle.script_gen.specs.Plan.{site_behind}
use Rattle.script_gen.proofs.plan.site_of.Given as goal

-- the parts that are left decide
abbrev pub invariant-loop-part : goal.invariant-loop-part
invariant-loop-part l = site_behind l.picks l.start (drop l.part-index l.parts) ≡ site_behind l.picks 0 l.parts
