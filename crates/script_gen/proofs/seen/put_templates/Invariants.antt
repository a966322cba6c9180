use Rattle.std.proofs.Common.{◌≡◌, ◌++◌, map, take}
use Rattle.spec_model.specs.declared.tree.Case.{out-Case}
use Rattle.script_gen.proofs.seen.put_templates.Given as goal

-- the patterns so far
abbrev pub invariant-loop-case : goal.invariant-loop-case
invariant-loop-case l = l.templates ≡ l.fn.templates ++ map (λ case. (out-Case case).items) (take l.case-index l.case-items)
