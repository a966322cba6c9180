use Rattle.std.proofs.Common.{◌≡◌, ◌++◌}
use Rattle.spec_model.specs.Canonical.{new_line}
use Rattle.spec_print.proofs.page.put_new_line.Given as goal

-- the spaces of the braces passed
abbrev pub invariant-loop-brace : goal.invariant-loop-brace
invariant-loop-brace l = l.text.items ≡ l.fn.text.items ++ new_line l._brace
