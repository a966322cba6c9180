use Rattle.std.proofs.Common.{◌≡◌, filter_map, take}
use Rattle.constraint_set.specs.Form.{difference_key}
use Rattle.constraint_set.proofs.form.difference_keys.Given as goal

abbrev pub invariant-loop-difference : goal.invariant-loop-difference
invariant-loop-difference l = l.keys.items ≡ filter_map (difference_key l.framing l.seen.symbols.now l.seen.roots.now) (take l.difference-index l.differences)
