use Rattle.std.proofs.Common.{◌≡◌, ◌++◌, flat_map, map, take}
use Rattle.constraint_set.specs.Form.{packed, root_key}
use Rattle.constraint_set.proofs.form.put_roots.Given as goal

abbrev pub invariant-loop-root : goal.invariant-loop-root
invariant-loop-root l = l.out.items ≡ l.initial.out.items ++ flat_map packed (map (root_key l.seen.symbols.now l.seen.roots.now) (take l.root-index l.roots))
