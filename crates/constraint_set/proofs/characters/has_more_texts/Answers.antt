use Rattle.std.proofs.Common.{◌≡◌, ◌≤◌, ◌^◌, ap, arith, refl}
use Rattle.std.proofs.Math.Nat.{pow-le-pow_right}
use Rattle.constraint_set.specs.Characters.{texts_count}
use Rattle.constraint_set.proofs.characters.has_more_texts.Goals as goal

-- shorter texts are no more
pub returns-then-count-found : goal.returns-then-count-found
returns-then-count-found c =
    let found = c.loop-place.invariant.found in
    let rises : c.size_of-size.result ^ c.loop-place._place ≤ c.size_of-size.result ^ c.args.len = pow-le-pow_right c.loop-place.invariant.some (omega arith) in
    let same : c.size_of-size.result ^ c.args.len ≡ texts_count c.args.framing c.args.alphabet c.args.len = ap (λ size. size ^ c.args.len) c.size_of-size.ensures in
    (λ yes. omega (arith, found, rises, same), λ fewer. refl)
