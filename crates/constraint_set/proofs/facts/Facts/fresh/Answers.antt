use Rattle.std.proofs.Common.{◌≡◌, ◌+◌, ◌<◌, sym, subst}
use Rattle.constraint_set.specs.Characters.{texts_count}
use Rattle.constraint_set.specs.Known.{Known, HasFresh}
use Rattle.constraint_set.specs.Solved.{IsSolved, with_symbol}
use Rattle.constraint_set.proofs.FreshSymbols.{fresh_has, fresh_solved}
use Rattle.constraint_set.proofs.facts.Facts.fresh.Goals as goal

pub invariant_of-self-2 : goal.invariant_of-self-2
invariant_of-self-2 c =
    let known : Known = record { framing = c.self.inside.framing; room = c.self.inside.room; asked = c.self.inside.asked; symbols = c.self.inside.symbols.items; differences = c.self.inside.differences.items } in
    let many : known.room + 1 < texts_count known.framing c.args.alphabet c.args.n = subst (λ (k : Known). k.room + 1 < texts_count k.framing c.args.alphabet c.args.n) (sym c.self.view_is) c.requires.many in
    let grown : c.push.new.self.items ≡ (with_symbol known c.args.n c.args.alphabet).symbols = cc (c.in_ok-push.ensures.items, c.len-number.ensures) in
    subst (λ symbols. IsSolved (record known { symbols = symbols })) (sym grown) (fresh_solved known c.self.invariant c.args.n c.args.alphabet many)

pub returns-clause-fresh : goal.returns-clause-fresh
returns-clause-fresh c =
    let known : Known = record { framing = c.self.inside.framing; room = c.self.inside.room; asked = c.self.inside.asked; symbols = c.self.inside.symbols.items; differences = c.self.inside.differences.items } in
    let grown : c.push.new.self.items ≡ (with_symbol known c.args.n c.args.alphabet).symbols = cc (c.in_ok-push.ensures.items, c.len-number.ensures) in
    let has : HasFresh known (record known { symbols = c.push.new.self.items }) c.args.n c.args.alphabet =
    subst (λ symbols. HasFresh known (record known { symbols = symbols }) c.args.n c.args.alphabet) (sym grown) (fresh_has known c.self.invariant c.args.n c.args.alphabet) in
    subst (λ (old : Known). HasFresh old (record known { symbols = c.push.new.self.items }) c.args.n c.args.alphabet) c.self.view_is has
