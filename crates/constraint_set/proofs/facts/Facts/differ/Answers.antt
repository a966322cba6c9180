use Rattle.std.proofs.Common.{◌≡◌, ◌≢◌, ◌+◌, ◌<◌, sym, subst, true, false, List, ℕ}
use Rattle.constraint_set.specs.Known.{Known, IsAtomOf, IsNarrowedTo, IsSolution, text_of}
use Rattle.constraint_set.specs.Solved.{IsSolved, can_differ, with_difference}
use Rattle.constraint_set.proofs.Differences.{separates}
use Rattle.constraint_set.proofs.facts.Facts.differ.Goals as goal

pub returns-then-not-can_differ-clause-never : goal.returns-then-not-can_differ-clause-never
returns-then-not-can_differ-clause-never c =
    let known : Known = record { framing = c.self.inside.framing; room = c.self.inside.room; asked = c.self.inside.asked; symbols = c.self.inside.symbols.items; differences = c.self.inside.differences.items } in
    let first : IsAtomOf known c.args.a.now = subst (λ k. IsAtomOf k c.args.a.now) (sym c.self.view_is) c.requires.first in
    let second : IsAtomOf known c.args.b.now = subst (λ k. IsAtomOf k c.args.b.now) (sym c.self.view_is) c.requires.second in
    let room : known.asked < known.room = subst (λ (k : Known). k.asked < k.room) (sym c.self.view_is) c.requires.room in
    let is : false ≡ can_differ known.symbols c.args.a.now c.args.b.now = cc (c.if-not-can_differ.true, c.can_differ.ensures, c.deref.ensures.value) in
    subst (λ (old : Known). (texts : List (List ℕ)) → IsSolution old texts → text_of texts c.args.a.now ≡ text_of texts c.args.b.now) c.self.view_is
    (separates known c.self.invariant room c.args.a.now c.args.b.now first second false is)

pub invariant_of-self-2 : goal.invariant_of-self-2
invariant_of-self-2 c =
    let known : Known = record { framing = c.self.inside.framing; room = c.self.inside.room; asked = c.self.inside.asked; symbols = c.self.inside.symbols.items; differences = c.self.inside.differences.items } in
    let first : IsAtomOf known c.args.a.now = subst (λ k. IsAtomOf k c.args.a.now) (sym c.self.view_is) c.requires.first in
    let second : IsAtomOf known c.args.b.now = subst (λ k. IsAtomOf k c.args.b.now) (sym c.self.view_is) c.requires.second in
    let room : known.asked < known.room = subst (λ (k : Known). k.asked < k.room) (sym c.self.view_is) c.requires.room in
    let is : true ≡ can_differ known.symbols c.args.a.now c.args.b.now = cc (c.if-not-can_differ.false, c.can_differ.ensures, c.deref.ensures.value) in
    let grown : c.push_difference.new.differences.items ≡ with_difference known.symbols known.differences c.args.a.now c.args.b.now = cc (c.in_ok-push_difference.ensures.ok, c.deref-2.ensures.value) in
    subst (λ differences. IsSolved (record known { asked = known.asked + 1; differences = differences })) (sym grown)
    ((separates known c.self.invariant room c.args.a.now c.args.b.now first second true is).0)

pub returns-clause-met : goal.returns-clause-met
returns-clause-met c =
    let known : Known = record { framing = c.self.inside.framing; room = c.self.inside.room; asked = c.self.inside.asked; symbols = c.self.inside.symbols.items; differences = c.self.inside.differences.items } in
    let first : IsAtomOf known c.args.a.now = subst (λ k. IsAtomOf k c.args.a.now) (sym c.self.view_is) c.requires.first in
    let second : IsAtomOf known c.args.b.now = subst (λ k. IsAtomOf k c.args.b.now) (sym c.self.view_is) c.requires.second in
    let room : known.asked < known.room = subst (λ (k : Known). k.asked < k.room) (sym c.self.view_is) c.requires.room in
    let is : true ≡ can_differ known.symbols c.args.a.now c.args.b.now = cc (c.if-not-can_differ.false, c.can_differ.ensures, c.deref.ensures.value) in
    let grown : c.push_difference.new.differences.items ≡ with_difference known.symbols known.differences c.args.a.now c.args.b.now = cc (c.in_ok-push_difference.ensures.ok, c.deref-2.ensures.value) in
    let narrowed : IsNarrowedTo known (record known { asked = known.asked + 1; differences = c.push_difference.new.differences.items }) (λ texts. text_of texts c.args.a.now ≢ text_of texts c.args.b.now) =
    subst (λ differences. IsNarrowedTo known (record known { asked = known.asked + 1; differences = differences }) (λ texts. text_of texts c.args.a.now ≢ text_of texts c.args.b.now)) (sym grown)
    ((separates known c.self.invariant room c.args.a.now c.args.b.now first second true is).1) in
    subst (λ (old : Known). IsNarrowedTo old (record known { asked = known.asked + 1; differences = c.push_difference.new.differences.items }) (λ texts. text_of texts c.args.a.now ≢ text_of texts c.args.b.now)) c.self.view_is narrowed
