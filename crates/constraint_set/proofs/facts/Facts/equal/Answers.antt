use Rattle.std.proofs.Common.{◌≡◌, ◌≢◌, sym, ap, subst, Some, None, Vec, Global, option_map, List, ℕ}
use Rattle.constraint_set.specs.Known.{Known, IsAtomOf, IsNarrowedTo, IsSolution, text_of}
use Rattle.constraint_set.specs.Solved.{symbols_equated}
use Rattle.constraint_set.specs.declared.symbol.Symbol.{Symbol}
use Rattle.constraint_set.proofs.Equalities.{equated_as}
use Rattle.constraint_set.proofs.facts.Facts.equal.Goals as goal

pub invariant_of-self : goal.invariant_of-self
invariant_of-self c =
    let known : Known = record { framing = c.self.inside.framing; room = c.self.inside.room; asked = c.self.inside.asked; symbols = c.self.inside.symbols.items; differences = c.self.inside.differences.items } in
    let first : IsAtomOf known c.args.a.now = subst (λ k. IsAtomOf k c.args.a.now) (sym c.self.view_is) c.requires.first in
    let second : IsAtomOf known c.args.b.now = subst (λ k. IsAtomOf k c.args.b.now) (sym c.self.view_is) c.requires.second in
    let gave : option_map (λ (v : Vec Symbol Global). v.items) c.in_ok-symbols_equated.field-0 ≡ Some c.in-Some.symbols.items = ap (option_map (λ (v : Vec Symbol Global). v.items)) c.in-Some.is in
    let is : Some c.in-Some.symbols.items ≡ symbols_equated known.framing known.symbols known.differences c.args.a.now c.args.b.now =
    cc (gave, c.in_ok-symbols_equated.ensures, c.deref.ensures.value, c.deref-2.ensures.value) in
    (equated_as known c.self.invariant c.args.a.now c.args.b.now first second (Some c.in-Some.symbols.items) is).0

pub returns-in-None-clause-never : goal.returns-in-None-clause-never
returns-in-None-clause-never c =
    let known : Known = record { framing = c.self.inside.framing; room = c.self.inside.room; asked = c.self.inside.asked; symbols = c.self.inside.symbols.items; differences = c.self.inside.differences.items } in
    let first : IsAtomOf known c.args.a.now = subst (λ k. IsAtomOf k c.args.a.now) (sym c.self.view_is) c.requires.first in
    let second : IsAtomOf known c.args.b.now = subst (λ k. IsAtomOf k c.args.b.now) (sym c.self.view_is) c.requires.second in
    let gave : option_map (λ (v : Vec Symbol Global). v.items) c.in_ok-symbols_equated.field-0 ≡ None = ap (option_map (λ (v : Vec Symbol Global). v.items)) c.in-None.is in
    let is : None ≡ symbols_equated known.framing known.symbols known.differences c.args.a.now c.args.b.now =
    cc (gave, c.in_ok-symbols_equated.ensures, c.deref.ensures.value, c.deref-2.ensures.value) in
    subst (λ (old : Known). (texts : List (List ℕ)) → IsSolution old texts → text_of texts c.args.a.now ≢ text_of texts c.args.b.now) c.self.view_is
    (equated_as known c.self.invariant c.args.a.now c.args.b.now first second None is)

pub returns-in-Some-clause-met : goal.returns-in-Some-clause-met
returns-in-Some-clause-met c =
    let known : Known = record { framing = c.self.inside.framing; room = c.self.inside.room; asked = c.self.inside.asked; symbols = c.self.inside.symbols.items; differences = c.self.inside.differences.items } in
    let first : IsAtomOf known c.args.a.now = subst (λ k. IsAtomOf k c.args.a.now) (sym c.self.view_is) c.requires.first in
    let second : IsAtomOf known c.args.b.now = subst (λ k. IsAtomOf k c.args.b.now) (sym c.self.view_is) c.requires.second in
    let gave : option_map (λ (v : Vec Symbol Global). v.items) c.in_ok-symbols_equated.field-0 ≡ Some c.in-Some.symbols.items = ap (option_map (λ (v : Vec Symbol Global). v.items)) c.in-Some.is in
    let is : Some c.in-Some.symbols.items ≡ symbols_equated known.framing known.symbols known.differences c.args.a.now c.args.b.now =
    cc (gave, c.in_ok-symbols_equated.ensures, c.deref.ensures.value, c.deref-2.ensures.value) in
    subst (λ (old : Known). IsNarrowedTo old (record known { symbols = c.in-Some.symbols.items }) (λ texts. text_of texts c.args.a.now ≡ text_of texts c.args.b.now)) c.self.view_is
    ((equated_as known c.self.invariant c.args.a.now c.args.b.now first second (Some c.in-Some.symbols.items) is).1)
