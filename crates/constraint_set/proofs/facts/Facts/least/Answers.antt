use Rattle.std.proofs.Common.{◌≡◌, sym, subst, List, ℕ}
use Rattle.constraint_set.specs.Known.{Known, IsSolution}
use Rattle.constraint_set.specs.Least.{least_texts}
use Rattle.spec_model.specs.Order.{AreTextsUpTo}
use Rattle.constraint_set.proofs.Equalities.{solvable}
use Rattle.constraint_set.proofs.LeastOfAll.{least_of_all}
use Rattle.constraint_set.proofs.LeastSolution.{least_solves}
use Rattle.constraint_set.proofs.facts.Facts.least.Goals as goal

pub returns-clause-solution : goal.returns-clause-solution
returns-clause-solution c =
    let known : Known = record { framing = c.self.inside.framing; room = c.self.inside.room; asked = c.self.inside.asked; symbols = c.self.inside.symbols.items; differences = c.self.inside.differences.items } in
    let is : c.in_ok-texts.texts.items ≡ least_texts known = cc (c.in_ok-texts.ensures, c.deref.ensures.value, c.deref-2.ensures.value) in
    subst (λ (old : Known). IsSolution old c.in_ok-texts.texts.items) c.self.view_is
    (subst (λ texts. IsSolution known texts) (sym is) (least_solves known (solvable known c.self.invariant)))

pub returns-clause-least : goal.returns-clause-least
returns-clause-least c =
    let known : Known = record { framing = c.self.inside.framing; room = c.self.inside.room; asked = c.self.inside.asked; symbols = c.self.inside.symbols.items; differences = c.self.inside.differences.items } in
    let is : c.in_ok-texts.texts.items ≡ least_texts known = cc (c.in_ok-texts.ensures, c.deref.ensures.value, c.deref-2.ensures.value) in
    subst (λ (old : Known). (others : List (List ℕ)) → IsSolution old others → AreTextsUpTo c.in_ok-texts.texts.items others) c.self.view_is
    (subst (λ texts. (others : List (List ℕ)) → IsSolution known others → AreTextsUpTo texts others) (sym is) (least_of_all known (solvable known c.self.invariant)))
