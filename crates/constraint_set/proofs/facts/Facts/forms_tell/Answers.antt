use Rattle.std.proofs.Common.{◌≡◌, ◌<◌, ◌^◌, subst, arith, length, slice_get, List, Some, ℕ}
use Rattle.constraint_set.specs.Known.{Known, IsAtomOf}
use Rattle.constraint_set.specs.Solved.{IsSolved}
use Rattle.constraint_set.specs.declared.atom.Atom.{Atom}
use Rattle.constraint_set.proofs.Equalities.{solvable}
use Rattle.constraint_set.proofs.FormBack.{IsRooted}
use Rattle.constraint_set.proofs.FormLaw.{forms_tell}
use Rattle.constraint_set.proofs.facts.Facts.forms_tell.Goals as goal

rooted : (known : Known) (roots : List Atom) → IsSolved known → ((place : ℕ) (root : Atom) → slice_get roots place ≡ Some root → IsAtomOf known root) → length roots < 2 ^ 64 → IsRooted known roots
rooted known roots solved atoms short = record { solved = solved; seen = record { solvable = solvable known solved; atoms = atoms; short = short } }

pub returns : goal.returns
returns c =
    let one : IsSolved c.args.self.now = subst IsSolved c.self.view_is c.self.invariant in
    let two : IsSolved c.args.other.now = subst IsSolved c.other.view_is c.other.invariant in
    let short : length c.args.roots.now < 2 ^ 64 = omega (arith, c.count_of-first.ensures) in
    let other_short : length c.args.other_roots.now < 2 ^ 64 = omega (arith, c.count_of-second.ensures) in
    λ form other_form is other_is. forms_tell c.args.self.now c.args.roots.now c.args.other.now c.args.other_roots.now form other_form
    (rooted c.args.self.now c.args.roots.now one c.requires.roots short) (rooted c.args.other.now c.args.other_roots.now two c.requires.other_roots other_short)
    c.requires.framing c.requires.room is other_is
