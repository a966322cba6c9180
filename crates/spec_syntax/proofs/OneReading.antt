-- A text is read in one way.
use Rattle.std.proofs.Common.{◌≡◌, ℕ, List, Option, Some, Ok, subst}
use Rattle.spec_model.specs.declared.token.Placed.{Placed}
use Rattle.spec_model.specs.declared.tree.Spec.{Spec}
use Rattle.spec_model.specs.Grammar.{Fits, pieces_of_spec}
use Rattle.spec_model.specs.Spelling.{IsRefusedAt, IsWithinBraces, greatest_open, is_left_out}
use Rattle.spec_build.proofs.WholeRead.{tree_built}
use Rattle.spec_scan.proofs.Law.{taken_whole}
use Rattle.spec_scan.proofs.OnePlace.{refusal_found}
use Rattle.spec_scan.specs.Scan.{first_state, scan}
use Rattle.spec_syntax.specs.Readable.{IsReadable}

-- the tokens of a text that is read
pub tokens_found : (text : List ℕ) (spec : Spec) (readable : IsReadable text spec) → scan greatest_open text 0 first_state ≡ Ok readable.spells.tokens
tokens_found text spec readable = taken_whole text spec readable.spells readable.within_braces

pub one_tree : (text : List ℕ) (spec other : Spec) → IsReadable text spec → IsReadable text other → spec ≡ other
one_tree text spec other one another =
    let tokens : one.spells.tokens ≡ another.spells.tokens = cc (tokens_found text spec one, tokens_found text other another) in
    let first = tree_built spec one.spells.tokens one.spells.fits one.within_braces in
    let second = tree_built other another.spells.tokens another.spells.fits another.within_braces in
    cc (first, second, tokens)

pub refused_not_read : (text : List ℕ) (place : ℕ) (spec : Spec) → IsRefusedAt text place → IsReadable text spec → ⊥
refused_not_read text place spec refused readable = absurd (cc (refusal_found text place refused, tokens_found text spec readable))

-- the tree of tokens that fit it is built
pub built_of : (spec : Spec) (tokens read : List Placed) (built : Option Spec) → tokens ≡ read → Fits (pieces_of_spec is_left_out spec) tokens → IsWithinBraces 0 read
    → ((tree : Spec) → Fits (pieces_of_spec is_left_out tree) read → IsWithinBraces 0 read → built ≡ Some tree) → built ≡ Some spec
built_of spec tokens read built same fits within builds = builds spec (subst (Fits (pieces_of_spec is_left_out spec)) same fits) within
