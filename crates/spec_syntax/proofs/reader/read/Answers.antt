use Rattle.std.proofs.Common.{◌≡◌, sym, ◌∙◌, ap, subst}
use Rattle.spec_syntax.specs.declared.reader.ReadRefusal.TheVariants as refusals
use Rattle.spec_syntax.specs.Readable.{IsReadable}
use Rattle.spec_syntax.proofs.OneReading.{built_of, one_tree}
use Rattle.spec_syntax.proofs.reader.read.Goals as goal

pub returns-in-Err-Syntax-clause-only : goal.returns-in-Err-Syntax-clause-only
returns-in-Err-Syntax-clause-only c =
    λ spec readable. absurd (cc (c.in-Err-Syntax.ensures.only spec readable.spells readable.within_braces, c.in-Err-Syntax.field-0-is))

pub returns-in-Err-Syntax-clause-only_refused : goal.returns-in-Err-Syntax-clause-only_refused
returns-in-Err-Syntax-clause-only_refused c =
    λ at short refused.
    let told = rw c.in-Err-Syntax.field-0-is at (c.in-Err-Syntax.ensures.only_refused at refused) in
    let same : c.in-Err-Syntax.at ≡ at = cc told in
    ap refusals.Syntax (c.in-Err-Syntax.at-is ∙ same)

-- the tokens of a text are those of a tree, which is built
pub unreachable-requires : goal.unreachable-requires
unreachable-requires c =
    let found = c.in-Ok.ensures.found in
    let tree = built_of found.spec found.spells.tokens c.deref.result.now c.in_ok-spec.field-0 (found.found ∙ sym c.deref.ensures.value) found.spells.fits
    (rw c.deref.ensures.value found.within) c.in_ok-spec.ensures in
    cc (tree, c.in-None.is)

pub returns-clause-spelled : goal.returns-clause-spelled
returns-clause-spelled c =
    let found = c.in-Ok.ensures.found in
    let tree = built_of found.spec found.spells.tokens c.deref.result.now c.in_ok-spec.field-0 (found.found ∙ sym c.deref.ensures.value) found.spells.fits
    (rw c.deref.ensures.value found.within) c.in_ok-spec.ensures in
    let same : found.spec ≡ c.in-Some.spec = cc (tree, c.in-Some.is) in
    let readable : IsReadable c.args.text.now found.spec = record {
      spells = found.spells;
      within_braces = rw found.found found.within;
      within_length = c.if-text-gt-GREATEST_LENGTH.false;
    } in
    subst (IsReadable c.args.text.now) same readable

pub returns-clause-only : goal.returns-clause-only
returns-clause-only c = λ spec readable. one_tree c.args.text.now c.in-Some.spec spec (returns-clause-spelled c) readable
