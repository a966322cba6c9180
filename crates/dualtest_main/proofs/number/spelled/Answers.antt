use Rattle.std.proofs.Common.{rules, ◌≡◌, ap, sym, ◌∙◌, decimal}
use Rattle.std.proofs.lemmas.Fmt.{parse-decimal}
use Rattle.dualtest_main.proofs.number.spelled.Goals as goal

pub returns-in_default-clause-none : goal.returns-in_default-clause-none
returns-in_default-clause-none c = λ number small spells.
    let parsed = parse-decimal 64 number c.args.word.now c.parse.result small small spells c.parse.ensures.value.0 in
    let failed = c.in_default.is in
    cc

pub returns-then-eq-clause-one : goal.returns-then-eq-clause-one
returns-then-eq-clause-one c = λ other small spells.
    let parsed = parse-decimal 64 other c.args.word.now c.parse.result small small spells c.parse.ensures.value.0 in
    let is = c.in-Ok.is in
    cc

pub returns-else-eq-clause-none : goal.returns-else-eq-clause-none
returns-else-eq-clause-none c = λ number small spells.
    let parsed = parse-decimal 64 number c.args.word.now c.parse.result small small spells c.parse.ensures.value.0 in
    let is = c.in-Ok.is in
    let same : number ≡ c.in-Ok.number = cc in
    let written : c.format.result.now ≡ c.args.word.now = c.format.ensures.text ∙ ap decimal (sym same) ∙ sym spells in
    search (rules, written)
