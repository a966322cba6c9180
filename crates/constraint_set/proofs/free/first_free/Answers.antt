use Rattle.std.proofs.Common.{◌≡◌, true, sym, ◌∙◌, ap, arith, length}
use Rattle.constraint_set.specs.Characters.{text_numbered}
use Rattle.constraint_set.specs.Free.{is_taken}
use Rattle.constraint_set.proofs.FreeTexts.{free_from_next}
use Rattle.constraint_set.proofs.free.first_free.Goals as goal

-- the text of this number is taken
pub loop-number-preserved : goal.loop-number-preserved
loop-number-preserved c =
    let at = text_numbered c.args.framing c.args.alphabet c.args.len in
    let before = c.loop-number.invariant in
    let taken : is_taken c.args.taken.now (at c.loop-number.number) ≡ true = ap (is_taken c.args.taken.now) (sym c.in_ok-text.ensures) ∙ sym c.is_taken.ensures ∙ c.if-not-is_taken.false in
    before ∙ free_from_next at c.args.taken.now (length c.args.taken.now) c.loop-number.number (omega arith) taken
