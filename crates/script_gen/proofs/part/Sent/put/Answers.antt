use Rattle.std.proofs.Common.{sym, subst}
use Rattle.std.proofs.lemmas.Result.{on_ok_weaker}
use Rattle.std.specs.List.{AllByRecursion}
use Rattle.exchange_text.specs.Actions.{IsPart, MayStandIn}
use Rattle.exchange_text.specs.declared.action.Part.TheVariants.{Lit}
use Rattle.exchange_text.proofs.Reading.{All-push}
use Rattle.script_gen.proofs.LiteralBytes.{cut_stands}
use Rattle.script_gen.proofs.part.Sent.put.Goals as goal

pub returns-in-Lit-clause-fits : goal.returns-in-Lit-clause-fits
returns-in-Lit-clause-fits c =
    on_ok_weaker c.push.result
    (λ pushed. λ framing part each. subst (AllByRecursion (IsPart framing)) (sym pushed)
    (All-push (IsPart framing) c.args.self.now.parts (Lit c.truncate.new.self) each
    (subst (MayStandIn framing) (sym c.truncate.ensures) (cut_stands framing c.args.self.now.room c.in-Lit.text (subst (IsPart framing) c.in-Lit.is part)))))
    c.push.ensures.ok
