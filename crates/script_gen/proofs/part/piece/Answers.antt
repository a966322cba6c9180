use Rattle.std.proofs.Common.{◌≡◌, rules, replicate, sym, subst, ◌∙◌, ap, length, arith}
use Rattle.std.proofs.lemmas.List.{length-replicate}
use Rattle.std.specs.Prelude.{slice_index_or}
use Rattle.exchange_text.specs.Actions.{MayStandIn}
use Rattle.script_gen.specs.Ready.{IsSite}
use Rattle.script_gen.proofs.LiteralBytes.{zeros_stand}
use Rattle.script_gen.proofs.ReadyPlans.{item_of_all}
use Rattle.script_gen.proofs.part.piece.Goals as goal

pub returns-clause-fits : goal.returns-clause-fits
returns-clause-fits c =
    let site = slice_index_or c.args.sites.now c.draw.result (record { start = 0; len = 0 }) in
    let is_site : IsSite site = item_of_all IsSite c.args.sites.now c.draw.result (record { start = 0; len = 0 }) c.draw.ensures.below c.requires.sites in
    let zeros : c.from_vec.result ≡ replicate site.len 48 = search rules in
    λ framing. (
      record {
        one_receipt = omega arith;
        receipt_within = omega (arith, c.draw-2.ensures.below, c.requires.few_sent);
        start_within = is_site.start_within;
        one_byte = is_site.one_byte;
        length_within = is_site.length_within;
        filled = ap length zeros ∙ length-replicate site.len 48;
      },
      subst (MayStandIn framing) (sym zeros) (zeros_stand framing site.len),
    )
