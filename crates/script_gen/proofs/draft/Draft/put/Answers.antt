use Rattle.std.proofs.Common.{◌≡◌, ◌∙◌, ap, sym, arith}
use Rattle.script_gen.specs.Tallies.{tally_behind, tally_of}
use Rattle.script_gen.proofs.TalliedConns.{tallied_more}
use Rattle.script_gen.proofs.draft.Draft.put.Goals as goal

pub invariant_of-self-2 : goal.invariant_of-self-2
invariant_of-self-2 c =
    let script = c.self.inside.script in
    let is : c.behind-tally.result ≡ tally_behind (tally_of script.actions c.args.conn) c.args.action =
    c.behind-tally.ensures ∙ ap (λ tally. tally_behind tally c.args.action) (c.tally.ensures ∙ ap (λ script. tally_of script.actions c.args.conn) (sym c.self.view_is)) in
    rw (c.in_ok-push.ensures.ok, c.set.ensures, c.from.ensures)
    (tallied_more script.conns c.args.conn script.actions c.args.action c.self.inside.tallies c.behind-tally.result (omega (arith, c.requires.there, ap (λ script. script.conns) c.self.view_is)) c.self.invariant is)
