use Rattle.std.proofs.Common.{sym, ◌∙◌, ap, option_map}
use Rattle.spec_model.specs.Run.{settled}
use Rattle.server_run.proofs.Settling.{continues-more, work_falls}
use Rattle.server_run.specs.State.{config_of}
use Rattle.server_run.proofs.silent.settled.Goals as goal

pub loop-now-smaller : goal.loop-now-smaller
loop-now-smaller c = work_falls c.args.spec.now (config_of c.loop-now.now) (config_of c.in-Some.next) c.requires (sym c.in_ok-next.ensures ∙ ap (option_map config_of) c.in-Some.is)

pub loop-now-preserved : goal.loop-now-preserved
loop-now-preserved c =
    continues-more c.args.spec.now (config_of c.args.state) (config_of c.loop-now.now) (config_of c.in-Some.next) c.loop-now.invariant (sym c.in_ok-next.ensures ∙ ap (option_map config_of) c.in-Some.is)

pub returns : goal.returns
returns c = c.loop-now.invariant (config_of c.loop-now.now) (settled (sym c.in_ok-next.ensures ∙ ap (option_map config_of) c.in_default.is))
