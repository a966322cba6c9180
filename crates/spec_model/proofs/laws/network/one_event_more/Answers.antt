use Rattle.spec_model.proofs.KeptRuns.{kept_of_nothing, kept_after_send, kept_after_receipt, none_kept_after_garbles}
use Rattle.spec_model.proofs.laws.network.one_event_more.Goals as goal

pub returns-clause-nothing : goal.returns-clause-nothing
returns-clause-nothing c = kept_of_nothing

pub returns-clause-sends : goal.returns-clause-sends
returns-clause-sends c = kept_after_send

pub returns-clause-receives : goal.returns-clause-receives
returns-clause-receives c = kept_after_receipt

pub returns-clause-garbles : goal.returns-clause-garbles
returns-clause-garbles c = none_kept_after_garbles
