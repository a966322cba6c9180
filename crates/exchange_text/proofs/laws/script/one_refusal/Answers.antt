use Rattle.std.proofs.Common.{Ok, Err}
use Rattle.exchange_text.proofs.ScriptReading.{one_script_outcome}
use Rattle.exchange_text.proofs.laws.script.one_refusal.Goals as goal

pub returns-clause-one : goal.returns-clause-one
returns-clause-one c = λ shape text refusal other small is is'.
    let same = one_script_outcome shape small text (Err refusal) (Err other) is is' in
    cc

pub returns-clause-none : goal.returns-clause-none
returns-clause-none c = λ shape text script refusal small fits spells is.
    let same = one_script_outcome shape small text (Ok script) (Err refusal) (fits, spells) is in
    absurd (cc)
