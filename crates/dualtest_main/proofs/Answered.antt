-- What is due to words, and what is answered.
use Rattle.std.proofs.Common.{◌≡◌, ℕ, List, [], Option, Some, None, Result, Ok, Err, IfOk, refl, sym, ap}
use Rattle.std.proofs.lemmas.List.{append-nil}
use Rattle.dt_ports.specs.Told.{told_with}
use Rattle.dt_ports.specs.declared.files.FileCounts.{FileCounts}
use Rattle.dt_ports.specs.Files.{one_read_more}
use Rattle.spec_model.specs.declared.event.ClientEvent.{ClientEvent}
use Rattle.spec_model.specs.declared.tree.Spec.{Spec}
use Rattle.dualtest_main.specs.declared.answer.Answer.{Answer}
use Rattle.dualtest_main.specs.declared.stop.Stop.{Stop}
use Rattle.dualtest_main.specs.Outcome.{AsksToJudge, IsDue, IsJudgement, ToldFiles, judged}
use Rattle.dualtest_main.specs.Report.{notice_of, status_of}

-- an answer that says why a command ended early is due where the command ends so
pub stop_is_due : {E : Type 0} (told : ToldFiles) (words : List (List ℕ)) (old new : FileCounts) (stop : Stop) → IsDue told words old new (status_of stop) (notice_of stop)
    → (result : Result Answer E) → IfOk result (λ answer. (answer.status ≡ status_of stop) × (answer.report.items ≡ notice_of stop))
    → IfOk result (λ answer. IsDue told words old new answer.status answer.report.items)
stop_is_due told words old new stop due (Ok answer) says = rw (says.0, says.1) due
stop_is_due told words old new stop due (Err error) says = tt

-- an answer that judges is due
pub judgement_is_due : {E : Type 0} (told : ToldFiles) (words : List (List ℕ)) (old : FileCounts) (spec : Spec) (exchange : List ClientEvent) → AsksToJudge told words spec exchange
    → (result : Result Answer E) → IfOk result (λ answer. IsJudgement spec exchange answer.status answer.report.items)
    → IfOk result (λ answer. IsDue told words old (one_read_more (one_read_more old)) answer.status answer.report.items)
judgement_is_due told words old spec exchange asks (Ok answer) says = judged spec exchange asks says
judgement_is_due told words old spec exchange asks (Err error) says = tt

-- what holds of an answer to these words holds of it to any words of which they are
pub if_answered : {E : Type 0} (result : Result Answer E) (P : Answer → Type 0) (Q : Answer → Type 0) → ((answer : Answer) → P answer → Q answer) → IfOk result P → IfOk result Q
if_answered (Ok answer) P Q leads holds = leads answer holds
if_answered (Err error) P Q leads holds = tt

-- with no bytes more a sink tells what it told
pub told_with_nothing : (told : Option (List ℕ)) → told ≡ told_with [] told
told_with_nothing None = refl
told_with_nothing (Some bytes) = ap Some (sym (append-nil bytes))
