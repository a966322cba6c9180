use Rattle.std.proofs.Common.{inl, [], map, string_bytes, subst, refl}
use Rattle.dualtest_main.specs.declared.status.Status.TheVariants as statuses
use Rattle.dualtest_main.specs.Outcome.{IsDue, no_memory}
use Rattle.dualtest_main.proofs.Answered.{told_with_nothing}
use Rattle.dualtest_main.proofs.RightStatus.{judgement_due, one_due, replay_due, right_replay, right_status, script_due}
use Rattle.dualtest_main.proofs.top.offline.Goals as goal

pub returns-in_default-clause-answered : goal.returns-in_default-clause-answered
returns-in_default-clause-answered g c = record {
  due = statuses.Memory;
  report = [];
  is_due = no_memory c.in_default.ensures.memory;
  written = inl (refl, record { taken = told_with_nothing (g.S.Sink.taken c.args.sink.now); faults = refl });
  told = c.in_default.ensures.told;
}

pub returns-in-Ok-write_all-clause-headline : goal.returns-in-Ok-write_all-clause-headline
returns-in-Ok-write_all-clause-headline g c = λ files spec exchange told asks unhindered.
    let words = map string_bytes c.args.words.now in
    let answer = c.in-Ok.field-0 in
    let due = subst (λ t. IsDue t words (g.F.Files.counts c.args.files.now) (g.F.Files.counts c.due.new.files) answer.status answer.report.items) told c.in-Ok.ensures.due in
    let judgement = judgement_due files words _ _ answer.status answer.report.items spec exchange asks unhindered due in
    right_status spec exchange _ _ answer.status answer.report.items judgement (record {
      taken = cc (c.in-Ok-write_all.ensures.whole, c.deref.ensures.value);
      faults = c.in-Ok-write_all.ensures.counted;
    })

pub returns-in-Ok-write_all-clause-replayed : goal.returns-in-Ok-write_all-clause-replayed
returns-in-Ok-write_all-clause-replayed g c = λ files spec exchange world told asks unhindered.
    let words = map string_bytes c.args.words.now in
    let answer = c.in-Ok.field-0 in
    let due = subst (λ t. IsDue t words (g.F.Files.counts c.args.files.now) (g.F.Files.counts c.due.new.files) answer.status answer.report.items) told c.in-Ok.ensures.due in
    right_replay spec exchange world answer.status answer.report.items
    (replay_due files words _ _ answer.status answer.report.items spec exchange world asks unhindered due)

pub returns-in-Ok-write_all-clause-scripted : goal.returns-in-Ok-write_all-clause-scripted
returns-in-Ok-write_all-clause-scripted g c = λ files spec recipe told asks unhindered.
    let words = map string_bytes c.args.words.now in
    let answer = c.in-Ok.field-0 in
    let due = subst (λ t. IsDue t words (g.F.Files.counts c.args.files.now) (g.F.Files.counts c.due.new.files) answer.status answer.report.items) told c.in-Ok.ensures.due in
    let made = script_due files words _ _ answer.status answer.report.items spec recipe asks unhindered due in
    record { done = made.0; printed = cc (c.in-Ok-write_all.ensures.whole, c.deref.ensures.value, made.1) }

pub returns-in-Ok-write_all-clause-only : goal.returns-in-Ok-write_all-clause-only
returns-in-Ok-write_all-clause-only g c = λ files new other report told unhindered others due.
    let words = map string_bytes c.args.words.now in
    let answer = c.in-Ok.field-0 in
    let this = subst (λ t. IsDue t words (g.F.Files.counts c.args.files.now) (g.F.Files.counts c.due.new.files) answer.status answer.report.items) told c.in-Ok.ensures.due in
    let that = subst (λ t. IsDue t words (g.F.Files.counts c.args.files.now) new other report) told due in
    one_due files words _ _ new answer.status other answer.report.items report unhindered others this that
