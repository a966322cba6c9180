use Rattle.std.proofs.Common.{◌≡◌, [], ◌++◌, ◌∷◌, Some, sym, ◌∙◌}
use Rattle.trail_store.specs.Path.{path_at}
use Rattle.hypothesis_pool.proofs.Noting.{noted_now}
use Rattle.hypothesis_pool.proofs.search.note_mark.Goals as goal

pub returns-in_ok-note-in-Some-clause-noted : goal.returns-in_ok-note-in-Some-clause-noted
returns-in_ok-note-in-Some-clause-noted c =
    let marked : c.args.hypothesis.now.mark ≡ Some c.in-Some.field-0 = sym c.mark.ensures ∙ c.in-Some.is in
    rw (c.in_ok-note-in-Some.ensures.noted, c.in_ok-note-in-Some.ensures.pushed c.in-Some.field-0 marked)
    (noted_now c.args.trail.now c.args.hypothesis.now c.in-Some.field-0 marked)

pub returns-in_ok-note-in-Some-clause-trail : goal.returns-in_ok-note-in-Some-clause-trail
returns-in_ok-note-in-Some-clause-trail c =
    let marked : c.args.hypothesis.now.mark ≡ Some c.in-Some.field-0 = sym c.mark.ensures ∙ c.in-Some.is in
    ((path_at c.args.trail.now c.args.hypothesis.now.step ++ c.in-Some.field-0 ∷ []) ∷ [], c.in_ok-note-in-Some.ensures.pushed c.in-Some.field-0 marked)
