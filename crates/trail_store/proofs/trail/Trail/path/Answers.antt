use Rattle.std.proofs.Common.{◌≡◌, ◌+◌, ◌-◌, ◌<◌, ◌++◌, ◌∷◌, [], length, reverse, sym, refl, ap, ◌∙◌, append_assoc, append-nil, arith}
use Rattle.std.proofs.lemmas.List.{reverse-append}
use Rattle.std.proofs.lemmas.Option.{slice_get_read}
use Rattle.trail_store.specs.Path.{path_at}
use Rattle.trail_store.specs.Steps.{paths_of}
use Rattle.trail_store.proofs.PathsOfSteps.{length-paths_of, path_at-first, path_at-step}
use Rattle.trail_store.proofs.trail.Trail.path.Goals as goal

pub loop-number-init : goal.loop-number-init
loop-number-init c =
    let paths : paths_of c.self.inside.steps.items ≡ c.args.self.now = c.self.view_is in
    record {
      there = omega (arith, length-paths_of c.self.inside.steps.items, ap length paths);
      end = rw c.new-marks.ensures.items (sym (append-nil _));
    }

pub loop-number-smaller : goal.loop-number-smaller
loop-number-smaller c =
    let steps = c.self.inside.steps.items in
    let place = c.loop-number.number - 1 in
    let within : place < length steps = omega (arith, c.loop-number.invariant.there) in
    let before = c.self.invariant.earlier place _ (slice_get_read steps (length steps) place c.index-step.result.now refl within c.index-step.ensures) in
    omega (arith, before)

pub loop-number-preserved : goal.loop-number-preserved
loop-number-preserved c =
    let steps = c.self.inside.steps.items in
    let place = c.loop-number.number - 1 in
    let step = c.index-step.result.now in
    let within : place < length steps = omega (arith, c.loop-number.invariant.there) in
    let there = slice_get_read steps (length steps) place step refl within c.index-step.ensures in
    let before = c.self.invariant.earlier place step there in
    let above : place + 1 ≡ c.loop-number.number = omega arith in
    let its_path : path_at (paths_of steps) c.loop-number.number ≡ path_at (paths_of steps) step.parent ++ step.mark ∷ [] =
    ap (path_at (paths_of steps)) (sym above) ∙ path_at-step steps place step there before in
    record {
      there = omega (arith, before);
      end = rw (c.in_ok-push.ensures.items, reverse-append, ← append_assoc) (c.loop-number.invariant.end ∙ ap (λ front. front ++ reverse c.loop-number.marks.items) its_path);
    }

pub returns : goal.returns
returns c =
    let steps = c.self.inside.steps.items in
    let paths : paths_of steps ≡ c.args.self.now = c.self.view_is in
    let at_first : c.loop-number.number ≡ 0 = omega arith in
    let nothing_before : path_at (paths_of steps) c.loop-number.number ≡ [] = ap (path_at (paths_of steps)) at_first ∙ path_at-first steps in
    let whole = c.loop-number.invariant.end ∙ ap (λ front. front ++ reverse c.loop-number.marks.items) nothing_before in
    c.from_vec.ensures ∙ c.reverse.ensures.items ∙ sym whole ∙ ap (λ all. path_at all c.args.step) paths
