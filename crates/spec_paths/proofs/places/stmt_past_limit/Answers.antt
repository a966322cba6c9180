use Rattle.std.proofs.Common.{◌≤◌, length, sym, arith}
use Rattle.std.proofs.lemmas.Option.{slice_get_past}
use Rattle.spec_rules.specs.Bad.{places_in_start, stmt_places}
use Rattle.spec_paths.proofs.places.stmt_past_limit.Goals as goal

pub returns-in-Behind : goal.returns-in-Behind
returns-in-Behind c =
    let fewer : length (stmt_places c.args.spec.now) ≤ 1024 = omega (arith, c.in-Behind.ensures (places_in_start c.args.spec.now.start) 1024 c.seek_in_start.ensures) in
    sym (slice_get_past (stmt_places c.args.spec.now) 1024 fewer)
