use Rattle.std.proofs.Common.{refl}
use Rattle.spec_check.proofs.Firsts.{earlier_second}
use Rattle.spec_check.proofs.found.earlier.Goals as goal

pub returns-then-is_before : goal.returns-then-is_before
returns-then-is_before c =
    let both = earlier_second c.in-Some-Some.one c.in-Some-Some.other (c.if-is_before.ensures.0 refl) in
    rw (c.in-Some-Some.is-0, c.in-Some-Some.is-1) both
