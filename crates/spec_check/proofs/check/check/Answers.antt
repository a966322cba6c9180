use Rattle.spec_rules.proofs.Faults.{same_first}
use Rattle.spec_check.proofs.WholeSpec.{first_bad}
use Rattle.spec_check.proofs.check.check.Goals as goal

pub returns-in-Some-clause-only_refused : goal.returns-in-Some-clause-only_refused
returns-in-Some-clause-only_refused c =
    λ fault at is_first.
    let found = c.in-Some.found in
    let first = first_bad c.args.spec found (rw c.in-Some.is at c.in_ok-first_fault.ensures) in
    let same = same_first c.args.spec found.fault fault found.at at first is_first in
    let same_fault = same.0 in
    let same_at = same.1 in
    cc
