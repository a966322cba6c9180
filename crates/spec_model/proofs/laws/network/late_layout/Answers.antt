use Rattle.spec_model.proofs.LateLayout as layouts
use Rattle.spec_model.proofs.laws.network.late_layout.Goals as goal

pub returns : goal.returns
returns c world legal =
    let late = layouts.late_layout world legal in
    (late.layout, late.legal, late.late, late.clients, late.begins, late.short)
