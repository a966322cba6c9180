use Rattle.dualtest_main.specs.declared.reading.TheConstants.{WORLD_LIMIT}
use Rattle.dualtest_main.specs.Outcome.{WorldStops, Holds}
use Rattle.dualtest_main.proofs.FileStops.{error_leads, stops_at_fault, stops_at_text}
use Rattle.dualtest_main.proofs.reading.read_world_events.Goals as goal

pub returns-in-Err-clause-stops : goal.returns-in-Err-clause-stops
returns-in-Err-clause-stops g c =
    let told = g.F.Files.told c.args.files.now in
    let old = g.F.Files.counts c.args.files.now in
    rw (c.in-Err.ensures.counted, c.stop_of.ensures)
    (stops_at_fault told c.args.name.now WORLD_LIMIT (WorldStops c.args.shape.now) 3 old c.in-Err.fault c.in-Err.ensures.fault)

pub returns-in-Ok-clause-stops : goal.returns-in-Ok-clause-stops
returns-in-Ok-clause-stops g c =
    let told = g.F.Files.told c.args.files.now in
    let old = g.F.Files.counts c.args.files.now in
    let text = c.in-Ok.text.items in
    let held : Holds told c.args.name.now WORLD_LIMIT text = record { within = c.in-Ok.ensures.within; as_told = c.in-Ok.ensures.bytes } in
    rw c.in-Ok.ensures.counted
    (error_leads c.world_of.result c.world_of.ensures.stops (λ stop at_text. stops_at_text told c.args.name.now WORLD_LIMIT (WorldStops c.args.shape.now) 3 old text held stop (rw (← c.deref.ensures.value) at_text)))
