use Rattle.std.proofs.Common.{◌-◌, ◌∙◌, ap, arith}
use Rattle.constraint_set.specs.Form.{with_place}
use Rattle.constraint_set.proofs.Places.{no_places, place_more}
use Rattle.constraint_set.proofs.form.places_of.Goals as goal

pub loop-place-init : goal.loop-place-init
loop-place-init c = record { within = omega arith; places = no_places c.args.symbols.now c.args.roots.now c.in_ok-places.places.items _ (omega arith) c.in_ok-places.ensures }

pub loop-place-preserved : goal.loop-place-preserved
loop-place-preserved c =
    let within = c.loop-place.invariant.within in
    record {
      within = omega arith;
      places = place_more c.args.symbols.now c.args.roots.now c.loop-place.place c.loop-place.places.items c.put_place.new.places.items c.index-roots-place.result c.loop-place.invariant.places
          (omega arith) (omega arith) c.index-roots-place.is (c.put_place.ensures ∙ ap (λ atom. with_place c.loop-place.places.items atom (c.loop-place.place - 1)) c.resolved.ensures);
    }
