-- The world of the run that picks the least texts is the least one with its skeleton.
use Rattle.std.proofs.Common.{◌≡◌, ℕ, List, sym, ◌∙◌, ap, subst}
use Rattle.spec_model.specs.declared.event.ClientEvent.{ClientEvent}
use Rattle.spec_model.specs.declared.event.Mark.{Mark}
use Rattle.spec_model.specs.declared.event.ServerEvent.{ServerEvent}
use Rattle.spec_model.specs.declared.event.WorldEvent.{WorldEvent}
use Rattle.spec_model.specs.declared.tree.Spec.{Spec}
use Rattle.spec_model.specs.Alike.{RunWith}
use Rattle.spec_model.specs.Layout.{LaysOutLate, laid_out}
use Rattle.spec_model.specs.Least.{IsLeastWorld}
use Rattle.spec_model.specs.Order.{AreTextsUpTo}
use Rattle.spec_model.specs.Run.{IsRun}
use Rattle.spec_model.specs.Skeleton.{picks_of, skeleton_of}
use Rattle.constraint_set.specs.Known.{IsSolution}
use Rattle.dual_tree.specs.Dual.{DualFields}
use Rattle.hypothesis.specs.declared.course.Along.{Along}
use Rattle.hypothesis.specs.Along.{GoesAlong}
use Rattle.explain_replay.specs.Explain.{RunPicking}

-- A skeleton, followed along the dual of a specification.
module _ (dual : DualFields) (spec : Spec) (same : dual.spec ≡ spec) (exchange : List ClientEvent) (skeleton : List Mark) (along : Along) (goes : GoesAlong dual exchange skeleton along) where
  -- a run picks the texts of each solution
  pub some_run : (texts : List (List ℕ)) → IsSolution along.end.facts texts → (events : List ServerEvent) × RunPicking spec exchange skeleton texts events
  some_run texts solution =
      let picked = goes.stands.picked texts solution in
      (picked.0, record { run = subst (λ spec. RunWith spec exchange skeleton picked.0) same picked.1; picks = picked.2 })

  pub lays_out : (texts : List (List ℕ)) (events : List ServerEvent) → RunPicking spec exchange skeleton texts events → LaysOutLate exchange along.blocks.items events
  lays_out texts events picking = goes.late events (subst (λ spec. RunWith spec exchange skeleton events) (sym same) picking.run)

  pub is_least : (texts : List (List ℕ)) (events : List ServerEvent) (world : List WorldEvent)
      → ((others : List (List ℕ)) → IsSolution along.end.facts others → AreTextsUpTo texts others) → RunPicking spec exchange skeleton texts events
      → world ≡ laid_out exchange along.blocks.items events → IsLeastWorld spec exchange skeleton world
  is_least texts events world least picking is =
      let late = lays_out texts events picking in
      let done = late.arranged.server in
      subst (IsLeastWorld spec exchange skeleton) (sym is) (record {
        explains = record { legal = late.arranged.legal; clients = late.arranged.clients; run = subst (IsRun spec) (sym done) picking.run.explains.run };
        has = ap skeleton_of done ∙ picking.run.has;
        picks = λ others run.
            let solved = goes.stands.solved others (subst (λ spec. RunWith spec exchange skeleton others) (sym same) run) in
            rw (done, picking.picks) (least (picks_of others) solved);
        late = late.late;
      })
