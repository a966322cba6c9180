use Rattle.std.proofs.Common.{◌≡◌, [], ◌∷◌, ◌++◌, List, Some, Option, sym, ap, ◌∙◌, subst}
use Rattle.atomic_table.specs.Table.{opening}
use Rattle.turn_lock.specs.declared.view.Role.TheVariants.{First}
use Rattle.turn_lock.specs.Views.{blank}
use Rattle.turn_lock.specs.Rule.{Rule}
use Rattle.turn_lock.proofs.Seating.{opens}
use Rattle.turn_lock.proofs.lock.TurnLock.open.Goals as goal

-- a list that got its first element
first_pushed : {A : Type 0} (old new : List A) (x : A) → old ≡ [] → new ≡ old ++ x ∷ [] → new ≡ x ∷ []
first_pushed {A} old new x none pushed = pushed ∙ ap (λ (l : List A). l ++ x ∷ []) none

pub new-requires : goal.new-requires
new-requires g c =
    let entries = g.V.Listed.entries in
    let fixed = g.V.Listed.fixed in
    let part = fixed c.of-about.result.value in
    let slots = first_pushed c.in_ok-slots.slots.items c.push_reserved.new.self.items (Some c.args.value) c.in_ok-slots.ensures.items c.push_reserved.ensures.items in
    subst (λ (l : List (Option g.row.V.Denot)). Rule entries fixed part (opening (0 ∷ []) l (blank First (Some part)))) (sym slots)
    (opens entries fixed part c.args.value (c.requires, ap fixed (sym c.of-about.ensures)))
