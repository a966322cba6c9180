-- The queues of a network, where one of them changes.
use Rattle.std.proofs.Common.{◌≡◌, ℕ, ◌<◌, List, length, map, get_or, slice_set, Result, Ok, Err, OnErr, sym, ◌∙◌, ap, arith}
use Rattle.std.proofs.Math.Seq.{map-set_same}
use Rattle.std.proofs.lemmas.List.{get_or-map, length-map, map-set}
use Rattle.net_world.specs.declared.sim_net.Queues.{Queues}
use Rattle.net_world.specs.declared.way.Way.TheVariants.{Up, Down}
use Rattle.net_world.specs.Net.{UnderWay, held, nothing, queue, with_queue}

-- what holds, holds where an error is answered
pub on_err : {A B : Type 0} (result : Result A B) (P : Type 0) → P → OnErr result P
on_err (Ok value) P holds = tt
on_err (Err error) P holds = holds

module _ (items : List Queues) (net : List UnderWay) (is : map held items ≡ net) (conn place : ℕ) (same : place ≡ conn) (low : conn < length net)
    (old new : Queues) (there : old ≡ get_or items place old) where
  -- the queues that stand there
  stands : get_or net conn nothing ≡ held old
  stands =
      let within : conn < length items = omega (arith, ap length is, length-map items held) in
      ap (λ list. get_or list conn nothing) (sym is) ∙ get_or-map held items conn old nothing within
      ∙ ap (λ n. held (get_or items n old)) (sym same) ∙ ap held (sym there)

  set_there : (changed : UnderWay) → held new ≡ changed → map held (slice_set items place new) ≡ slice_set net conn changed
  set_there changed holds =
      map-set held items place new ∙ ap (λ list. slice_set list place (held new)) is ∙ ap (λ n. slice_set net n (held new)) same ∙ ap (slice_set net conn) holds

  -- the queue of what goes up
  pub up-set : (change : List (List ℕ) → List (List ℕ)) → new.up.items ≡ change old.up.items → new.down.items ≡ old.down.items
      → map held (slice_set items place new) ≡ with_queue Up conn (change (queue Up conn net)) net
  up-set change up down =
      let make : UnderWay → UnderWay = λ under. record under { up = change under.up } in
      let first : held new ≡ make (held old) = cc in
      set_there (make (get_or net conn nothing)) (first ∙ ap make (sym stands))

  pub down-set : (change : List (List ℕ) → List (List ℕ)) → new.down.items ≡ change old.down.items → new.up.items ≡ old.up.items
      → map held (slice_set items place new) ≡ with_queue Down conn (change (queue Down conn net)) net
  down-set change down up =
      let make : UnderWay → UnderWay = λ under. record under { down = change under.down } in
      let first : held new ≡ make (held old) = cc in
      set_there (make (get_or net conn nothing)) (first ∙ ap make (sym stands))

  -- the queues stay where they hold what they held
  pub kept : held new ≡ held old → map held (slice_set items place new) ≡ net
  kept holds = map-set_same held items place new old (holds ∙ ap held there) ∙ is
