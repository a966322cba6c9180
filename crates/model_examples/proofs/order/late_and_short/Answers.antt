use Rattle.std.proofs.Common.{◌≡◌, inl, inr, ◌∷◌, [], codes, refl}
use Rattle.std.proofs.lemmas.List.{same_from_push}
use Rattle.spec_model.specs.declared.event.ServerEvent.TheVariants as servers
use Rattle.spec_model.specs.declared.event.WorldEvent.TheVariants.{Client}
use Rattle.spec_model.specs.Layout.{empty, waits, moves}
use Rattle.model_examples.specs.Events.{receives, send, sends, take}
use Rattle.model_examples.proofs.Trees.{trees}
use Rattle.model_examples.proofs.order.late_and_short.Goals as goal

pub returns-clause-late : goal.returns-clause-late
unfolding trees
returns-clause-late c =
    let sent = waits (Client (sends 0 "a") ∷ []) (sends 1 "b") (waits [] (sends 0 "a") empty) in
    waits _ (receives 0 "a") (moves (Client (sends 0 "a") ∷ Client (sends 1 "b") ∷ []) (take 0 "a" ∷ send 0 "a" ∷ take 1 "b" ∷ []) 1 (codes "b") sent refl)

pub returns-clause-short : goal.returns-clause-short
unfolding trees
returns-clause-short c =
    inr (record { before = take 0 "a" ∷ send 0 "a" ∷ take 1 "b" ∷ []; conn = 1; message = codes "b"; ends = refl; received = refl })

pub returns-clause-not_short : goal.returns-clause-not_short
unfolding trees
returns-clause-not_short c (inl none) = absurd (cc (none))
returns-clause-not_short c (inr ends) =
    let last : send 0 "a" ≡ servers.Send ends.conn ends.message = (same_from_push (take 0 "a" ∷ []) ends.before (send 0 "a") _ ends.ends).1 in
    let conn_is : 0 ≡ ends.conn = cc (last) in
    let received : 1 ≡ 0 = rw (← conn_is) at ends.received in
    absurd (cc (received))
