-- How a skeleton is followed over one event more.
use Rattle.std.proofs.Common.{◌≡◌, ℕ, ◌+◌, ◌<◌, ◌≤◌, ◌⊎◌, inl, inr, List, [], ◌∷◌, ◌++◌, length, take, drop, slice_index_or, Some, None, sym, ap, ◌∙◌, subst, append_assoc, arith, length-drop}
use Rattle.std.proofs.lemmas.Bool.{cases_eq}
use Rattle.std.proofs.lemmas.List.{get_or-set_same, get_or-set_other, take-append-drop}
use Rattle.std.proofs.Math.Seq.{take-add}
use Rattle.spec_model.specs.declared.event.ClientEvent.{ClientEvent}
use Rattle.spec_model.specs.declared.event.ClientEvent.TheVariants as clients
use Rattle.spec_model.specs.declared.event.Mark.{Mark}
use Rattle.spec_model.specs.declared.event.ServerEvent.{ServerEvent}
use Rattle.spec_model.specs.Alike.{RunWith}
use Rattle.spec_model.specs.Config.{with_item_at}
use Rattle.spec_model.specs.Layout.{LaysOutLate}
use Rattle.spec_model.specs.Least.{IsKeptSkeleton}
use Rattle.spec_model.specs.World.{client_sends}
use Rattle.spec_model.proofs.KeptRuns.{kept_after_send, none_kept_after_garbles}
use Rattle.spec_model.proofs.LegalWorlds.{IsLegal-client_send}
use Rattle.spec_model.proofs.PassedMessages.{client_sends-push_other, client_sends-push_receipt, client_sends-push_same}
use Rattle.spec_model.proofs.Skeletons.{run_with_sends}
use Rattle.dual_tree.specs.Dual.{DualFields, IsDual}
use Rattle.hypothesis.specs.declared.along.Reached.{Reached}
use Rattle.hypothesis.specs.declared.along.Way.{Way}
use Rattle.hypothesis.specs.Along.{FollowsOn, GoesAlong, IsAt, ReachesReceipt}
use Rattle.hypothesis.specs.Expansions.{HoldsSends}
use Rattle.hypothesis.specs.Received.{with_receipt}
use Rattle.hypothesis.specs.Stands.{StandsFor}
use Rattle.hypothesis.proofs.AlikeSkeletons.{stands_waits}
use Rattle.hypothesis.proofs.LateBlocks.{lays_wait}
use Rattle.hypothesis.proofs.ReachedReceipts.{front_of, goes_up_to, late_after_receipt}

-- an inbox holds one message more, where a client sent it
holds_sent : (exchange : List ClientEvent) (conns : ℕ) (inbox : List (List (List ℕ))) (conn : ℕ) (message : List ℕ) → conn < length inbox
    → HoldsSends exchange conns inbox → HoldsSends (exchange ++ clients.Sends conn message ∷ []) conns (with_item_at inbox conn message)
holds_sent exchange conns inbox conn message within holds other below = by_conn (cases_eq conn other)
  where
    by_conn : (conn ≡ other) ⊎ (conn ≡ other → ⊥)
        → slice_index_or (with_item_at inbox conn message) other [] ≡ client_sends other (exchange ++ clients.Sends conn message ∷ [])
    by_conn (inl same) =
        let put = get_or-set_same inbox conn (slice_index_or inbox conn [] ++ message ∷ []) [] within in
        let held : slice_index_or inbox conn [] ≡ client_sends conn exchange = holds conn (subst (λ number. number < conns) (sym same) below) in
        subst (λ number. slice_index_or (with_item_at inbox conn message) number [] ≡ client_sends number (exchange ++ clients.Sends conn message ∷ [])) same
        (put ∙ ap (λ front. front ++ message ∷ []) held ∙ sym (client_sends-push_same conn exchange message))
    by_conn (inr apart) =
        get_or-set_other inbox conn other (slice_index_or inbox conn [] ++ message ∷ []) [] (λ same. apart (sym same))
        ∙ holds other below ∙ sym (client_sends-push_other other conn exchange message apart)

holds_received : (exchange : List ClientEvent) (conns : ℕ) (inbox : List (List (List ℕ))) (conn : ℕ) (message : List ℕ)
    → HoldsSends exchange conns inbox → HoldsSends (with_receipt exchange conn message) conns inbox
holds_received exchange conns inbox conn message holds other below = holds other below ∙ sym (client_sends-push_receipt other conn exchange message)

module _ (dual : DualFields) (mirrors : IsDual dual) (skeleton : List Mark) (way : Way) where
  -- A send of a client is waited for.
  pub follows_send : (conn : ℕ) (message : List ℕ) (inbox new_inbox : List (List (List ℕ))) (next : Way) → conn < length inbox
      → new_inbox ≡ with_item_at inbox conn message → next.made ≡ way.made → next.along.end ≡ way.along.end
      → next.along.blocks.items ≡ way.along.blocks.items ++ 0 ∷ []
      → FollowsOn dual skeleton (clients.Sends conn message) inbox new_inbox way (Some next)
  follows_send conn message inbox new_inbox next within put same_made same_end blocks exchange more picks_nothing holds at kept =
      let event = clients.Sends conn message in
      let longer = exchange ++ event ∷ [] in
      let front = take way.made skeleton in
      let goes : GoesAlong dual exchange front way.along = at.goes in
      let stands : StandsFor dual longer front next.along.end
      = subst (StandsFor dual longer front) (sym same_end) (stands_waits dual mirrors exchange conn message front way.along.end goes.stands) in
      let late : (events : List ServerEvent) → RunWith dual.spec longer front events → LaysOutLate longer next.along.blocks.items events
      = λ events run.
      let known = goes.late events (run_with_sends dual.spec exchange conn message front events goes.stands.explains run) in
      subst (λ counts. LaysOutLate longer counts events) (sym blocks) (lays_wait event known (IsLegal-client_send conn message known.arranged.legal)) in
      let front_kept = at.kept in
      let still : IsKeptSkeleton dual.spec longer front
      = record {
        events = front_kept.events;
        has = front_kept.has;
        kept = record { kept = (kept_after_send exchange conn message front_kept.events).1 front_kept.kept.kept; run = front_kept.kept.run };
      } in (
        subst (HoldsSends longer dual.shape.conns) (sym put) (holds_sent exchange dual.shape.conns inbox conn message within holds),
        is_at longer next front same_made at.within still (record { stands = stands; late = late }),
      )
    where
      is_at : (exchange : List ClientEvent) (next : Way) (front : List Mark) → next.made ≡ way.made → way.made ≤ length skeleton
          → IsKeptSkeleton dual.spec exchange (take way.made skeleton) → GoesAlong dual exchange (take way.made skeleton) next.along
          → IsAt dual exchange skeleton next
      is_at exchange next front same within kept goes = record {
        within = subst (λ made. made ≤ length skeleton) (sym same) within;
        kept = subst (λ made. IsKeptSkeleton dual.spec exchange (take made skeleton)) (sym same) kept;
        goes = subst (λ made. GoesAlong dual exchange (take made skeleton) next.along) (sym same) goes;
      }

  -- where the longer exchange is explained by a short run with the skeleton, it is by one with what was made and what is left
  whole_kept : (exchange : List ClientEvent) → IsKeptSkeleton dual.spec exchange skeleton
      → IsKeptSkeleton dual.spec exchange (take way.made skeleton ++ drop way.made skeleton)
  whole_kept exchange kept = subst (IsKeptSkeleton dual.spec exchange) (sym (take-append-drop way.made skeleton)) kept

  -- Before a receipt the marks are made that lead to it.
  pub follows_receipt : (conn : ℕ) (message : List ℕ) (inbox : List (List (List ℕ))) (reached : Reached) (next : Way)
      → ReachesReceipt dual inbox way.along.end (drop way.made skeleton) conn message (Some reached)
      → next.made ≡ way.made + reached.count → next.along.end ≡ reached.end
      → next.along.blocks.items ≡ way.along.blocks.items ++ reached.count ∷ []
      → FollowsOn dual skeleton (clients.Receives conn message) inbox inbox way (Some next)
  follows_receipt conn message inbox reached next reaches made_is end_is blocks exchange more picks_nothing holds at kept =
      let front = take way.made skeleton in
      let marks = drop way.made skeleton in
      let longer = with_receipt exchange conn message in
      let goes : GoesAlong dual exchange front way.along = at.goes in
      let up = goes_up_to dual.spec exchange conn message front marks more at.kept (whole_kept (exchange ++ clients.Receives conn message ∷ more) kept) in
      let (counted, standing) = reaches exchange front up.count picks_nothing holds goes.stands up.sends in
      let made : next.made ≡ way.made + up.count = made_is ∙ ap (λ count. way.made + count) counted in
      let front_is : take next.made skeleton ≡ front ++ take up.count marks = ap (λ number. take number skeleton) made ∙ take-add way.made up.count skeleton in
      let stands : StandsFor dual longer (front ++ take up.count marks) next.along.end = subst (StandsFor dual longer (front ++ take up.count marks)) (sym end_is) standing in
      let blocks_are : next.along.blocks.items ≡ way.along.blocks.items ++ up.count ∷ [] = blocks ∙ ap (λ count. way.along.blocks.items ++ count ∷ []) counted in
      let late : (events : List ServerEvent) → RunWith dual.spec longer (front ++ take up.count marks) events → LaysOutLate longer next.along.blocks.items events
      = λ events run. subst (λ counts. LaysOutLate longer counts events) (sym blocks_are)
      (late_after_receipt dual.spec exchange conn message front marks up.count way.along.blocks.items goes.stands.explains up.sends goes.late events run) in
      let within : next.made ≤ length skeleton = omega (arith, made, up.sends.within, length-drop way.made skeleton, at.within) in
      let goes_on : GoesAlong dual longer (front ++ take up.count marks) next.along = record { stands = stands; late = late } in (
        holds_received exchange dual.shape.conns inbox conn message holds,
        record {
          within = within;
          kept = subst (IsKeptSkeleton dual.spec longer) (sym front_is) up.kept;
          goes = subst (λ made. GoesAlong dual longer made next.along) (sym front_is) goes_on;
        },
      )

  pub receipt_is_reached : (conn : ℕ) (message : List ℕ) (inbox : List (List (List ℕ)))
      → ReachesReceipt dual inbox way.along.end (drop way.made skeleton) conn message None
      → FollowsOn dual skeleton (clients.Receives conn message) inbox inbox way None
  receipt_is_reached conn message inbox reaches exchange more picks_nothing holds at kept =
      let up = goes_up_to dual.spec exchange conn message (take way.made skeleton) (drop way.made skeleton) more at.kept
      (whole_kept (exchange ++ clients.Receives conn message ∷ more) kept) in
      absurd (reaches exchange (take way.made skeleton) up.count picks_nothing holds at.goes.stands up.sends)

-- Garbled bytes are explained by nothing.
pub follows_garbles : (dual : DualFields) (skeleton : List Mark) (way : Way) (conn : ℕ) (inbox : List (List (List ℕ)))
    → FollowsOn dual skeleton (clients.Garbles conn) inbox inbox way None
follows_garbles dual skeleton way conn inbox exchange more picks_nothing holds at kept =
    let longer : exchange ++ clients.Garbles conn ∷ more ≡ (exchange ++ clients.Garbles conn ∷ []) ++ more
    = sym (append_assoc exchange (clients.Garbles conn ∷ []) more) in
    let whole = subst (λ exchange. IsKeptSkeleton dual.spec exchange skeleton) longer kept in
    let begun = front_of dual.spec (exchange ++ clients.Garbles conn ∷ []) more whole.events whole.kept in
    absurd (none_kept_after_garbles exchange conn begun.front begun.kept)
