-- Of the skeletons of short runs that explain one exchange none is a proper beginning of another.
use Rattle.std.proofs.Common.{◌≡◌, ℕ, ◌+◌, ◌⊎◌, inl, inr, Bool, true, false, suc, List, [], ◌∷◌, ◌++◌, length, Option, Some, None, filter_map, nat_eq, refl, sym, ap, ◌∙◌, append_assoc, arith, length-append}
use Rattle.std.proofs.lemmas.List.{map-append, nil_from_length, same_from_push, length_push}
use Rattle.std.proofs.lemmas.List.Elements.{filter_map-append}
use Rattle.spec_model.specs.declared.event.ClientEvent.{ClientEvent}
use Rattle.spec_model.specs.declared.event.Mark.{Mark}
use Rattle.spec_model.specs.declared.event.Mark.TheVariants as marks
use Rattle.spec_model.specs.declared.event.ServerEvent.{ServerEvent}
use Rattle.spec_model.specs.declared.event.ServerEvent.TheVariants as servers
use Rattle.spec_model.specs.Layout.{EndsInReceived, IsKept}
use Rattle.spec_model.specs.Skeleton.{mark_of, sends_in, skeleton_of}
use Rattle.spec_model.specs.World.{on_conn, server_sends}
use Rattle.spec_model.proofs.Built.{Built, built, start, then}
use Rattle.spec_model.proofs.KeptRuns.{Arranges-receipts}
use Rattle.spec_model.proofs.PassedMessages.{filter_map-push_some, on_conn_same}
use Rattle.spec_model.proofs.Prefix.{length-IsPrefixOf}
use Rattle.spec_model.proofs.Skeletons.{sends_counted, sends_in-append, sends_in-push_same}

-- What ends in a send on the connection marks one there.
ends_marked : (conn : ℕ) (front before : List Mark) {more : List Mark} → Built more → front ++ more ≡ before ++ marks.Send conn ∷ [] → sends_in conn more ≡ 0 → more ≡ []
ends_marked conn front before start whole none = refl
ends_marked conn front before (then most last known) whole none =
    let last_is : last ≡ marks.Send conn = (same_from_push (front ++ most) before last (marks.Send conn) (append_assoc front most (last ∷ []) ∙ whole)).1 in
    let counted : sends_in conn (most ++ last ∷ []) ≡ sends_in conn most + 1 = rw last_is (sends_in-push_same conn most) in
    absurd (omega (arith, counted, none))

pub none_begins_another : (exchange : List ClientEvent) (events others : List ServerEvent) (more : List Mark) → IsKept exchange events → IsKept exchange others
    → skeleton_of others ≡ skeleton_of events ++ more → more ≡ []
none_begins_another exchange events others more kept other_kept whole = by_end other_kept.short
  where
    by_end : (others ≡ []) ⊎ EndsInReceived exchange others → more ≡ []
    by_end (inl none) =
        let longer : length (skeleton_of events ++ more) ≡ 0 = ap length (sym whole) ∙ ap (λ events. length (skeleton_of events)) none in
        nil_from_length more (omega (arith, longer, length-append (skeleton_of events) more))
    by_end (inr ends) =
        let conn = ends.conn in
        let received = length-IsPrefixOf _ _ (Arranges-receipts kept.arranged conn) in
        let counted : sends_in conn (skeleton_of events) + sends_in conn more ≡ length (server_sends conn others)
        = sym (sends_in-append conn (skeleton_of events) more) ∙ ap (sends_in conn) (sym whole) ∙ sends_counted conn others in
        let none_more : sends_in conn more ≡ 0 = omega (arith, received, counted, sends_counted conn events, ends.received) in
        let end : skeleton_of events ++ more ≡ skeleton_of ends.before ++ marks.Send conn ∷ []
        = sym whole ∙ ap skeleton_of ends.ends ∙ map-append mark_of ends.before (servers.Send conn ends.message ∷ []) in
        ends_marked conn (skeleton_of events) (skeleton_of ends.before) (built more) end none_more
