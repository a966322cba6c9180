-- How far a skeleton that explains a longer exchange goes on before a receipt, and what then explains the receipt.
use Rattle.std.proofs.Common.{◌≡◌, ℕ, ◌+◌, ◌-◌, ◌<◌, ◌≤◌, ◌⊎◌, inl, inr, List, [], ◌∷◌, ◌++◌, length, take, drop, refl, sym, ap, ◌∙◌, subst, append_assoc, append-nil, arith, length-append, Option, Some, None}
use Rattle.std.proofs.lemmas.Bool.{cases_lt}
use Rattle.std.proofs.lemmas.List.{append_cancel_left, map-append, take-append-drop, take-append-le, take-map, take-take, length-take-le, length-map}
use Rattle.std.proofs.Math.Seq.{take-add, take-append_seam}
use Rattle.std.proofs.lemmas.List.Elements.{filter_map-append}
use Rattle.spec_model.specs.declared.event.ClientEvent.{ClientEvent}
use Rattle.spec_model.specs.declared.event.ClientEvent.TheVariants as clients
use Rattle.spec_model.specs.declared.event.Mark.{Mark}
use Rattle.spec_model.specs.declared.event.Mark.TheVariants.{Send}
use Rattle.spec_model.specs.declared.event.ServerEvent.{ServerEvent}
use Rattle.spec_model.specs.declared.event.ServerEvent.TheVariants as servers
use Rattle.spec_model.specs.declared.tree.Spec.{Spec}
use Rattle.spec_model.specs.Alike.{RunWith, SkeletonExplains}
use Rattle.spec_model.specs.Layout.{IsKept, IsPending, MovesUpTo, LaysOutLate, RunExplains}
use Rattle.spec_model.specs.Least.{IsKeptSkeleton, KeptRun}
use Rattle.spec_model.specs.Run.{IsRun}
use Rattle.spec_model.specs.Skeleton.{mark_of, sends_in, skeleton_of}
use Rattle.spec_model.specs.World.{client_receipts, client_sends, server_sends, server_takes, sent_by_server, IsPrefixOf}
use Rattle.spec_model.proofs.Built.{Built, built, start, then}
use Rattle.spec_model.proofs.KeptRuns.{Arranges-receipts, Arranges-takes, kept_front, kept_after_receipt}
use Rattle.spec_model.proofs.KeptSkeletons.{none_begins_another}
use Rattle.spec_model.proofs.LegalWorlds.{IsLegal-receipt, legal_beginning}
use Rattle.spec_model.proofs.PassedMessages.{client_receipts-push_same, send_from_sent}
use Rattle.spec_model.proofs.Prefix.{IsPrefixOf-append, IsPrefixOf-compared, IsPrefixOf-trans, length-IsPrefixOf, same_from_IsPrefixOf}
use Rattle.spec_model.proofs.RunSteps.{run_front}
use Rattle.spec_model.proofs.Skeletons.{InParts, explains_front, run_before_receipt, run_with_front, sends_counted, sends_in-append}
use Rattle.hypothesis.specs.Along.{SendsBehind}
use Rattle.hypothesis.specs.Received.{with_receipt}
use Rattle.hypothesis.proofs.LateBlocks.{lays_move, lays_wait}

-- what a skeleton of a kept run explains
pub explains_from_kept : {spec : Spec} {exchange : List ClientEvent} {skeleton : List Mark} → IsKeptSkeleton spec exchange skeleton
    → SkeletonExplains spec exchange skeleton
explains_from_kept known =
    let order = known.kept.kept in
    (known.events, record { has = known.has; explains = record { run = known.kept.run; world = order.world; arranged = order.arranged } })

-- Of two skeletons of kept runs with which a list begins, neither is longer.
same_beginning : (exchange : List ClientEvent) (events others : List ServerEvent) (whole : List Mark) → IsKept exchange events → IsKept exchange others
    → IsPrefixOf (skeleton_of events) whole → IsPrefixOf (skeleton_of others) whole → skeleton_of events ≡ skeleton_of others
same_beginning exchange events others whole kept other_kept begins other_begins = by_length (cases_lt (length (skeleton_of events)) (length (skeleton_of others)))
  where
    shorter : (a b : List ServerEvent) → IsKept exchange a → IsKept exchange b → IsPrefixOf (skeleton_of a) whole → IsPrefixOf (skeleton_of b) whole
        → length (skeleton_of a) ≤ length (skeleton_of b) → skeleton_of a ≡ skeleton_of b
    shorter a b a_kept b_kept a_begins b_begins le =
        let (more, longer) = IsPrefixOf-compared _ _ whole a_begins b_begins le in
        let none = none_begins_another exchange a b more a_kept b_kept longer in
        sym (longer ∙ ap (λ rest. skeleton_of a ++ rest) none ∙ append-nil (skeleton_of a))

    by_length : (length (skeleton_of events) < length (skeleton_of others)) ⊎ (length (skeleton_of others) ≤ length (skeleton_of events))
        → skeleton_of events ≡ skeleton_of others
    by_length (inl less) = shorter events others kept other_kept begins other_begins (omega arith)
    by_length (inr more) = sym (shorter others events other_kept kept other_begins begins more)

-- A kept skeleton that begins with another one of the same exchange is that one.
pub all_made : (spec : Spec) (exchange : List ClientEvent) (skeleton more : List Mark) → IsKeptSkeleton spec exchange skeleton
    → IsKeptSkeleton spec exchange (skeleton ++ more) → more ≡ []
all_made spec exchange skeleton more known whole =
    none_begins_another exchange known.events whole.events more known.kept.kept whole.kept.kept (whole.has ∙ ap (λ front. front ++ more) (sym known.has))

-- The first of the marks up to the send, and that they lead to a short run that explains the receipt.
pub record GoesUpTo (spec : Spec) (exchange : List ClientEvent) (conn : ℕ) (message : List ℕ) (skeleton marks : List Mark) : Type 0 where
  pub count : ℕ
  pub sends : SendsBehind spec exchange conn message skeleton marks count
  pub kept : IsKeptSkeleton spec (with_receipt exchange conn message) (skeleton ++ take count marks)

-- A short run that explains the receipt too, with which a longer run begins.
pub record Front (spec : Spec) (exchange : List ClientEvent) (events : List ServerEvent) : Type 0 where
  pub front : List ServerEvent
  pub kept : IsKept exchange front
  pub run : IsRun spec front
  pub rest : List ServerEvent
  pub whole : events ≡ front ++ rest

pub front_of : (spec : Spec) (exchange more : List ClientEvent) (events : List ServerEvent) → KeptRun spec (exchange ++ more) events → Front spec exchange events
front_of spec exchange more events known =
    let order = known.kept in
    let beginning = legal_beginning (length exchange) order.world order.arranged.legal in
    let clients_are = beginning.clients ∙ ap (take (length exchange)) order.arranged.clients ∙ take-append_seam exchange more in
    let begun = kept_front (record { legal = beginning.legal; clients = clients_are; server = refl }) in
    let (rest, whole) = IsPrefixOf-trans _ _ _ begun.begins beginning.begins in
    let is : events ≡ begun.front ++ rest = sym order.arranged.server ∙ whole in
    record { front = begun.front; kept = begun.kept; run = run_front spec begun.front rest (subst (IsRun spec) is known.run); rest = rest; whole = is }

module _ (spec : Spec) (exchange : List ClientEvent) (conn : ℕ) (message : List ℕ) (skeleton marks : List Mark) where
  -- The skeleton goes on to the short run that explains the receipt.
  goes_with : (known : IsKeptSkeleton spec exchange skeleton) (events : List ServerEvent) → skeleton_of events ≡ skeleton ++ marks
      → (begun : Front spec (with_receipt exchange conn message) events)
      → IsPending exchange begun.front conn message ⊎ MovesUpTo exchange begun.front conn message
      → GoesUpTo spec exchange conn message skeleton marks
  goes_with known events has begun way = by_way way
    where
      parts : skeleton ++ marks ≡ skeleton_of begun.front ++ skeleton_of begun.rest
      parts = sym has ∙ ap skeleton_of begun.whole ∙ map-append mark_of begun.front begun.rest

      known_begins : IsPrefixOf (skeleton_of known.events) (skeleton ++ marks)
      known_begins = subst (λ front. IsPrefixOf front (skeleton ++ marks)) (sym known.has) (IsPrefixOf-append skeleton marks)

      reached : (count : ℕ) → skeleton_of begun.front ≡ skeleton ++ take count marks → IsKeptSkeleton spec (with_receipt exchange conn message) (skeleton ++ take count marks)
      reached count is = record { events = begun.front; has = is; kept = record { kept = begun.kept; run = begun.run } }

      by_way : IsPending exchange begun.front conn message ⊎ MovesUpTo exchange begun.front conn message → GoesUpTo spec exchange conn message skeleton marks
      by_way (inl pending) =
          let same = same_beginning exchange begun.front known.events (skeleton ++ marks) pending.kept known.kept.kept (skeleton_of begun.rest, parts) known_begins in
          let kept = reached 0 (same ∙ known.has ∙ sym (append-nil skeleton)) in
          record {
            count = 0;
            sends = record { within = omega arith; explains = explains_from_kept kept; before = λ fewer less. absurd (omega arith) };
            kept = kept;
          }
      by_way (inr moves) =
          let send = servers.Send conn message in
          let move = moves.block ++ send ∷ [] in
          let front_is : skeleton_of begun.front ≡ skeleton_of moves.before ++ skeleton_of move
          = ap skeleton_of moves.whole ∙ map-append mark_of moves.before move in
          let before_begins : IsPrefixOf (skeleton_of moves.before) (skeleton ++ marks)
          = (skeleton_of move ++ skeleton_of begun.rest, parts ∙ ap (λ front. front ++ skeleton_of begun.rest) front_is ∙ append_assoc (skeleton_of moves.before) (skeleton_of move) (skeleton_of begun.rest)) in
          let same : skeleton_of moves.before ≡ skeleton
          = same_beginning exchange moves.before known.events (skeleton ++ marks) moves.kept known.kept.kept before_begins known_begins ∙ known.has in
          let marks_are : marks ≡ skeleton_of move ++ skeleton_of begun.rest
          = append_cancel_left skeleton _ _ (before_begins.1 ∙ ap (λ front. front ++ (skeleton_of move ++ skeleton_of begun.rest)) same) in
          let count = length (skeleton_of move) in
          let taken : take count marks ≡ skeleton_of move = ap (take count) marks_are ∙ take-append_seam (skeleton_of move) (skeleton_of begun.rest) in
          let kept = reached count (front_is ∙ ap (λ front. front ++ skeleton_of move) same ∙ ap (λ made. skeleton ++ made) (sym taken)) in
          let block_is : marks ≡ skeleton_of moves.block ++ (Send conn ∷ skeleton_of begun.rest)
          = marks_are ∙ ap (λ front. front ++ skeleton_of begun.rest) (map-append mark_of moves.block (send ∷ [])) ∙ append_assoc (skeleton_of moves.block) (Send conn ∷ []) (skeleton_of begun.rest) in
          let counted : count ≡ length (skeleton_of moves.block) + 1
          = ap length (map-append mark_of moves.block (send ∷ [])) ∙ length-append (skeleton_of moves.block) (Send conn ∷ []) in
          let sent : sends_in conn skeleton ≡ length (client_receipts conn exchange)
          = ap (sends_in conn) (sym same) ∙ sends_counted conn moves.before ∙ moves.all_received in
          let before : (fewer : ℕ) → fewer < count → sends_in conn (skeleton ++ take fewer marks) ≡ length (client_receipts conn exchange)
          = λ fewer less.
          let made : take fewer marks ≡ skeleton_of (take fewer moves.block)
          = ap (take fewer) block_is ∙ take-append-le fewer (skeleton_of moves.block) _ (omega (arith, counted)) ∙ take-map mark_of fewer moves.block in
          let none : length (server_sends conn (take fewer moves.block)) ≡ 0 = none_in_front fewer moves.block moves.no_other_send in
          let more = ap (sends_in conn) made ∙ sends_counted conn (take fewer moves.block) in
          omega (arith, sends_in-append conn skeleton (take fewer marks), sent, more, none) in
          record {
            count = count;
            sends = record { within = omega (arith, ap length marks_are, length-append (skeleton_of move) (skeleton_of begun.rest)); explains = explains_from_kept kept; before = before };
            kept = kept;
          }
        where
          none_in_front : (fewer : ℕ) (block : List ServerEvent) → server_sends conn block ≡ [] → length (server_sends conn (take fewer block)) ≡ 0
          none_in_front fewer block none =
              let joined = ap (server_sends conn) (take-append-drop fewer block) in
              let parts = filter_map-append (sent_by_server conn) (take fewer block) (drop fewer block) in
              omega (arith, ap length joined, ap length parts, ap length none, length-append (server_sends conn (take fewer block)) (server_sends conn (drop fewer block)))

  -- A skeleton that explains a longer exchange goes on, before a receipt, up to the send of what is received.
  pub goes_up_to : (more : List ClientEvent) → IsKeptSkeleton spec exchange skeleton
      → IsKeptSkeleton spec (exchange ++ clients.Receives conn message ∷ more) (skeleton ++ marks) → GoesUpTo spec exchange conn message skeleton marks
  goes_up_to more known whole =
      let longer : exchange ++ clients.Receives conn message ∷ more ≡ with_receipt exchange conn message ++ more
      = sym (append_assoc exchange (clients.Receives conn message ∷ []) more) in
      let begun = front_of spec (with_receipt exchange conn message) more whole.events (subst (λ exchange. KeptRun spec exchange whole.events) longer whole.kept) in
      goes_with known whole.events whole.has begun ((kept_after_receipt exchange conn message begun.front).0 begun.kept)

  -- Up to the send the marks explain what came before the receipt.
  pub part_explains : (count : ℕ) → SkeletonExplains spec exchange skeleton → SendsBehind spec exchange conn message skeleton marks count
      → (fewer : ℕ) → fewer ≤ count → SkeletonExplains spec exchange (skeleton ++ take fewer marks)
  part_explains count (others, other) sends fewer le =
      let (events, after) = sends.explains in
      let run = run_before_receipt spec exchange conn message (skeleton ++ take count marks) events after in
      let front = skeleton ++ take fewer marks in
      let back = take (count - fewer) (drop fewer marks) in
      let whole : skeleton_of events ≡ front ++ back
      = run.has ∙ ap (λ number. skeleton ++ take number marks) (split count fewer le) ∙ ap (λ made. skeleton ++ made) (take-add fewer (count - fewer) marks)
      ∙ sym (append_assoc skeleton (take fewer marks) back) in
      let place = length front in
      let has : skeleton_of (take place events) ≡ front = sym (take-map mark_of place events) ∙ ap (take place) whole ∙ take-append_seam front back in
      let covered : (other_conn : ℕ) → length (client_receipts other_conn exchange) ≤ length (server_sends other_conn (take place events))
      = λ other_conn.
      let received = length-IsPrefixOf _ _ (Arranges-receipts other.explains.arranged other_conn) in
      let sent = sym (sends_counted other_conn others) ∙ ap (sends_in other_conn) other.has in
      let made = sym (sends_counted other_conn (take place events)) ∙ ap (sends_in other_conn) has ∙ sends_in-append other_conn skeleton (take fewer marks) in
      omega (arith, received, sent, made) in (
        take place events,
        record {
          has = has;
          explains = explains_front spec exchange (take place events) (drop place events) (subst (RunExplains spec exchange) (sym (take-append-drop place events)) run.explains) covered;
        },
      )
    where
      split : (count fewer : ℕ) → fewer ≤ count → count ≡ fewer + (count - fewer)
      split count fewer le = omega arith

  -- What the client receives next is the last that is sent: the last event is the send of it.
  last_is_send : (front : List ServerEvent) (last : ServerEvent) → length (server_sends conn front) ≡ length (client_receipts conn exchange)
      → IsPrefixOf (client_receipts conn exchange ++ message ∷ []) (server_sends conn (front ++ last ∷ [])) → last ≡ servers.Send conn message
  last_is_send front last sent next =
      let received = client_receipts conn exchange in
      let parts = filter_map-append (sent_by_server conn) front (last ∷ []) in
      let begins : IsPrefixOf received (server_sends conn front ++ server_sends conn (last ∷ []))
      = subst (IsPrefixOf received) parts (IsPrefixOf-trans _ _ _ (IsPrefixOf-append received (message ∷ [])) next) in
      let within = IsPrefixOf-compared _ _ _ begins (IsPrefixOf-append (server_sends conn front) (server_sends conn (last ∷ []))) (omega (arith, sent)) in
      let same : received ≡ server_sends conn front = same_from_IsPrefixOf _ _ within (omega (arith, sent)) in
      let sent_last : server_sends conn (last ∷ []) ≡ message ∷ next.0
      = append_cancel_left received _ _ (ap (λ front. front ++ server_sends conn (last ∷ [])) same ∙ sym parts ∙ next.1 ∙ append_assoc received (message ∷ []) next.0) in
      by_sent (sent_by_server conn last) refl sent_last
    where
      by_sent : (sent : Option (List ℕ)) → sent_by_server conn last ≡ sent → {more : List (List ℕ)} → server_sends conn (last ∷ []) ≡ message ∷ more → last ≡ servers.Send conn message
      by_sent (Some text) is {more} whole =
          let shown : text ∷ [] ≡ message ∷ more = rw is at whole in
          send_from_sent conn last message (cc)
      by_sent None is {more} whole =
          let shown : [] ≡ message ∷ more = rw is at whole in
          absurd (cc)

  -- The counts that lay the runs of a skeleton out late lay those of the skeleton with the marks out late, with one count more.
  pub late_after_receipt : (count : ℕ) (counts : List ℕ) → SkeletonExplains spec exchange skeleton → SendsBehind spec exchange conn message skeleton marks count
      → ((events : List ServerEvent) → RunWith spec exchange skeleton events → LaysOutLate exchange counts events)
      → (events : List ServerEvent) → RunWith spec (with_receipt exchange conn message) (skeleton ++ take count marks) events
      → LaysOutLate (with_receipt exchange conn message) (counts ++ count ∷ []) events
  late_after_receipt count counts explained sends late events after = by_back parts.back (built parts.back) parts.whole parts.rest
    where
      run : RunWith spec exchange (skeleton ++ take count marks) events
      run = run_before_receipt spec exchange conn message (skeleton ++ take count marks) events after

      parts : InParts spec exchange skeleton (take count marks) events
      parts = run_with_front spec exchange skeleton (take count marks) events run explained

      next : IsPrefixOf (client_receipts conn exchange ++ message ∷ []) (server_sends conn events)
      next = subst (λ received. IsPrefixOf received (server_sends conn events)) (client_receipts-push_same conn exchange message) (Arranges-receipts after.explains.arranged conn)

      counted : length (take count marks) ≡ count
      counted = length-take-le count marks sends.within

      laid_out_with : {others : List ServerEvent} {number : ℕ} → events ≡ others → count ≡ number
          → LaysOutLate (with_receipt exchange conn message) (counts ++ number ∷ []) others
          → LaysOutLate (with_receipt exchange conn message) (counts ++ count ∷ []) events
      laid_out_with {others} {number} same counted known =
          subst (λ events. LaysOutLate (with_receipt exchange conn message) (counts ++ count ∷ []) events) (sym same)
          (subst (λ count. LaysOutLate (with_receipt exchange conn message) (counts ++ count ∷ []) others) (sym counted) known)

      by_back : (back : List ServerEvent) → Built back → events ≡ parts.front ++ back → skeleton_of back ≡ take count marks
          → LaysOutLate (with_receipt exchange conn message) (counts ++ count ∷ []) events
      by_back back start whole rest =
          let same : events ≡ parts.front = whole ∙ append-nil parts.front in
          let none : count ≡ 0 = sym counted ∙ ap length (sym rest) in
          let known = late parts.front parts.run in
          let received = subst (λ events. IsPrefixOf (client_receipts conn exchange ++ message ∷ []) (server_sends conn events)) same next in
          let legal = IsLegal-receipt conn message known.arranged.legal (rw (known.arranged.clients, known.arranged.server) received) in
          laid_out_with same none (lays_wait (clients.Receives conn message) known legal)
      by_back back (then block last before) whole rest =
          let known = late parts.front parts.run in
          let marked : skeleton_of block ++ mark_of last ∷ [] ≡ take count marks = sym (map-append mark_of block (last ∷ [])) ∙ rest in
          let long : length (skeleton_of block) + 1 ≡ count = sym (length-append (skeleton_of block) (mark_of last ∷ [])) ∙ ap length marked ∙ counted in
          let block_is : take (length (skeleton_of block)) marks ≡ skeleton_of block
          = sym (take-take (length (skeleton_of block)) count marks (omega (arith, long))) ∙ ap (take (length (skeleton_of block))) (sym marked) ∙ take-append_seam (skeleton_of block) (mark_of last ∷ []) in
          let sent : length (server_sends conn (parts.front ++ block)) ≡ length (client_receipts conn exchange)
          = sym (sends_counted conn (parts.front ++ block)) ∙ ap (sends_in conn) (map-append mark_of parts.front block ∙ ap (λ front. front ++ skeleton_of block) parts.run.has ∙ ap (λ made. skeleton ++ made) (sym block_is))
          ∙ sends.before (length (skeleton_of block)) (omega (arith, long)) in
          let regrouped : events ≡ (parts.front ++ block) ++ last ∷ [] = whole ∙ sym (append_assoc parts.front block (last ∷ [])) in
          let last_is : last ≡ servers.Send conn message
          = last_is_send (parts.front ++ block) last sent (subst (λ events. IsPrefixOf (client_receipts conn exchange ++ message ∷ []) (server_sends conn events)) regrouped next) in
          let move = block ++ servers.Send conn message ∷ [] in
          let whole_is : events ≡ parts.front ++ move = whole ∙ ap (λ event. parts.front ++ (block ++ event ∷ [])) last_is in
          let count_is : count ≡ length move = omega (arith, long, length-append block (servers.Send conn message ∷ []), length-map block mark_of) in
          let taken : (other : ℕ) → IsPrefixOf (server_takes other (parts.front ++ move)) (client_sends other exchange)
          = λ other. subst (λ events. IsPrefixOf (server_takes other events) (client_sends other exchange)) whole_is (Arranges-takes run.explains.arranged other) in
          laid_out_with whole_is count_is (lays_move block conn message known sent taken)
