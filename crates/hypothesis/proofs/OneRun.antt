-- A skeleton has one run that explains an exchange, where nothing is picked.
use Rattle.std.proofs.Common.{◌≡◌, ℕ, List, [], ◌∷◌, ◌++◌, length, Some, slice_get, bytes_eq, ◌&&◌, ◌==◌, refl, sym, ◌∙◌, ap, subst, append_assoc}
use Rattle.std.proofs.lemmas.Slice.Eq.{bytes_eq-Decides}
use Rattle.std.specs.List.{AllByRecursion, concat}
use Rattle.spec_model.specs.declared.config.Config.{Config}
use Rattle.spec_model.specs.declared.config.Task.{Task}
use Rattle.spec_model.specs.declared.config.Task.TheVariants.{Do, Forget}
use Rattle.spec_model.specs.declared.event.ClientEvent.{ClientEvent}
use Rattle.spec_model.specs.declared.event.ServerEvent.{ServerEvent}
use Rattle.spec_model.specs.declared.event.ServerEvent.TheVariants as servers
use Rattle.spec_model.specs.declared.tree.Expr.{Expr}
use Rattle.spec_model.specs.declared.tree.Kind.TheOpen.{Send}
use Rattle.spec_model.specs.declared.tree.Spec.{Spec}
use Rattle.spec_model.specs.declared.tree.Stmt.{Stmt}
use Rattle.spec_model.specs.Config.{StmtKind, kind_of}
use Rattle.spec_model.specs.Layout.{RunExplains}
use Rattle.spec_model.specs.Message.{may_pass}
use Rattle.spec_model.specs.Run.{Steps}
use Rattle.spec_model.specs.Skeleton.{mark_of, skeleton_of}
use Rattle.spec_model.specs.Step.{after_event, after_event_at, after_send, after_stmt, parts_sent}
use Rattle.spec_model.specs.Value.{number_of}
use Rattle.spec_model.specs.World.{IsPrefixOf, client_sends, server_takes, taken_by_server}
use Rattle.spec_model.proofs.KeptRuns.{Arranges-takes}
use Rattle.spec_model.proofs.Partial.{bind_gave, both_passed, only_if_gave}
use Rattle.spec_model.proofs.PassedMessages.{server_takes-push_same}
use Rattle.spec_model.proofs.Prefix.{IsPrefixOf-filter_map, IsPrefixOf-trans, item_after_prefix}
use Rattle.spec_model.proofs.RunSteps.{runs_to_once, runs_to_split}
use Rattle.hypothesis.proofs.PickRuns.{IsPick}

-- what a server sends is what its statement says
abbrev parts_joined : Config → List Expr → List ℕ → Type 0
parts_joined c parts message = (pieces : List (List ℕ)) × (parts_sent c parts ≡ Some pieces) × (message ≡ concat pieces)

stmt_sends : (spec : Spec) (c : Config) (rest : List Task) (stmt : Stmt) (passed : ℕ) (named : Expr) (parts : List Expr) (conn : ℕ) (message : List ℕ) (d : Config)
    → after_stmt spec c rest stmt passed (Send named parts) (servers.Send conn message) ≡ Some d → parts_joined c parts message
stmt_sends spec c rest stmt passed named parts conn message d gave =
    let number = bind_gave (number_of c named) _ d gave in
    let pieces = bind_gave (parts_sent c parts) _ d number.2 in
    let passes = only_if_gave _ (Some (after_send c rest conn pieces.0)) d pieces.2 in
    let first = both_passed ((number.0 == conn) && bytes_eq message (concat pieces.0)) (may_pass spec.shape conn message) passes.0 in
    let same = both_passed (number.0 == conn) (bytes_eq message (concat pieces.0)) first.0 in
    (pieces.0, pieces.1, (bytes_eq-Decides message (concat pieces.0)).0 same.1)

one_message : (c : Config) (parts : List Expr) (message other : List ℕ) → parts_joined c parts message → parts_joined c parts other → message ≡ other
one_message c parts message other (pieces, is, joined) (others, are, also_joined) =
    let same : Some pieces ≡ Some others = sym is ∙ are in
    let pieces_same : pieces ≡ others = cc in
    joined ∙ ap concat pieces_same ∙ sym also_joined

sends_once : (spec : Spec) (c : Config) (rest : List Task) (stmt : Stmt) (passed : ℕ) (kind : StmtKind) (conn : ℕ) (message other : List ℕ) (d e : Config)
    → after_stmt spec c rest stmt passed kind (servers.Send conn message) ≡ Some d → after_stmt spec c rest stmt passed kind (servers.Send conn other) ≡ Some e → message ≡ other
sends_once spec c rest stmt passed (Send named parts) conn message other d e first second =
    one_message c parts message other (stmt_sends spec c rest stmt passed named parts conn message d first) (stmt_sends spec c rest stmt passed named parts conn other e second)
sends_once spec c rest stmt passed _ conn message other d e first second = absurd (cc)

sends_once_at : (spec : Spec) (c : Config) (todo : List Task) (conn : ℕ) (message other : List ℕ) (d e : Config)
    → after_event_at spec c todo (servers.Send conn message) ≡ Some d → after_event_at spec c todo (servers.Send conn other) ≡ Some e → message ≡ other
sends_once_at spec c [] conn message other d e first second = absurd (cc)
sends_once_at spec c (Forget count ∷ rest) conn message other d e first second = absurd (cc)
sends_once_at spec c (Do stmt passed ∷ rest) conn message other d e first second = sends_once spec c rest stmt passed (kind_of stmt) conn message other d e first second

module _ (spec : Spec) (exchange : List ClientEvent) where
  -- what was taken at a place of a run that explains the exchange is what was sent there
  taken_is_sent : (front rest : List ServerEvent) (conn : ℕ) (message : List ℕ) → RunExplains spec exchange (front ++ servers.Take conn message ∷ rest)
      → slice_get (client_sends conn exchange) (length (server_takes conn front)) ≡ Some message
  taken_is_sent front rest conn message explains =
      let whole : front ++ servers.Take conn message ∷ rest ≡ (front ++ servers.Take conn message ∷ []) ++ rest = sym (append_assoc front (servers.Take conn message ∷ []) rest) in
      let begins : IsPrefixOf (server_takes conn (front ++ servers.Take conn message ∷ [])) (server_takes conn (front ++ servers.Take conn message ∷ rest))
      = IsPrefixOf-filter_map (taken_by_server conn) _ _ (rest, whole) in
      let prefix = IsPrefixOf-trans _ _ _ begins (Arranges-takes explains.arranged conn) in
      item_after_prefix (server_takes conn front) (client_sends conn exchange) message (rw (server_takes-push_same conn front message) at prefix)

  -- two events with one mark, after the same events, are one event
  same_event : (front : List ServerEvent) (one other : ServerEvent) (rest others : List ServerEvent) (c d e : Config) → mark_of one ≡ mark_of other → (IsPick one → ⊥)
      → RunExplains spec exchange (front ++ one ∷ rest) → RunExplains spec exchange (front ++ other ∷ others)
      → after_event spec c one ≡ Some d → after_event spec c other ≡ Some e → one ≡ other
  same_event front (servers.Take conn message) (servers.Take conn' message') rest others c d e same no_pick first second gave also_gave =
      let same_conn : conn ≡ conn' = cc in
      let second_here = subst (λ k. RunExplains spec exchange (front ++ servers.Take k message' ∷ others)) (sym same_conn) second in
      let is : Some message ≡ Some message' = sym (taken_is_sent front rest conn message first) ∙ taken_is_sent front others conn message' second_here in
      let same_message : message ≡ message' = cc in
      ap (λ k. servers.Take k message) same_conn ∙ ap (servers.Take conn') same_message
  same_event front (servers.Arm arm) (servers.Arm arm') rest others c d e same no_pick first second gave also_gave = let is : arm ≡ arm' = cc in ap servers.Arm is
  same_event front (servers.Test outcome) (servers.Test outcome') rest others c d e same no_pick first second gave also_gave = let is : outcome ≡ outcome' = cc in ap servers.Test is
  same_event front (servers.Send conn message) (servers.Send conn' message') rest others c d e same no_pick first second gave also_gave =
      let same_conn : conn ≡ conn' = cc in
      let also_here = subst (λ k. after_event spec c (servers.Send k message') ≡ Some e) (sym same_conn) also_gave in
      let same_message = sends_once_at spec c c.todo conn message message' d e gave also_here in
      ap (λ k. servers.Send k message) same_conn ∙ ap (servers.Send conn') same_message
  same_event front (servers.Pick text) other rest others c d e same no_pick first second gave also_gave = absurd (no_pick tt)
  same_event front one other rest others c d e same no_pick first second gave also_gave = absurd (cc)

  same_behind : (front events others : List ServerEvent) → skeleton_of events ≡ skeleton_of others → AllByRecursion (λ event. IsPick event → ⊥) events
      → RunExplains spec exchange (front ++ events) → RunExplains spec exchange (front ++ others) → events ≡ others
  same_behind front [] [] same no_picks first second = refl
  same_behind front [] (other ∷ others) same no_picks first second = absurd (cc)
  same_behind front (one ∷ events) [] same no_picks first second = absurd (cc)
  same_behind front (one ∷ events) (other ∷ others) same no_picks first second =
      let marks : mark_of one ≡ mark_of other = cc in
      let behind : skeleton_of events ≡ skeleton_of others = cc in
      let split = runs_to_split spec front (one ∷ events) first.run.0 first.run.1 in
      let also = runs_to_split spec front (other ∷ others) second.run.0 second.run.1 in
      let here : also.0 ≡ split.0 = runs_to_once spec front also.0 split.0 also.1 split.1 in
      let steps = split.2 in
      let also_steps = subst (λ (c : Config). Steps spec c (other ∷ others) second.run.0) here also.2 in
      let is : one ≡ other = same_event front one other events others split.0 steps.1.0 also_steps.1.0 marks no_picks.0 first second steps.1.1 also_steps.1.1 in
      let first_here = subst (RunExplains spec exchange) (sym (append_assoc front (one ∷ []) events)) first in
      let second_here = subst (RunExplains spec exchange) (sym (append_assoc front (one ∷ []) others)) (subst (λ event. RunExplains spec exchange (front ++ event ∷ others)) (sym is) second) in
      ap (λ event. event ∷ events) is ∙ ap (λ more. other ∷ more) (same_behind (front ++ one ∷ []) events others behind no_picks.1 first_here second_here)

  -- Two runs with one skeleton that explain an exchange, and of which one picks nothing, are one run.
  pub one_run : (events others : List ServerEvent) → skeleton_of events ≡ skeleton_of others → AllByRecursion (λ event. IsPick event → ⊥) events
      → RunExplains spec exchange events → RunExplains spec exchange others → events ≡ others
  one_run events others same no_picks first second = same_behind [] events others same no_picks first second
