-- What hypotheses show of where one run ends, and runs of which the same is left.
use Rattle.std.proofs.Common.{◌≡◌, ℕ, List, [], sym, ◌∙◌, ap, subst}
use Rattle.spec_model.specs.declared.config.Pair.{Pair}
use Rattle.spec_model.specs.declared.config.Value.{Value}
use Rattle.spec_model.specs.declared.event.ClientEvent.{ClientEvent}
use Rattle.spec_model.specs.declared.event.Mark.{Mark}
use Rattle.spec_model.specs.declared.event.ServerEvent.{ServerEvent}
use Rattle.spec_model.specs.Alike.{RunWith}
use Rattle.spec_model.specs.Layout.{RunExplains}
use Rattle.spec_model.specs.Run.{IsRun}
use Rattle.itree_data.specs.Marks.{IsTree}
use Rattle.itree_data.specs.Run.{IsTreeRun, TreeRunsTo}
use Rattle.itree_data.specs.Standing.{Standing}
use Rattle.dual_step.specs.declared.state.State.{State}
use Rattle.dual_step.proofs.States.{same_states}
use Rattle.dual_tree.specs.Dual.{DualFields, tree_of}
use Rattle.hypothesis.specs.declared.hypothesis.Hypothesis.{Hypothesis}
use Rattle.hypothesis.specs.Left.{IsAlike, Left, left_of, shown_by}
use Rattle.hypothesis.specs.Stands.{StandsFor}
use Rattle.hypothesis.proofs.Passing.{tree_runs_once}

-- The same is left of where two runs end in the tree.
abbrev pub LeaveSame : List ClientEvent → Standing → Standing → Type 0
LeaveSame exchange t u = left_of exchange t ≡ left_of exchange u

-- A hypothesis shows what is left of where a run ends.
abbrev pub Shows : List ClientEvent → Standing → Hypothesis → Type 0
Shows exchange t h = left_of exchange t ≡ shown_by h []

-- A run explains the exchange, and a hypothesis shows what is left of where it ends.
pub record ShowsRun (dual : DualFields) (exchange : List ClientEvent) (events : List ServerEvent) (h : Hypothesis) : Type 0 where
  pub explains : RunExplains dual.spec exchange events
  pub end : Standing
  pub ends : TreeRunsTo (tree_of dual) events end
  pub shows : Shows exchange end h

-- Two runs end so that the same is left.
pub record EndAlike (dual : DualFields) (exchange : List ClientEvent) (events others : List ServerEvent) : Type 0 where
  pub end : Standing
  pub other_end : Standing
  pub ends : TreeRunsTo (tree_of dual) events end
  pub other_ends : TreeRunsTo (tree_of dual) others other_end
  pub same : LeaveSame exchange end other_end

abbrev left_with : ℕ → ℕ → List Value → List (List Pair) → List Value → List ℕ → List (List (List (List ℕ))) → Left
left_with node compared registers tables locals taken pending =
    record { node = node; compared = compared; registers = registers; tables = tables; locals = locals; taken = taken; pending = pending }

same_fields : (node node' compared compared' : ℕ) (registers registers' : List Value) (tables tables' : List (List Pair)) (locals locals' : List Value)
    (taken taken' : List ℕ) (pending pending' : List (List (List (List ℕ)))) → node ≡ node' → compared ≡ compared' → registers ≡ registers' → tables ≡ tables'
    → locals ≡ locals' → taken ≡ taken' → pending ≡ pending'
    → left_with node compared registers tables locals taken pending ≡ left_with node' compared' registers' tables' locals' taken' pending'
same_fields node node' compared compared' registers registers' tables tables' locals locals' taken taken' pending pending' a b c d e f g = cc

-- The same is left where each part is the same.
pub same_left : (l m : Left) → l.node ≡ m.node → l.compared ≡ m.compared → l.registers ≡ m.registers → l.tables ≡ m.tables → l.locals ≡ m.locals
    → l.taken ≡ m.taken → l.pending ≡ m.pending → l ≡ m
same_left l m =
    same_fields l.node m.node l.compared m.compared l.registers m.registers l.tables m.tables l.locals m.locals l.taken m.taken l.pending m.pending

-- Hypotheses that show the same of standings are alike exactly where the standings leave the same.
pub alike_from_left : (exchange : List ClientEvent) (t u : Standing) (h g : Hypothesis) → Shows exchange t h → Shows exchange u g → LeaveSame exchange t u → IsAlike h g
alike_from_left exchange t u h g shows other_shows same =
    let shown : shown_by h [] ≡ shown_by g [] = sym shows ∙ same ∙ other_shows in
    record {
      state = same_states h.state g.state (ap (λ (left : Left). left.node) shown) (ap (λ (left : Left). left.compared) shown)
          (ap (λ (left : Left). left.registers) shown) (ap (λ (left : Left). left.tables) shown) (ap (λ (left : Left). left.locals) shown)
          (ap (λ (left : Left). left.pending) shown);
      taken = ap (λ (left : Left). left.taken) shown;
    }

pub left_from_alike : (exchange : List ClientEvent) (t u : Standing) (h g : Hypothesis) → Shows exchange t h → Shows exchange u g → IsAlike h g → LeaveSame exchange t u
left_from_alike exchange t u h g shows other_shows alike =
    let shown : shown_by h [] ≡ shown_by g []
    = same_left (shown_by h []) (shown_by g []) (ap (λ (s : State). s.node) alike.state) (ap (λ (s : State). s.compared) alike.state)
    (ap (λ (s : State). s.registers) alike.state) (ap (λ (s : State). s.tables) alike.state) (ap (λ (s : State). s.locals) alike.state) alike.taken
    (ap (λ (s : State). s.pending) alike.state) in
    shows ∙ shown ∙ sym other_shows

module _ (dual : DualFields) (tree : IsTree (tree_of dual)) where
  -- where a run ends in the tree
  pub run_ends : (events : List ServerEvent) → IsRun dual.spec events → IsTreeRun (tree_of dual) events
  run_ends events = (tree.laws.runs events).1

  -- A hypothesis shows each run for which it stands, and where such a run ends is what it shows.
  pub stands_shows : (exchange : List ClientEvent) (skeleton : List Mark) (h : Hypothesis) (events : List ServerEvent) → StandsFor dual exchange skeleton h
      → RunWith dual.spec exchange skeleton events → ShowsRun dual exchange events h
  stands_shows exchange skeleton h events stands run =
      let ends = run_ends events run.explains.run in
      record { explains = run.explains; end = ends.0; ends = ends.1; shows = stands.shows events ends.0 run ends.1 }

  pub shows_at : (exchange : List ClientEvent) (h : Hypothesis) (events : List ServerEvent) (end : Standing) → ShowsRun dual exchange events h
      → TreeRunsTo (tree_of dual) events end → Shows exchange end h
  shows_at exchange h events end shown ends =
      subst (λ t. Shows exchange t h) (tree_runs_once (tree_of dual) events shown.end end shown.ends ends) shown.shows
