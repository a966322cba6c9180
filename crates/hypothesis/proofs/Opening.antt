-- What the hypothesis of the server that has not moved stands for.
use Rattle.std.proofs.Common.{◌≡◌, ℕ, List, [], ◌∷◌, map, length, replicate, refl, sym, ◌∙◌, ap, subst, zero, suc, arith}
use Rattle.spec_model.specs.declared.event.Framing.{Framing}
use Rattle.spec_model.specs.declared.event.ServerEvent.{ServerEvent}
use Rattle.spec_model.specs.Remainder.{unreceived}
use Rattle.spec_model.specs.Skeleton.{skeleton_of}
use Rattle.spec_model.proofs.LegalWorlds.{IsLegal-nil}
use Rattle.constraint_set.specs.Known.{IsSolution, Known}
use Rattle.itree_data.specs.Marks.{IsTree}
use Rattle.itree_data.specs.Run.{TreeRunsTo, TreeSettles}
use Rattle.itree_data.specs.Standing.{first_standing}
use Rattle.dual_step.specs.State.{standing_of}
use Rattle.dual_tree.specs.Dual.{DualFields, tree_of}
use Rattle.hypothesis.specs.declared.hypothesis.Hypothesis.{Hypothesis}
use Rattle.hypothesis.specs.Left.{left_of, shown_by}
use Rattle.hypothesis.specs.Stands.{StandsFor}
use Rattle.hypothesis.proofs.Shown.{ShowsRun, same_left, shows_at}
use Rattle.hypothesis.proofs.Passing.{settles_keeps, settles_passed, with_passed}
use Rattle.hypothesis.proofs.Unreceived.{unreceived_of_nothing}

-- no messages on each connection
lengths_of_nothing : (count : ℕ) → map length (replicate {A = List (List ℕ)} count []) ≡ replicate count 0
lengths_of_nothing zero = refl
lengths_of_nothing (suc count) = ap (λ counts. 0 ∷ counts) (lengths_of_nothing count)

pub no_marks : (events : List ServerEvent) → skeleton_of events ≡ [] → events ≡ []
no_marks [] none = refl
no_marks (event ∷ events) none = absurd (cc)

no_texts : (texts : List (List ℕ)) → length texts ≡ 0 → texts ≡ []
no_texts [] none = refl
no_texts (text ∷ texts) none = absurd (cc)

-- The list of no texts solves facts of no symbols.
solves_nothing : (framing : Framing) (room : ℕ) → IsSolution (record { framing = framing; room = room; asked = 0; symbols = []; differences = [] }) []
solves_nothing framing room = record {
  fits = record { one_each = refl; picked = λ s symbol is. absurd (cc); equal = λ s symbol is. absurd (cc) };
  different = λ d none. absurd none;
}

module _ (dual : DualFields) (h : Hypothesis) (room : ℕ) (tree : IsTree (tree_of dual))
    (settles : TreeSettles (tree_of dual) (record (first_standing (tree_of dual)) { taken = [] }) (standing_of h.state))
    (none_taken : h.taken ≡ replicate dual.shape.conns 0)
    (none_known : h.facts ≡ record { framing = dual.shape.framing; room = room; asked = 0; symbols = []; differences = [] }) where
  shows_opening : ShowsRun dual [] [] h
  shows_opening =
      let first = first_standing (tree_of dual) in
      let end = with_passed (standing_of h.state) first.taken first.sent in
      let runs : TreeRunsTo (tree_of dual) [] end = (end, settles_passed (tree_of dual) _ _ first.taken first.sent settles, refl) in
      let sent : h.state.pending ≡ first.sent = (settles_keeps (tree_of dual) _ _ settles).1 in
      let taken : map length first.taken ≡ h.taken = lengths_of_nothing dual.shape.conns ∙ sym none_taken in
      let pending : unreceived [] 0 first.sent ≡ h.state.pending = unreceived_of_nothing 0 first.sent ∙ sym sent in
      record {
        explains = record {
          run = (tree.laws.runs []).0 (end, runs);
          world = [];
          arranged = record { legal = IsLegal-nil; clients = refl; server = refl };
        };
        end = end;
        ends = runs;
        shows = same_left (left_of [] end) (shown_by h []) refl refl refl refl refl taken pending;
      }

  pub stands_at_opening : StandsFor dual [] [] h
  stands_at_opening = record {
    explains = ([], record { has = refl; explains = shows_opening.explains });
    solved = λ events run. rw (none_known, no_marks events run.has) (solves_nothing dual.shape.framing room);
    picked = λ texts solution.
        let none : texts ≡ [] = no_texts texts (solution.fits.one_each ∙ ap (λ (known : Known). length known.symbols) none_known) in
        ([], record { has = refl; explains = shows_opening.explains }, sym none);
    shows = λ events end run ends.
        shows_at dual tree [] h [] end shows_opening (subst (λ events. TreeRunsTo (tree_of dual) events end) (no_marks events run.has) ends);
    asked = rw none_known (omega arith);
  }
