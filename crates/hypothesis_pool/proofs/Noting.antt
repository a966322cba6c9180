-- What hypotheses stand for where the trail gets longer, and where their marks are put there.
use Rattle.std.proofs.Common.{◌≡◌, ℕ, ◌<◌, All, List, [], ◌∷◌, ◌++◌, None, Option, Some, length, option_to_list, refl, sym, ◌∙◌, ap, subst, arith, length-append, append-nil}
use Rattle.std.proofs.lemmas.List.{get_or_append_left, get_or_push, length_push}
use Rattle.std.proofs.lemmas.List.Elements.{All-head, All-tail, All-weaker}
use Rattle.spec_model.specs.declared.event.ClientEvent.{ClientEvent}
use Rattle.spec_model.specs.declared.event.Mark.{Mark}
use Rattle.spec_model.specs.World.{IsPrefixOf}
use Rattle.dual_tree.specs.Dual.{DualFields}
use Rattle.trail_store.specs.Path.{path_at}
use Rattle.hypothesis.specs.declared.hypothesis.Hypothesis.{Hypothesis}
use Rattle.hypothesis.specs.Stands.{StandsFor}
use Rattle.hypothesis_pool.specs.Search.{IsNoted}
use Rattle.hypothesis_pool.specs.Standing.{Stands, StandForAll, skeleton_in, skeletons_in}

-- The steps that were in the trail keep their paths.
pub path_longer : (paths new_paths : List (List Mark)) (step : ℕ) → IsPrefixOf paths new_paths → step < length paths → path_at new_paths step ≡ path_at paths step
path_longer paths new_paths step (more, whole) within =
    ap (λ longer. path_at longer step) whole ∙ get_or_append_left paths more [] step within

pub length_longer : (paths new_paths : List (List Mark)) (step : ℕ) → IsPrefixOf paths new_paths → step < length paths → step < length new_paths
length_longer paths new_paths step (more, whole) within =
    let counted = ap length whole ∙ length-append paths more in omega (arith, within, counted)

pub skeleton_longer : (paths new_paths : List (List Mark)) (h : Hypothesis) → IsPrefixOf paths new_paths → h.step < length paths → skeleton_in new_paths h ≡ skeleton_in paths h
skeleton_longer paths new_paths h longer within = ap (λ path. path ++ option_to_list h.mark) (path_longer paths new_paths h.step longer within)

pub skeletons_longer : (paths new_paths : List (List Mark)) (hs : List Hypothesis) → IsPrefixOf paths new_paths → All (λ (h : Hypothesis). h.step < length paths) hs
    → skeletons_in new_paths hs ≡ skeletons_in paths hs
skeletons_longer paths new_paths [] longer within = refl
skeletons_longer paths new_paths (h ∷ hs) longer within =
    let first = skeleton_longer paths new_paths h longer (All-head (λ (h : Hypothesis). h.step < length paths) h hs within) in
    let others = skeletons_longer paths new_paths hs longer (All-tail (λ (h : Hypothesis). h.step < length paths) h hs within) in
    ap (λ skeleton. skeleton ∷ skeletons_in new_paths hs) first ∙ ap (λ skeletons. skeleton_in paths h ∷ skeletons) others

-- What a hypothesis stands for does not depend on its step and mark.
pub stands_at_step : (dual : DualFields) (exchange : List ClientEvent) (skeleton : List Mark) (h : Hypothesis) (step : ℕ) (mark : Option Mark) → StandsFor dual exchange skeleton h
    → StandsFor dual exchange skeleton (record h { step = step; mark = mark })
stands_at_step dual exchange skeleton h step mark stands = record {
  explains = stands.explains;
  solved = stands.solved;
  picked = stands.picked;
  shows = stands.shows;
  asked = stands.asked;
}

module _ (dual : DualFields) (exchange : List ClientEvent) where
  pub each_within : (paths : List (List Mark)) (hs : List Hypothesis) → All (Stands dual exchange paths) hs → All (λ (h : Hypothesis). h.step < length paths) hs
  each_within paths hs all = All-weaker (Stands dual exchange paths) (λ (h : Hypothesis). h.step < length paths) (λ h stands. stands.within) hs all

  pub stands_longer : (paths new_paths : List (List Mark)) (h : Hypothesis) → IsPrefixOf paths new_paths → Stands dual exchange paths h → Stands dual exchange new_paths h
  stands_longer paths new_paths h longer stands = record {
    within = length_longer paths new_paths h.step longer stands.within;
    stands = subst (λ skeleton. StandsFor dual exchange skeleton h) (sym (skeleton_longer paths new_paths h longer stands.within)) stands.stands;
  }

  pub all_longer : (paths new_paths : List (List Mark)) (hs : List Hypothesis) → IsPrefixOf paths new_paths → All (Stands dual exchange paths) hs
      → All (Stands dual exchange new_paths) hs
  all_longer paths new_paths hs longer all =
      All-weaker (Stands dual exchange paths) (Stands dual exchange new_paths) (λ h stands. stands_longer paths new_paths h longer stands) hs all

  -- A hypothesis whose mark was put into the trail stands for its skeleton there.
  pub stands_noted : (paths new_paths : List (List Mark)) (old new : Hypothesis) → IsNoted paths new_paths old new → Stands dual exchange paths old → Stands dual exchange new_paths new
  stands_noted paths new_paths old new noted stands = record {
    within = noted.within;
    stands = subst (λ skeleton. StandsFor dual exchange skeleton new) (sym noted.skeleton)
        (subst (StandsFor dual exchange (skeleton_in paths old)) (sym noted.same) (stands_at_step dual exchange (skeleton_in paths old) old new.step None stands.stands));
  }

  -- Hypotheses stand for all in a longer trail too.
  pub stand_for_all_longer : (paths new_paths : List (List Mark)) (hs : List Hypothesis) → IsPrefixOf paths new_paths → StandForAll dual exchange paths hs
      → StandForAll dual exchange new_paths hs
  stand_for_all_longer paths new_paths hs longer stand =
      let same = skeletons_longer paths new_paths hs longer (each_within paths hs stand.each) in
      record {
        each = all_longer paths new_paths hs longer stand.each;
        noted = stand.noted;
        kept = rw same stand.kept;
        ordered = rw same stand.ordered;
        apart = stand.apart;
        all = rw same stand.all;
      }

-- A mark that is pushed into a trail lies there.
pub noted_now : (paths : List (List Mark)) (h : Hypothesis) (mark : Mark) → h.mark ≡ Some mark
    → IsNoted paths (paths ++ (path_at paths h.step ++ mark ∷ []) ∷ []) h (record h { step = length paths; mark = None })
noted_now paths h mark is = record {
  same = refl;
  within = let longer = length_push paths (path_at paths h.step ++ mark ∷ []) in omega (arith, longer);
  skeleton = append-nil _ ∙ get_or_push paths (path_at paths h.step ++ mark ∷ []) [] (length paths) refl
      ∙ ap (λ mark. path_at paths h.step ++ option_to_list mark) (sym is);
}
