-- Nothing is done when it runs: nothing passed.
use Rattle.server_run.proofs.Walks.{[], ◌∷◌, refl, proved, ftrue, vstruct, vnil, ‵, raw, ◌⊛◌, ◌$◌, ◌∵◌, !, qed, keep, move, split, fjoin, suffices, done, no_more, returns, enter, agg, alloc_all, pass_all, free_all, look_at, sets, yes, owns, nothing, pure_i, plain, types_at, alive, says, Stays, stay_dropped, Goes-dropped, walk_of, ends_at, replicate, w16, u16, uint_vals, uint_Tells}
use Rattle.server_run.specs.contracts.passed.Passed.{the_row}
use Rattle.server_run.specs.contracts.passed.Passed.nothing as f
use Rattle.server_run.proofs.passed.Passed.nothing.Statement.{statement}
use Rattle.server_run.proofs.passed.Passed.nothing.Code as code

abbrev stayed : Stays f.ended.signature.params f.ended.kept
stayed = (stay_dropped _ yes, tt)

pub nothing_spec : {M : Type 1} → statement M
nothing_spec 𝓤 𝓛 𝓜 𝓡 wired =
    let c = f.clauses 𝓛 𝓜.mem 𝓡.returns in let W = walk_of 𝓛 f.ended stayed c in
    proved 𝓛 f.ended stayed c 𝓜 𝓡
    (Goes-dropped 𝓛 0 (plain (λ _. u16)) yes (λ κs x w. refl), tt)
    f.Key.name code.function (code.unfolded 𝓤 𝓛.H 𝓜 𝓡 wired)
    (λ κs. (uint_vals w16, tt))
    (λ κs. (uint_Tells w16, tt))
    (λ κs qs bounds a _ are.
    let y : W.Ghost = ((κs, qs, bounds, a, (uint_vals w16 a.0, tt)), tt) in
    let made : the_row.Denot = record { taken = replicate a.0 []; sent = replicate a.0 [] } in
    qed 𝓛 ((raw (alive 𝓛 f.signature κs qs) ⊛ ‵ (owns (types_at f.signature.params κs) a y.0.4)) ∷ ‵ ftrue ∷ []) ∵ split ! $ keep ! (0 ∷ []) $
    enter ! _ _ _ _ _ $ alloc_all ! (λ l. pass_all ! refl ((tt, record { fits = are.0.1 }), tt) $
    sets ! (agg ! (no_more !)) refl (tt, tt) $
    returns ! (look_at ! 0 refl) $ free_all ! refl $
    suffices ! _ (ends_at 𝓛 f.ended stayed c y (vstruct vnil) made (tt, tt) (tt, tt)) $ says ! refl $
    pure_i ! (the_row.own_val made (vstruct vnil ∷ [])) ((λ vss. (tt, tt)), tt) ((tt, (refl, tt)), tt) $
    nothing ! $ nothing ! $ fjoin ! $ move ! (2 ∷ 0 ∷ 1 ∷ []) $ done !))
