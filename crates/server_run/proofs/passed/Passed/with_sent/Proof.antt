-- Nothing is done when it runs: these pieces were sent too.
use Rattle.server_run.proofs.Walks.{[], ◌∷◌, refl, proved, ftrue, vstruct, vnil, ‵, raw, ◌⊛◌, ◌$◌, ◌∵◌, !, qed, keep, move, split, fjoin, suffices, done, no_more, returns, enter, agg, alloc_all, pass_all, free_all, look_at, sets, yes, owns, nothing, pure_i, plain, types_at, alive, says, Stays, stay_dropped, Goes-dropped, walk_of, ends_at, u8, named, shr_vals, shr_Tells, RefOf, w16, u16, uint_vals, uint_Tells}
use Rattle.spec_model.specs.contracts.list.List as list
use Rattle.spec_model.specs.Config.{with_item_at}
use Rattle.server_run.specs.contracts.passed.Passed.{the_row}
use Rattle.server_run.specs.contracts.passed.Passed.with_sent as f
use Rattle.server_run.proofs.passed.Passed.with_sent.Statement.{statement}
use Rattle.server_run.proofs.passed.Passed.with_sent.Code as code

abbrev stayed : Stays f.ended.signature.params f.ended.kept
stayed = (stay_dropped _ yes, (stay_dropped _ yes, (stay_dropped _ yes, tt)))

pub with_sent_spec : {M : Type 1} → statement M
with_sent_spec 𝓤 𝓛 𝓜 𝓡 wired =
    let c = f.clauses 𝓛 𝓜.mem 𝓡.returns in let W = walk_of 𝓛 f.ended stayed c in
    proved 𝓛 f.ended stayed c 𝓜 𝓡
    (Goes-dropped 𝓛 2 (RefOf (0 ∷ []) tt (plain (λ _. the_row)) (λ _. tt)) yes (λ κs x w. refl), (Goes-dropped 𝓛 2 (plain (λ _. u16)) yes (λ κs x w. refl), (Goes-dropped 𝓛 2 (RefOf (1 ∷ []) tt (plain (λ _. list.the_row (list.the_row u8))) (λ _. tt)) yes (λ κs x w. refl), tt)))
    f.Key.name code.function (code.unfolded 𝓤 𝓛.H 𝓜 𝓡 wired)
    (λ κs. (shr_vals, (uint_vals w16, (shr_vals, tt))))
    (λ κs. (shr_Tells (named 0) κs.0 the_row, (uint_Tells w16, (shr_Tells (named 1) κs.1.0 (list.the_row (list.the_row u8)), tt))))
    (λ κs qs bounds a _ are.
    let y : W.Ghost = ((κs, qs, bounds, a, (shr_vals a.0, (uint_vals w16 a.1.0, (shr_vals a.1.1.0, tt)))), tt) in
    let made : the_row.Denot = record a.0.now { sent = with_item_at a.0.now.sent a.1.0 a.1.1.0.now } in
    qed 𝓛 ((raw (alive 𝓛 f.signature κs qs) ⊛ ‵ (owns (types_at f.signature.params κs) a y.0.4)) ∷ ‵ ftrue ∷ []) ∵ split ! $ keep ! (0 ∷ []) $
    enter ! _ _ _ _ _ $ alloc_all ! (λ l. pass_all ! refl ((tt, tt), ((tt, record { fits = are.1.0.1 }), ((tt, tt), tt))) $
    sets ! (agg ! (no_more !)) refl (tt, tt) $
    returns ! (look_at ! 0 refl) $ free_all ! refl $
    suffices ! _ (ends_at 𝓛 f.ended stayed c y (vstruct vnil) made (tt, (tt, (tt, tt))) (tt, (tt, (tt, tt)))) $ says ! refl $
    pure_i ! (the_row.own_val made (vstruct vnil ∷ [])) ((λ vss. (tt, tt)), tt) ((tt, (refl, tt)), tt) $
    nothing ! $ nothing ! $ fjoin ! $ nothing ! $ fjoin ! $ nothing ! $ fjoin ! $ move ! (2 ∷ 0 ∷ 1 ∷ []) $ done !))
