-- What a step makes, and what it keeps.
use Rattle.std.proofs.Common.{◌≡◌, ℕ, zero, suc, ◌+◌, ◌<◌, Bool, true, false, not, ◌||◌, ◌==◌, if◌then◌else◌, List, [], ◌∷◌, ◌++◌, length, refl, ap, subst, append_assoc, arith, length-append}
use Rattle.std.specs.Prelude.{slice_index_or}
use Rattle.std.specs.List.{AllByRecursion}
use Rattle.rand_chacha.specs.ChaCha.{ChaCha}
use Rattle.spec_model.specs.declared.tree.Item.{Item}
use Rattle.exchange_text.specs.declared.action.Action.{Action}
use Rattle.exchange_text.specs.declared.action.Action.TheVariants.{Send, Await}
use Rattle.exchange_text.specs.declared.action.Part.{Part}
use Rattle.exchange_text.specs.declared.script.Script.{Script}
use Rattle.exchange_text.specs.Actions.{AreParts}
use Rattle.exchange_text.specs.ScriptText.{IsScriptAction}
use Rattle.exchange_text.proofs.Reading.{All-push}
use Rattle.script_gen.specs.declared.plan.Plan.{Plan}
use Rattle.script_gen.specs.declared.script.TheConstants.{MAX_STEPS}
use Rattle.script_gen.specs.Generator.{ends_in_send, sends_on, sent_behind, step, steps}
use Rattle.script_gen.specs.Parts.{one_at_least, parts_of, within}
use Rattle.script_gen.specs.Paced.{ArePaced, sends_in}
use Rattle.script_gen.specs.Ready.{IsMade}
use Rattle.script_gen.specs.Words.{draw}
use Rattle.script_gen.proofs.PacedSends.{sent_paced}
use Rattle.script_gen.proofs.TalliedConns.{sends_in-push, sends_on_within}

-- the drawings of a step, one behind the other
pub step_is : (plan : Plan) (before : List (ℕ × Action)) (words behind_conn behind_template behind_parts left : ChaCha) (conns count conn number earlier pause : ℕ) (template : List Item) (parts : List Part)
    → conns ≡ plan.conns → conn ≡ (draw conns words).0 → behind_conn ≡ (draw conns words).1
    → count ≡ length plan.templates → number ≡ (draw count behind_conn).0 → behind_template ≡ (draw count behind_conn).1
    → template ≡ slice_index_or plan.templates number [] → earlier ≡ sends_on conn before
    → parts ≡ one_at_least (within plan.shape.limit (parts_of plan earlier template behind_template).0) → behind_parts ≡ (parts_of plan earlier template behind_template).1
    → pause ≡ (draw 8 behind_parts).0 → left ≡ (draw 8 behind_parts).1
    → step plan before words ≡ (sent_behind before conn parts pause, left)
unfolding step
step_is plan before words behind_conn behind_template behind_parts left conns count conn number earlier pause template parts is_conns is_conn is_behind_conn is_count is_number is_behind_template is_template is_earlier is_parts is_behind_parts is_pause is_left =
    rw (is_left, is_pause, is_behind_parts, is_parts, is_earlier, is_template, is_behind_template, is_number, is_count, is_behind_conn, is_conn, is_conns) refl

-- the steps that are left, one made
pub steps_more : (plan : Plan) (left after : ℕ) (before more : List (ℕ × Action)) (words behind : ChaCha) → after + 1 ≡ left
    → more ≡ (step plan before words).0 → behind ≡ (step plan before words).1 → steps plan after more behind ≡ steps plan left before words
unfolding steps
steps_more plan zero after before more words behind next is is_behind = absurd (omega (arith, next))
steps_more plan (suc left) after before more words behind next is is_behind =
    let same : after ≡ left = omega arith in
    rw (same, is, is_behind) refl

pub steps_none : (plan : Plan) (left : ℕ) (before : List (ℕ × Action)) (words : ChaCha) → left ≡ 0 → (steps plan left before words).0 ≡ before
unfolding steps
steps_none plan left before words none = rw none refl

-- One send more, and an await behind it or none.
pub sent_made : (plan : Plan) (script : Script) (conn : ℕ) (parts : List Part) (pause : ℕ) → conn < plan.conns → AreParts plan.shape parts → sends_in script.actions < MAX_STEPS
    → IsMade plan script → IsMade plan (record script { actions = sent_behind script.actions conn parts pause })
sent_made plan script conn parts pause there are few made = by_test (not (pause == 0) || ends_in_send conn script.actions) (sent_paced conn script.actions parts pause made.paced)
  where
    send : ℕ × Action
    send = (conn, Send parts)

    await : ℕ × Action
    await = (conn, Await (sends_on conn script.actions + 1))

    by_test : (test : Bool) → ArePaced (script.actions ++ send ∷ (if test then await ∷ [] else [])) → IsMade plan (record script { actions = script.actions ++ send ∷ (if test then await ∷ [] else []) })
    by_test false paced = record {
      conns = made.conns;
      each = All-push (IsScriptAction plan.shape plan.conns) script.actions send made.each (there, are);
      few = omega (arith, made.few, sends_in-push conn script.actions (Send parts), length-append script.actions (send ∷ []));
      paced = paced;
    }
    by_test true paced =
        let sent = script.actions ++ send ∷ [] in
        let both = append_assoc script.actions (send ∷ []) (await ∷ []) in
        record {
          conns = made.conns;
          each = subst (AllByRecursion (IsScriptAction plan.shape plan.conns)) both
              (All-push (IsScriptAction plan.shape plan.conns) sent await
              (All-push (IsScriptAction plan.shape plan.conns) script.actions send made.each (there, are))
              (there, (omega arith, omega (arith, sends_on_within conn script.actions))));
          few = omega (
            arith,
            made.few,
            ap length both,
            ap sends_in both,
            sends_in-push conn script.actions (Send parts),
            sends_in-push conn sent (Await (sends_on conn script.actions + 1)),
            length-append sent (await ∷ []),
            length-append script.actions (send ∷ []),
          );
          paced = paced;
        }
