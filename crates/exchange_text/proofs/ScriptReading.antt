-- Reading the text of a script.
use Rattle.std.proofs.Common.{◌≡◌, ◌≢◌, ℕ, ◌^◌, ◌<◌, List, [], ◌∷◌, ◌++◌, map, Result, Ok, refl, sym, ◌∙◌, ap, subst, inr, arith, append-nil, codes}
use Rattle.std.specs.Fmt.{decimal}
use Rattle.std.specs.List.{AllByRecursion}
use Rattle.std.specs.Result.{IfOk, IfErr, IsErrAnd, MatchResult}
use Rattle.spec_model.specs.declared.event.Shape.{Shape}
use Rattle.spec_model.specs.Message.{line_feed}
use Rattle.exchange_text.specs.declared.action.Action.{Action}
use Rattle.exchange_text.specs.declared.refusal.TextRefusal.{TextRefusal}
use Rattle.exchange_text.specs.declared.refusal.TextRefusal.TheVariants.{BadLine, NoEnd, Memory}
use Rattle.exchange_text.specs.declared.script.Script.{Script}
use Rattle.exchange_text.specs.declared.script.TheConstants.{MAX_ACTIONS}
use Rattle.exchange_text.specs.LooseReading.{number_of}
use Rattle.exchange_text.specs.NextLine.{BeginsOtherwise}
use Rattle.exchange_text.specs.ScriptText.{AreConns, FitsScript, HasScriptForm, IsScriptAction, IsScriptRefused, action_line, conns_line, script_lines, script_text}
use Rattle.exchange_text.specs.Text.{ended, ended_lines, AreRead, HasLine, IsLine, UnlessMemory}
use Rattle.exchange_text.proofs.ActionLines.{action_line_inner, legible, one_action}
use Rattle.exchange_text.proofs.EventTexts.{same_events}
use Rattle.exchange_text.proofs.Numbers.{number_of-decimal, Lacks-decimal}
use Rattle.exchange_text.proofs.Outcomes.{IsInnerLine, IsOutcomeOf, one_outcome, only_value, only_refusal, one_list_of_lines}
use Rattle.exchange_text.proofs.Reading.{Forms, OnlyForms, all_read, begins_otherwise, none_read, one_more_read}

-- the lines before the actions
abbrev pub head_of : ℕ → List (List ℕ)
head_of conns = codes "script 1" ∷ conns_line conns ∷ []

-- the second line tells one number
pub one_conns : (conns conns' : ℕ) → conns < 2 ^ 16 → conns' < 2 ^ 16 → conns_line conns ≡ conns_line conns' → conns ≡ conns'
one_conns conns conns' small small' same =
    let digits : decimal conns ≡ decimal conns' = cc in
    sym (number_of-decimal conns small) ∙ (ap number_of digits ∙ number_of-decimal conns' small')

conns_inner : (conns : ℕ) → conns < 2 ^ 16 → IsInnerLine (conns_line conns)
conns_inner conns small = (Lacks-decimal line_feed conns (omega arith) small, λ same. absurd (cc))

first_inner : IsInnerLine (codes "script 1")
first_inner = (refl, λ same. absurd (cc))

action_inner : (shape : Shape) (conns : ℕ) → conns < 2 ^ 16 → (action : ℕ × Action) → IsScriptAction shape conns action → IsInnerLine (action_line action)
action_inner shape conns small action right = action_line_inner action (legible shape conns small action right)

module _ (shape : Shape) (small : shape.conns < 2 ^ 16) where
  small_conns : (conns : ℕ) → AreConns shape conns → conns < 2 ^ 16
  small_conns conns are = omega (arith, are.1)

  inner : (before : List (List ℕ)) (line : List ℕ) → HasScriptForm shape before line → IsInnerLine line
  inner [] line is = subst IsInnerLine (sym is) first_inner
  inner (first ∷ []) line (conns, are, is) = subst IsInnerLine (sym is) (conns_inner conns (small_conns conns are))
  inner (first ∷ second ∷ before) line (conns, action, are, _, right, is) = subst IsInnerLine (sym is) (action_inner shape conns (small_conns conns are) action right)

  pub forms : (conns : ℕ) → AreConns shape conns → Forms action_line (IsScriptAction shape conns) (head_of conns) MAX_ACTIONS (HasScriptForm shape)
  forms conns are actions action right = (conns, action, are, refl, right, refl)

  pub only_forms : (conns : ℕ) → AreConns shape conns → OnlyForms action_line (IsScriptAction shape conns) (head_of conns) MAX_ACTIONS (HasScriptForm shape)
  only_forms conns are actions line (conns', action, are', same, right, is) =
      let same_conns = one_conns conns conns' (small_conns conns are) (small_conns conns' are') same in
      (action, subst (λ n. IsScriptAction shape n action) (sym same_conns) right, is)

  abbrev Read : List (List ℕ) → Type 0
  Read lines = AreRead 2 MAX_ACTIONS (HasScriptForm shape) lines

  first_read : Read (codes "script 1" ∷ [])
  first_read = one_more_read 2 MAX_ACTIONS (HasScriptForm shape) [] (codes "script 1") (none_read 2 MAX_ACTIONS (HasScriptForm shape)) (omega arith) refl

  pub head_read : (conns : ℕ) → AreConns shape conns → Read (head_of conns)
  head_read conns are = one_more_read 2 MAX_ACTIONS (HasScriptForm shape) (codes "script 1" ∷ []) (conns_line conns) first_read (omega arith) (conns, are, refl)

  are_read : (script : Script) → FitsScript shape script → Read (script_lines script)
  are_read script fits =
      all_read action_line (IsScriptAction shape script.conns) (head_of script.conns) MAX_ACTIONS (HasScriptForm shape)
      (forms script.conns fits.conns) (head_read script.conns fits.conns) script.actions fits.each fits.few

  -- the text begins otherwise
  pub other_first_line : (text : List ℕ) (refusal : TextRefusal) → BeginsOtherwise text (codes "script 1") refusal → IsScriptRefused shape text refusal
  other_first_line text refusal = begins_otherwise 2 MAX_ACTIONS (HasScriptForm shape) (codes "script 1") text refusal (omega arith) (λ line form. form)

  -- the second line is not ended, or tells no number of connections
  first_parts : (text rest : List ℕ) → HasLine text (codes "script 1") rest → text ≡ ended_lines (codes "script 1" ∷ []) ++ rest
  first_parts text rest first = first.parts

  pub no_second_line : (text rest : List ℕ) → HasLine text (codes "script 1") rest → IsLine rest → IsScriptRefused shape text (NoEnd 2)
  no_second_line text rest first is_line = record {
    before = codes "script 1" ∷ [];
    rest = rest;
    parts = first_parts text rest first;
    read = first_read;
    stops = (is_line, refl);
  }

  pub bad_second_line : (text rest line behind : List ℕ) → HasLine text (codes "script 1") rest → HasLine rest line behind
      → ((conns : ℕ) → AreConns shape conns → line ≢ conns_line conns) → IsScriptRefused shape text (BadLine 2)
  bad_second_line text rest line behind first next none = record {
    before = codes "script 1" ∷ [];
    rest = rest;
    parts = first_parts text rest first;
    read = first_read;
    stops = inr (
      record {
        line = line;
        behind = behind;
        next = next;
        not_last = λ last. absurd (omega (arith, last.0));
        room = omega arith;
        no_form = λ (conns, are, is). none conns are is;
      },
      refl,
    );
  }

  -- the first two lines have been read
  pub both_first_lines : (text rest behind : List ℕ) (conns : ℕ) → HasLine text (codes "script 1") rest → HasLine rest (conns_line conns) behind
      → text ≡ ended_lines (head_of conns) ++ behind
  both_first_lines text rest behind conns first next =
      first.parts ∙ ap (λ rest. ended (codes "script 1") ++ rest) (next.parts ∙ ap (λ line. line ++ behind) (sym (append-nil (ended (conns_line conns)))))

-- lines are those of one script
same_script : (shape shape' : Shape) → shape.conns < 2 ^ 16 → shape'.conns < 2 ^ 16 → (script other : Script) → FitsScript shape script → FitsScript shape' other → script_lines script ≡ script_lines other → script ≡ other
same_script shape shape' small small' script other fits fits' same =
    let small_conns : script.conns < 2 ^ 16 = omega (arith, fits.conns.1) in
    let small_conns' : other.conns < 2 ^ 16 = omega (arith, fits'.conns.1) in
    let conns = one_conns script.conns other.conns small_conns small_conns' (cc) in
    let actions = same_events action_line (IsScriptAction shape script.conns) (IsScriptAction shape' other.conns)
    (λ action action' right right'. one_action action action' (legible shape script.conns small_conns action right) (legible shape' other.conns small_conns' action' right'))
    script.actions other.actions fits.each fits'.each (cc) in
    λ i. record { conns = conns i; actions = actions i }

lines_inner : (shape : Shape) → shape.conns < 2 ^ 16 → (script : Script) → FitsScript shape script → AllByRecursion IsInnerLine (script_lines script)
lines_inner shape small script fits =
    let small_conns : script.conns < 2 ^ 16 = omega (arith, fits.conns.1) in
    (first_inner, (conns_inner script.conns small_conns, each script.conns small_conns script.actions fits.each))
  where
    each : (conns : ℕ) → conns < 2 ^ 16 → (actions : List (ℕ × Action)) → AllByRecursion (IsScriptAction shape conns) actions → AllByRecursion IsInnerLine (map action_line actions)
    each conns small [] right = tt
    each conns small (action ∷ actions) right = (action_inner shape conns small action right.0, each conns small actions right.1)

-- a text is that of one script
pub one_script : (shape shape' : Shape) → shape.conns < 2 ^ 16 → shape'.conns < 2 ^ 16 → (script other : Script) → FitsScript shape script → FitsScript shape' other → script_text script ≡ script_text other → script ≡ other
one_script shape shape' small small' script other fits fits' same =
    same_script shape shape' small small' script other fits fits'
    (one_list_of_lines (script_lines script) (script_lines other) (lines_inner shape small script fits) (lines_inner shape' small' other fits') same)

abbrev pub IsScriptOutcome : Shape → List ℕ → Result Script TextRefusal → Type 0
IsScriptOutcome shape text outcome = IsOutcomeOf 2 MAX_ACTIONS (HasScriptForm shape) script_lines (FitsScript shape) text outcome

module _ (shape : Shape) (small : shape.conns < 2 ^ 16) where
  -- a text has one outcome as that of a script which fits the shape
  pub one_script_outcome : (text : List ℕ) (one other : Result Script TextRefusal) → IsScriptOutcome shape text one → IsScriptOutcome shape text other → one ≡ other
  one_script_outcome =
      one_outcome 2 MAX_ACTIONS (HasScriptForm shape) script_lines (FitsScript shape) (inner shape small) (are_read shape small) (λ script. omega arith) (same_script shape shape small small)

  -- What a reading gives is the one outcome, where it gives an outcome or wants memory.
  pub only_script : {A : Type 0} (script_of : A → Script) (text : List ℕ) (given : Result A TextRefusal)
      → IfOk given (λ read. IsScriptOutcome shape text (Ok (script_of read))) → IfErr given (λ error. UnlessMemory error (IsScriptRefused shape text error))
      → (script : Script) → FitsScript shape script → text ≡ script_text script → MatchResult given (λ read. script_of read ≡ script) (λ error. error ≡ Memory)
  only_script =
      only_value 2 MAX_ACTIONS (HasScriptForm shape) script_lines (FitsScript shape) (inner shape small) (are_read shape small) (λ script. omega arith) (same_script shape shape small small)

  pub only_script_refusal : {A : Type 0} (script_of : A → Script) (text : List ℕ) (given : Result A TextRefusal)
      → IfOk given (λ read. IsScriptOutcome shape text (Ok (script_of read))) → IfErr given (λ error. UnlessMemory error (IsScriptRefused shape text error))
      → (refusal : TextRefusal) → IsScriptRefused shape text refusal → IsErrAnd given (λ error. UnlessMemory error (error ≡ refusal))
  only_script_refusal =
      only_refusal 2 MAX_ACTIONS (HasScriptForm shape) script_lines (FitsScript shape) (inner shape small) (are_read shape small) (λ script. omega arith) (same_script shape shape small small)
