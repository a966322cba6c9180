-- Lines of actions, read back.
use Rattle.std.proofs.Common.{◌≡◌, ◌≢◌, ℕ, ◌^◌, ◌<◌, ◌≤◌, true, false, List, [], ◌∷◌, ◌++◌, flat_map, length, Option, Some, None, refl, sym, ◌∙◌, ap, subst, arith, codes}
use Rattle.std.specs.Fmt.{decimal}
use Rattle.std.specs.List.{AllByRecursion}
use Rattle.spec_model.specs.declared.event.Framing.{Framing}
use Rattle.spec_model.specs.declared.event.Shape.{Shape}
use Rattle.spec_model.specs.Message.{line_feed}
use Rattle.exchange_text.specs.declared.action.Action.{Action}
use Rattle.exchange_text.specs.declared.action.Action.TheVariants.{Send, Await}
use Rattle.exchange_text.specs.declared.action.Part.{Part}
use Rattle.exchange_text.specs.declared.action.Part.TheVariants.{Lit, Piece}
use Rattle.exchange_text.specs.declared.action.TheConstants.{MAX_PARTS}
use Rattle.exchange_text.specs.Actions.{IsPart}
use Rattle.exchange_text.specs.LooseReading.{GivesBack, IsLegible, IsLegiblePart, number_of, split_once}
use Rattle.exchange_text.specs.ScriptText.{IsScriptAction, action_line, spaced_part}
use Rattle.exchange_text.specs.Text.{IsLine}
use Rattle.exchange_text.proofs.Numbers.{begins_with_letter, number_first, number_of-decimal, Lacks-decimal}
use Rattle.exchange_text.proofs.Outcomes.{IsInnerLine}
use Rattle.exchange_text.proofs.PartLines.{IsLine-parts, one_list_of_parts}
use Rattle.exchange_text.proofs.Quotations.{is_text}
use Rattle.exchange_text.proofs.Separators.{Lacks-append, split_once_at}

-- Parts that a send may have are read back,
legible_part : (framing : Framing) (part : Part) → IsPart framing part → IsLegiblePart part
legible_part framing (Lit text) is = is_text framing text is
legible_part framing (Piece receipt start len fill) (is, may) =
    let receipt_within = is.receipt_within in
    let start_within = is.start_within in
    let length_within = is.length_within in
    (omega arith, omega arith, omega arith, is_text framing fill may)

legible_parts : (framing : Framing) (parts : List Part) → AllByRecursion (IsPart framing) parts → AllByRecursion IsLegiblePart parts
legible_parts framing [] each = tt
legible_parts framing (part ∷ parts) each = (legible_part framing part each.0, legible_parts framing parts each.1)

-- and so are actions that a script may have.
pub legible : (shape : Shape) (conns : ℕ) → conns < 2 ^ 16 → (action : ℕ × Action) → IsScriptAction shape conns action → IsLegible action
legible shape conns small (conn, Send parts) right = (omega (arith, right.0), right.1.few, legible_parts shape.framing parts right.1.each)
legible shape conns small (conn, Await count) right = (omega (arith, right.0), omega (arith, right.1.1))

small_conn : (action : ℕ × Action) → IsLegible action → action.0 < 2 ^ 16
small_conn (conn, Send parts) small = small.0
small_conn (conn, Await count) small = small.0

-- the first byte
abbrev first_byte : List ℕ → ℕ
first_byte [] = 0
first_byte (byte ∷ bytes) = byte

-- what stands behind the connection's number and a space
abbrev pub verb_text : Action → List ℕ
verb_text (Send parts) = codes "send" ++ flat_map spaced_part parts
verb_text (Await count) = codes "await " ++ decimal count

spelled : (action : ℕ × Action) → action_line action ≡ decimal action.0 ++ 32 ∷ verb_text action.1
spelled (conn, Send parts) = refl
spelled (conn, Await count) = refl

split_line : (action : ℕ × Action) → IsLegible action → split_once 32 (action_line action) ≡ Some (decimal action.0, verb_text action.1)
split_line action small =
    ap (split_once 32) (spelled action) ∙ split_once_at 32 (decimal action.0) (verb_text action.1) (Lacks-decimal 32 action.0 (omega arith) (small_conn action small))

-- the connection's number and what stands behind it, of a line that is split
split_parts : (line digits behind : List ℕ) (action : ℕ × Action) → split_once 32 line ≡ Some (digits, behind) → IsLegible action → action_line action ≡ line
    → (number_of digits ≡ action.0) × (behind ≡ verb_text action.1)
split_parts line digits behind action is small same =
    let both : ◌≡◌ {A = Option (List ℕ × List ℕ)} (Some (digits, behind)) (Some (decimal action.0, verb_text action.1)) = sym is ∙ (ap (split_once 32) (sym same) ∙ split_line action small) in
    let pair : ◌≡◌ {A = List ℕ × List ℕ} (digits, behind) (decimal action.0, verb_text action.1) = cc in
    (ap (λ parts. number_of parts.0) pair ∙ number_of-decimal action.0 (small_conn action small), ap (λ parts. parts.1) pair)

-- What is read of a line gives back the action that has it: where the line is not split,
pub unsplit_back : (line : List ℕ) → split_once 32 line ≡ None → GivesBack action_line IsLegible line None
unsplit_back line is action small same =
    let both : ◌≡◌ {A = Option (List ℕ × List ℕ)} None (Some (decimal action.0, verb_text action.1)) = sym is ∙ (ap (split_once 32) (sym same) ∙ split_line action small) in
    absurd (cc)

-- where it is that of an await,
pub await_back : (line digits behind count : List ℕ) → split_once 32 line ≡ Some (digits, behind) → behind ≡ codes "await " ++ count
    → GivesBack action_line IsLegible line (Some (number_of digits, Await (number_of count)))
await_back line digits behind count is begins (conn, Send parts) small same =
    let parts = split_parts line digits behind (conn, Send parts) is small same in
    let first : ◌≡◌ {A = ℕ} 97 115 = ap first_byte (sym begins ∙ parts.1) in
    absurd (omega arith)
await_back line digits behind count is begins (conn, Await number) small same =
    let parts = split_parts line digits behind (conn, Await number) is small same in
    let verb : codes "await " ++ count ≡ codes "await " ++ decimal number = sym begins ∙ parts.1 in
    let written : count ≡ decimal number = cc in
    rw (parts.0, written, number_of-decimal number small.1) refl

-- where it is that of a send,
pub send_back : (line digits behind bytes : List ℕ) (read : List Part) → split_once 32 line ≡ Some (digits, behind) → behind ≡ codes "send" ++ bytes
    → ((written : List Part) → length written ≤ MAX_PARTS → AllByRecursion IsLegiblePart written → flat_map spaced_part written ≡ bytes → read ≡ written)
    → GivesBack action_line IsLegible line (Some (number_of digits, Send read))
send_back line digits behind bytes read is begins gives (conn, Send parts) small same =
    let halves = split_parts line digits behind (conn, Send parts) is small same in
    let verb : codes "send" ++ bytes ≡ codes "send" ++ flat_map spaced_part parts = sym begins ∙ halves.1 in
    let written : flat_map spaced_part parts ≡ bytes = cc in
    rw (halves.0, gives parts small.1 small.2 written) refl
send_back line digits behind bytes read is begins gives (conn, Await number) small same =
    let halves = split_parts line digits behind (conn, Await number) is small same in
    let first : ◌≡◌ {A = ℕ} 115 97 = ap first_byte (sym begins ∙ halves.1) in
    absurd (omega arith)

-- and where it is neither.
pub neither_back : (line digits behind : List ℕ) → split_once 32 line ≡ Some (digits, behind) → ((bytes : List ℕ) → behind ≢ codes "await " ++ bytes)
    → ((bytes : List ℕ) → behind ≢ codes "send" ++ bytes) → GivesBack action_line IsLegible line None
neither_back line digits behind is no_await no_send (conn, Send parts) small same =
    absurd (no_send (flat_map spaced_part parts) (split_parts line digits behind (conn, Send parts) is small same).1)
neither_back line digits behind is no_await no_send (conn, Await number) small same =
    absurd (no_await (decimal number) (split_parts line digits behind (conn, Await number) is small same).1)

-- Lines of two actions are two lines.
pub one_action : (action other : ℕ × Action) → IsLegible action → IsLegible other → action_line action ≡ action_line other → action ≡ other
one_action (conn, Send parts) (conn', Send parts') small small' same =
    let halves = split_parts (action_line (conn, Send parts)) (decimal conn) (verb_text (Send parts)) (conn', Send parts') (split_line (conn, Send parts) small) small' (sym same) in
    let first : conn ≡ conn' = sym (number_of-decimal conn small.0) ∙ halves.0 in
    let texts : flat_map spaced_part parts ≡ flat_map spaced_part parts' = cc in
    let behind = one_list_of_parts parts parts' small.2 small'.2 texts in
    rw (first, behind) refl
one_action (conn, Send parts) (conn', Await count') small small' same =
    let halves = split_parts (action_line (conn, Send parts)) (decimal conn) (verb_text (Send parts)) (conn', Await count') (split_line (conn, Send parts) small) small' (sym same) in
    let first : ◌≡◌ {A = ℕ} 115 97 = ap first_byte halves.1 in
    absurd (omega arith)
one_action (conn, Await count) (conn', Send parts') small small' same =
    let halves = split_parts (action_line (conn, Await count)) (decimal conn) (verb_text (Await count)) (conn', Send parts') (split_line (conn, Await count) small) small' (sym same) in
    let first : ◌≡◌ {A = ℕ} 97 115 = ap first_byte halves.1 in
    absurd (omega arith)
one_action (conn, Await count) (conn', Await count') small small' same =
    let halves = split_parts (action_line (conn, Await count)) (decimal conn) (verb_text (Await count)) (conn', Await count') (split_line (conn, Await count) small) small' (sym same) in
    let first : conn ≡ conn' = sym (number_of-decimal conn small.0) ∙ halves.0 in
    let digits : decimal count ≡ decimal count' = cc in
    let number : count ≡ count' = sym (number_of-decimal count small.1) ∙ (ap number_of digits ∙ number_of-decimal count' small'.1) in
    rw (first, number) refl

-- No LF stands in the line of an action, and it is not the last line of a text.
IsLine-verb_text : (conn : ℕ) (action : Action) → IsLegible (conn, action) → IsLine (verb_text action)
IsLine-verb_text conn (Send parts) small = IsLine-parts parts small.2
IsLine-verb_text conn (Await count) small = Lacks-decimal line_feed count (omega arith) small.1

pub action_line_inner : (action : ℕ × Action) → IsLegible action → IsInnerLine (action_line action)
action_line_inner (conn, action) small =
    let small_number = small_conn (conn, action) small in (
      subst IsLine (sym (spelled (conn, action)))
          (Lacks-append line_feed (decimal conn) (32 ∷ verb_text action) (Lacks-decimal line_feed conn (omega arith) small_number) (IsLine-verb_text conn action small)),
      λ same.
          let first : false ≡ true = sym (number_first conn (32 ∷ verb_text action) small_number) ∙ (ap begins_with_letter (sym (spelled (conn, action)) ∙ same)) in
          absurd (cc),
    )
