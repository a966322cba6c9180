-- The text of a script.
use Rattle.std.specs.Prelude.{◌≡◌, ℕ, ◌<◌, ◌≤◌, List, [], ◌∷◌, ◌++◌, length, map, flat_map, codes, decimal}
use Rattle.std.specs.List.{AllByRecursion}
use Rattle.spec_model.specs.declared.event.Shape.{Shape}
use Rattle.spec_model.specs.Quote.{quotation_of}
use Rattle.exchange_text.specs.declared.action.Action.{Action}
use Rattle.exchange_text.specs.declared.action.Action.TheVariants.{Send, Await}
use Rattle.exchange_text.specs.declared.action.Part.{Part}
use Rattle.exchange_text.specs.declared.action.Part.TheVariants.{Lit, Piece}
use Rattle.exchange_text.specs.declared.refusal.TextRefusal.{TextRefusal}
use Rattle.exchange_text.specs.declared.script.Script.{Script}
use Rattle.exchange_text.specs.declared.script.TheConstants.{MAX_ACTIONS}
use Rattle.exchange_text.specs.Actions.{IsAction}
use Rattle.exchange_text.specs.Text.{text_of, IsRefused}

-- "m" or piece R S L "f"
abbrev pub part_text : Part → List ℕ
part_text (Lit text) = quotation_of text
part_text (Piece receipt start len fill) =
    codes "piece " ++ (decimal receipt ++ (codes " " ++ (decimal start ++ (codes " " ++ (decimal len ++ (codes " " ++ quotation_of fill))))))

-- a part with a space before it
abbrev pub spaced_part : Part → List ℕ
spaced_part part = codes " " ++ part_text part

-- C send P .. or C await K
abbrev pub action_line : ℕ × Action → List ℕ
action_line (conn, Send parts) = decimal conn ++ (codes " send" ++ flat_map spaced_part parts)
action_line (conn, Await count) = decimal conn ++ (codes " await " ++ decimal count)

-- conns N
abbrev pub conns_line : ℕ → List ℕ
conns_line conns = codes "conns " ++ decimal conns

-- the lines before the last one
abbrev pub script_lines : Script → List (List ℕ)
script_lines script = codes "script 1" ∷ conns_line script.conns ∷ map action_line script.actions

abbrev pub script_text : Script → List ℕ
script_text script = text_of (script_lines script)

-- the text spells the script
abbrev pub SpellsScript : List ℕ → Script → Type 0
SpellsScript text script = text ≡ script_text script

-- a number of connections that a script of a shape may have
abbrev pub AreConns : Shape → ℕ → Type 0
AreConns shape conns = (1 ≤ conns) × (conns ≤ shape.conns)

-- an action on a connection that a script of a shape and of so many connections may have
abbrev pub IsScriptAction : Shape → ℕ → ℕ × Action → Type 0
IsScriptAction shape conns action = (action.0 < conns) × IsAction shape action.1

-- A script fits a shape where it has no more connections, each action may stand in it, and it has no more actions than the greatest number.
pub record FitsScript (shape : Shape) (script : Script) : Type 0 where
  pub conns : AreConns shape script.conns
  pub each : AllByRecursion (IsScriptAction shape script.conns) script.actions
  pub few : length script.actions ≤ MAX_ACTIONS

-- Which lines are of the form for their place in a script of a shape: the first line, the number of connections, and then actions.
abbrev pub HasScriptForm : Shape → List (List ℕ) → List ℕ → Type 0
HasScriptForm shape [] line = line ≡ codes "script 1"
HasScriptForm shape (first ∷ []) line = (conns : ℕ) × AreConns shape conns × (line ≡ conns_line conns)
HasScriptForm shape (first ∷ second ∷ before) line =
    (conns : ℕ) × (action : ℕ × Action) × AreConns shape conns × (second ≡ conns_line conns) × IsScriptAction shape conns action × (line ≡ action_line action)

-- the refusal of a text as that of a script of the shape
abbrev pub IsScriptRefused : Shape → List ℕ → TextRefusal → Type 0
IsScriptRefused shape text refusal = IsRefused 2 MAX_ACTIONS (HasScriptForm shape) text refusal
