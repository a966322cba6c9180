-- The text of a world.
use Rattle.std.specs.Prelude.{◌≡◌, ℕ, ◌<◌, ◌≤◌, List, ◌∷◌, length, map, codes}
use Rattle.std.specs.List.{AllByRecursion}
use Rattle.spec_model.specs.declared.event.ServerEvent.{ServerEvent}
use Rattle.spec_model.specs.declared.event.ServerEvent.TheVariants.{Take, Arm, Test, Pick, Send}
use Rattle.spec_model.specs.declared.event.Shape.{Shape}
use Rattle.spec_model.specs.declared.event.WorldEvent.{WorldEvent}
use Rattle.spec_model.specs.declared.event.WorldEvent.TheVariants.{Client, Server}
use Rattle.spec_model.specs.Message.{IsMessage}
use Rattle.spec_model.specs.Quote.{IsText}
use Rattle.spec_model.specs.World.{IsOfShape}
use Rattle.exchange_text.specs.declared.refusal.TextRefusal.{TextRefusal}
use Rattle.exchange_text.specs.declared.world.TheConstants.{MAX_ARM, MAX_PICK, MAX_WORLD_EVENTS, MIN_PICK}
use Rattle.exchange_text.specs.EventLine.{world_line}
use Rattle.exchange_text.specs.Text.{text_of, HasEventForm, IsRefused}

-- the lines before the last one
abbrev pub world_lines : List WorldEvent → List (List ℕ)
world_lines world = codes "world 1" ∷ map world_line world

abbrev pub world_text : List WorldEvent → List ℕ
world_text world = text_of (world_lines world)

-- the text spells the world
abbrev pub SpellsWorld : List ℕ → List WorldEvent → Type 0
SpellsWorld text world = text ≡ world_text world

-- a text of a length that some specification may pick
abbrev pub IsPick : List ℕ → Type 0
IsPick text = IsText text × (MIN_PICK ≤ length text) × (length text ≤ MAX_PICK)

-- A server event may stand in a world of a shape: its connection and message are of the shape, its arm is one that some specification may
-- have, and its text one that some specification may pick.
abbrev pub IsServerEvent : Shape → ServerEvent → Type 0
IsServerEvent shape (Take conn message) = (conn < shape.conns) × IsMessage shape message
IsServerEvent shape (Arm arm) = arm ≤ MAX_ARM
IsServerEvent shape (Test outcome) = Unit {0}
IsServerEvent shape (Pick text) = IsPick text
IsServerEvent shape (Send conn message) = (conn < shape.conns) × IsMessage shape message

abbrev pub IsWorldEvent : Shape → WorldEvent → Type 0
IsWorldEvent shape (Client event) = IsOfShape shape event
IsWorldEvent shape (Server event) = IsServerEvent shape event

-- A world fits a shape where each event may stand in one of the shape, and it has no more events than the greatest number.
abbrev pub FitsWorld : Shape → List WorldEvent → Type 0
FitsWorld shape world = AllByRecursion (IsWorldEvent shape) world × (length world ≤ MAX_WORLD_EVENTS)

-- the refusal of a text as that of a world of the shape
abbrev pub IsWorldRefused : Shape → List ℕ → TextRefusal → Type 0
IsWorldRefused shape text refusal =
    IsRefused 1 MAX_WORLD_EVENTS (HasEventForm (codes "world 1") world_line (IsWorldEvent shape)) text refusal
