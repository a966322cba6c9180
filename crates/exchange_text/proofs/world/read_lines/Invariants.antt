use Rattle.std.proofs.Common.{[], ◌∷◌, codes, length}
use Rattle.exchange_text.specs.WorldText.{IsWorldEvent}
use Rattle.exchange_text.specs.declared.world.TheConstants.{MAX_WORLD_EVENTS}
use Rattle.exchange_text.specs.EventLine.{world_line}
use Rattle.exchange_text.proofs.WorldReading.{HasWorldForm}
use Rattle.exchange_text.proofs.Reading.{HasRead}
use Rattle.exchange_text.proofs.world.read_lines.Given as goal

abbrev pub invariant-loop-world : goal.invariant-loop-world
invariant-loop-world l = HasRead world_line (IsWorldEvent l.shape) (codes "world 1" ∷ []) MAX_WORLD_EVENTS (HasWorldForm l.shape) l.text l.world.items l.rest

abbrev pub decreases-loop-world : goal.decreases-loop-world
decreases-loop-world l = length l.rest
