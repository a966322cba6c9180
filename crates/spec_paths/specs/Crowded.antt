-- Which places of a specification are crowded.
use Rattle.std.specs.Prelude.{◌≡◌, ℕ, [], ◌⊎◌, Option, Some, None}
use Rattle.spec_model.specs.declared.tree.Block.{Block, out-Block}
use Rattle.spec_model.specs.declared.tree.Case.{Case, out-Case}
use Rattle.spec_model.specs.Config.{stmts_of}
use Rattle.spec_rules.specs.Bad.{PassesTooMany}
use Rattle.spec_paths.specs.Ahead.{IsCrowded}

abbrev pub block_of_case : Case → Block
block_of_case case = (out-Case case).block

-- The place is that of `start`, from which a path passes too many, or it is crowded in its block.
abbrev pub IsCrowdedInStart : Option Block → ℕ → Type 0
IsCrowdedInStart None at = ⊥
IsCrowdedInStart (Some start) at = ((out-Block start).at ≡ at) × PassesTooMany (stmts_of start) ⊎ IsCrowded (stmts_of start) [] at
