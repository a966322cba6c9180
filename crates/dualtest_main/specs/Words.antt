-- The words that the program is given.
use Rattle.std.specs.Prelude.{◌≡◌, ◌≢◌, ℕ, ◌<◌, ◌≤◌, ◌^◌, List, [], ◌∷◌, codes, decimal}
use Rattle.std.specs.List.{AllByRecursion}
use Rattle.net_world.specs.declared.TheConstants.{CONNS}
use Rattle.script_gen.specs.declared.script.TheConstants.{MAX_STEPS}
use Rattle.dualtest_main.specs.declared.recipe.Recipe.{Recipe}

-- A command, with the names of its files, and the numbers from which it makes a script.
pub data Command : Type 0 where
  check : (spec : List ℕ) → Command
  judge : (spec exchange : List ℕ) → Command
  replay : (spec exchange world : List ℕ) → Command
  script : (spec : List ℕ) (recipe : Recipe) → Command

-- the name of the file of a specification, which is the first
abbrev pub spec_of : Command → List ℕ
spec_of (check spec) = spec
spec_of (judge spec exchange) = spec
spec_of (replay spec exchange world) = spec
spec_of (script spec recipe) = spec

-- This is the name of the file of an exchange, which is the second, if the command has one.
abbrev pub NamesExchange : Command → List ℕ → Type 0
NamesExchange (check spec) name = ⊥
NamesExchange (judge spec exchange) name = name ≡ exchange
NamesExchange (replay spec exchange world) name = name ≡ exchange
NamesExchange (script spec recipe) name = ⊥

abbrev pub files_of : Command → List (List ℕ)
files_of (check spec) = spec ∷ []
files_of (judge spec exchange) = spec ∷ exchange ∷ []
files_of (replay spec exchange world) = spec ∷ exchange ∷ world ∷ []
files_of (script spec recipe) = spec ∷ []

-- the words of the numbers of a script: in decimal, without sign and leading zeros
abbrev pub recipe_words : Recipe → List (List ℕ)
recipe_words recipe = decimal recipe.seed ∷ decimal recipe.conns ∷ decimal recipe.steps ∷ []

-- The numbers of a script are within their bounds. Of a seed, that is 64 bits.
pub record IsWithinBounds (recipe : Recipe) : Type 0 where
  pub seed : recipe.seed < 2 ^ 64
  pub one_conn : 1 ≤ recipe.conns
  pub conns : recipe.conns ≤ CONNS
  pub steps : recipe.steps ≤ MAX_STEPS

-- the words of a command: first its own one
abbrev pub words_of : Command → List (List ℕ)
words_of (check spec) = codes "check" ∷ spec ∷ []
words_of (judge spec exchange) = codes "judge" ∷ spec ∷ exchange ∷ []
words_of (replay spec exchange world) = codes "replay" ∷ spec ∷ exchange ∷ world ∷ []
words_of (script spec recipe) = codes "script" ∷ spec ∷ recipe_words recipe

-- the numbers of a command, if it has any, are within their bounds
abbrev pub HasBoundedNumbers : Command → Type 0
HasBoundedNumbers (script spec recipe) = IsWithinBounds recipe
HasBoundedNumbers _ = Unit {0}

-- The words are those of the command: none of the names of its files is empty, and its numbers are within their bounds.
pub record Asks (words : List (List ℕ)) (command : Command) : Type 0 where
  pub words_are : words ≡ words_of command
  pub named : AllByRecursion (λ name. name ≢ []) (files_of command)
  pub bounded : HasBoundedNumbers command

abbrev pub IsCommand : List (List ℕ) → Type 0
IsCommand words = (command : Command) × Asks words command
