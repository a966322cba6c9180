-- Pieces joined.
use Rattle.std.proofs.Common.{◌≡◌, ℕ, ◌+◌, ◌<◌, List, [], ◌∷◌, ◌++◌, take, get_or, length, refl, append-nil}
use Rattle.std.specs.List.{concat}
use Rattle.std.proofs.lemmas.List.{take_more}
use Rattle.std.proofs.lemmas.List.Folds.{concat-append}

-- one piece more is joined to those before it
pub joined_next : (pieces : List (List ℕ)) (place : ℕ) (piece text : List ℕ) → place < length pieces → piece ≡ get_or pieces place piece
    → text ≡ concat (take place pieces) → text ++ piece ≡ concat (take (place + 1) pieces)
joined_next pieces place piece text within is so_far =
    let last : concat (get_or pieces place piece ∷ []) ≡ get_or pieces place piece = append-nil (get_or pieces place piece) in
    rw (take_more pieces place piece within, concat-append, last, ← so_far, ← is) refl
