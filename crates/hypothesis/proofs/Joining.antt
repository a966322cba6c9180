-- Whether a message is the joined pieces: each piece is what the message goes on with.
use Rattle.std.proofs.Common.{◌≡◌, ℕ, ◌+◌, ◌<◌, List, ◌++◌, length, take, drop, get_or, refl, sym, ◌∙◌, ap, append_assoc, take-append-drop}
use Rattle.std.proofs.lemmas.List.{append_cancel_left}
use Rattle.std.proofs.lemmas.List.Folds.{concat-append}
use Rattle.std.specs.List.{concat}
use Rattle.spec_model.proofs.Joining.{joined_next as joined_more}

module _ (pieces : List (List ℕ)) (place : ℕ) (piece message rest : List ℕ) (within : place < length pieces) (is : piece ≡ get_or pieces place piece)
    (so_far : message ≡ concat (take place pieces) ++ rest) where
  pub joined_next : (later : List ℕ) → rest ≡ piece ++ later → message ≡ concat (take (place + 1) pieces) ++ later
  joined_next later begins =
      so_far ∙ ap (λ left. concat (take place pieces) ++ left) begins ∙ sym (append_assoc (concat (take place pieces)) piece later)
      ∙ ap (λ front. front ++ later) (joined_more pieces place piece _ within is refl)

  pub not_joined : ((later : List ℕ) → rest ≡ piece ++ later → ⊥) → concat pieces ≡ message → ⊥
  not_joined other same =
      let front = take (place + 1) pieces in
      let later = drop (place + 1) pieces in
      let whole : concat pieces ≡ concat front ++ concat later = ap concat (sym (take-append-drop (place + 1) pieces)) ∙ concat-append front later in
      let split : concat pieces ≡ concat (take place pieces) ++ (piece ++ concat later)
      = whole ∙ ap (λ joined. joined ++ concat later) (sym (joined_more pieces place piece _ within is refl)) ∙ append_assoc (concat (take place pieces)) piece (concat later) in
      other (concat later) (append_cancel_left (concat (take place pieces)) _ _ (sym so_far ∙ sym same ∙ split))
