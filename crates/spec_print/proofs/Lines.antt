-- The beginnings of lines.
use Rattle.std.proofs.Common.{◌≡◌, ℕ, ◌+◌, ◌*◌, List, [], ◌∷◌, ◌++◌, ap, ◌∙◌, arith, append_assoc}
use Rattle.std.specs.Prelude.{replicate}
use Rattle.std.proofs.lemmas.List.{replicate-append-replicate}
use Rattle.spec_model.specs.Canonical.{new_line}
use Rattle.spec_model.specs.Message.{line_feed}

pub one_deeper : (text before : List ℕ) (depth : ℕ) → text ≡ before ++ new_line depth → text ++ 32 ∷ 32 ∷ [] ≡ before ++ new_line (depth + 1)
one_deeper text before depth e =
    let spaces : replicate (2 * depth) 32 ++ 32 ∷ 32 ∷ [] ≡ replicate (2 * depth + 2) 32 = replicate-append-replicate (2 * depth) 2 32 in
    let count : 2 * depth + 2 ≡ 2 * (depth + 1) = omega arith in
    ap (λ t. t ++ 32 ∷ 32 ∷ []) e ∙ (append_assoc before (new_line depth) (32 ∷ 32 ∷ [])
    ∙ ap (λ s. before ++ line_feed ∷ s) (spaces ∙ ap (λ n. replicate n 32) count))
