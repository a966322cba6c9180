-- What is told, piece by piece.
use Rattle.std.proofs.Common.{◌≡◌, ℕ, ◌+◌, ◌-◌, List, ◌++◌, length, take, drop, Option, Some, None, refl, sym, ap, ◌∙◌, append_assoc}
use Rattle.std.proofs.Math.Seq.{take-add}
use Rattle.std.proofs.lemmas.List.{take_rest}
use Rattle.dt_ports.specs.Told.{told_with}

-- the first bytes, and then the first of the rest, are the first bytes of the whole
told_with-take : (n m : ℕ) (bytes : List ℕ) (told : Option (List ℕ)) →
    told_with (take m (drop n bytes)) (told_with (take n bytes) told) ≡ told_with (take (n + m) bytes) told
told_with-take n m bytes None = refl
told_with-take n m bytes (Some before) =
    ap Some (append_assoc before (take n bytes) (take m (drop n bytes)) ∙ ap (λ more. before ++ more) (sym (take-add n m bytes)))

-- After the first n bytes were told, and then m of the slice of those behind them, the first n + m are.
pub told_with-next : (n m : ℕ) (bytes : List ℕ) (first : Option (List ℕ)) {before after : Option (List ℕ)} →
    before ≡ told_with (take n bytes) first →
    after ≡ told_with (take m (take (length bytes - n) (drop n bytes))) before →
    after ≡ told_with (take (n + m) bytes) first
told_with-next n m bytes first {before} so_far next =
    next ∙ ap (λ rest. told_with (take m rest) before) (take_rest bytes n) ∙ ap (told_with (take m (drop n bytes))) so_far
    ∙ told_with-take n m bytes first
