-- Links of which each is fresh.
use Rattle.std.proofs.Common.{◌≡◌, List, ◌∷◌, All, subst}
use Rattle.std.proofs.lemmas.List.Elements.{All-tail}

-- What holds of each item holds of each behind the first.
pub all_behind : {X : Type 0} (P : X → Type 0) {items : List X} (first : X) (rest : List X) → items ≡ first ∷ rest → All P items → All P rest
all_behind P first rest is all = All-tail P first rest (subst (All P) is all)
