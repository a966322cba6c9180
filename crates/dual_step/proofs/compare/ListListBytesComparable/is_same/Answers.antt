use Rattle.std.proofs.Common.{◌≡◌, Bool, List, refl}
use Rattle.std.proofs.lemmas.Bool.Decides.{Decides-eqb}
use Rattle.std.proofs.lemmas.Slice.Eq.{slice_eq-Decides}
use Rattle.std.specs.Bool.{Decides}
use Rattle.std.specs.Cmp.Lexicographic.{pointwise}
use Rattle.dual_step.proofs.compare.ListListBytesComparable.is_same.Goals as goal

lists_decide : {A : Type 0} (equal : A → A → Bool) → ((a b : A) → Decides (equal a b) (a ≡ b)) → (xs ys : List A) → Decides (pointwise equal xs ys) (xs ≡ ys)
lists_decide equal items_decide xs ys = slice_eq-Decides items_decide xs ys _ refl

pub returns : goal.returns
returns c = slice_eq-Decides (lists_decide _ (lists_decide _ Decides-eqb)) c.args.self.now c.args.other.now c.eq.result (c.eq.ensures)
