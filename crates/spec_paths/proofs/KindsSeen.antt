-- Kinds of statements without lists in them, one level deep.
use Rattle.std.proofs.Common.{◌≡◌, ℕ, List, Option, refl}
use Rattle.spec_model.specs.declared.tree.Alphabet.{Alphabet}
use Rattle.spec_model.specs.declared.tree.Block.{Block}
use Rattle.spec_model.specs.declared.tree.Cond.{Cond}
use Rattle.spec_model.specs.declared.tree.Expr.{Expr}
use Rattle.spec_model.specs.declared.tree.Sign.{Sign}
use Rattle.spec_model.specs.declared.tree.Kind.{out-Kind}
use Rattle.spec_model.specs.declared.tree.Kind.TheOpen as open_kinds
use Rattle.spec_model.specs.declared.tree.Kind.TheVariants as kinds

pub out-If : (cond : Cond) (holds fails : Block) → out-Kind (kinds.If cond holds fails) ≡ open_kinds.If cond holds fails
unfolding out-Kind denote.Hole.Carrier.out
out-If cond holds fails = refl

pub out-Lookup : (table : List ℕ) (key : Expr) (name : List ℕ) (found missing : Block)
    → out-Kind (kinds.Lookup table key name found missing) ≡ open_kinds.Lookup table key name found missing
unfolding out-Kind denote.Hole.Carrier.out
out-Lookup table key name found missing = refl

pub out-Send : (conn : Expr) (parts : List Expr) → out-Kind (kinds.Send conn parts) ≡ open_kinds.Send conn parts
unfolding out-Kind denote.Hole.Carrier.out
out-Send conn parts = refl

pub out-Pick : (name : List ℕ) (len : ℕ) (alphabet : Alphabet) → out-Kind (kinds.Pick name len alphabet) ≡ open_kinds.Pick name len alphabet
unfolding out-Kind denote.Hole.Carrier.out
out-Pick name len alphabet = refl

pub out-Assign : (name : List ℕ) (left : Expr) (tail : Option (Sign × Expr)) → out-Kind (kinds.Assign name left tail) ≡ open_kinds.Assign name left tail
unfolding out-Kind denote.Hole.Carrier.out
out-Assign name left tail = refl

pub out-Assume : (cond : Cond) → out-Kind (kinds.Assume cond) ≡ open_kinds.Assume cond
unfolding out-Kind denote.Hole.Carrier.out
out-Assume cond = refl

pub out-Put : (table : List ℕ) (key value : Expr) → out-Kind (kinds.Put table key value) ≡ open_kinds.Put table key value
unfolding out-Kind denote.Hole.Carrier.out
out-Put table key value = refl

pub out-Delete : (table : List ℕ) (key : Expr) → out-Kind (kinds.Delete table key) ≡ open_kinds.Delete table key
unfolding out-Kind denote.Hole.Carrier.out
out-Delete table key = refl
