-- What names and written values stand for.
use Rattle.std.specs.Prelude.{ℕ, ◌+◌, ◌-◌, ◌^◌, min, Bool, true, false, not, nat_eq, nat_lt, List, Option, Some, None, find, option_map, option_and_then, bytes_eq, decimal}
use Rattle.std.specs.Option.{option_or}
use Rattle.spec_model.specs.declared.config.Value.{Value}
use Rattle.spec_model.specs.declared.config.Value.TheVariants.{Text, Number}
use Rattle.spec_model.specs.declared.config.Binding.{Binding}
use Rattle.spec_model.specs.declared.config.Config.{Config}
use Rattle.spec_model.specs.declared.tree.Expr.{Expr}
use Rattle.spec_model.specs.declared.tree.Expr.TheVariants as written
use Rattle.spec_model.specs.declared.tree.Cond.{Cond}
use Rattle.spec_model.specs.declared.tree.Op.{Op}
use Rattle.spec_model.specs.declared.tree.Op.TheVariants.{Same, Other, Less}
use Rattle.spec_model.specs.declared.tree.Sign.{Sign}
use Rattle.spec_model.specs.declared.tree.Sign.TheVariants.{Plus, Minus}

infixl 10 ◌>>=◌
-- what follows, where there is a value to go on with
abbrev pub ◌>>=◌ : {A B : Type 0} → Option A → (A → Option B) → Option B
o >>= f = option_and_then f o

-- what follows, where the test passed
abbrev pub only_if : {A : Type 0} → Bool → Option A → Option A
only_if true o = o
only_if false o = None

-- what a name is bound to
abbrev pub value_in : List Binding → List ℕ → Option Value
value_in bindings name = option_map (λ (b : Binding). b.value) (find (λ (b : Binding). bytes_eq b.name name) bindings)

-- What a name stands for: a local, or else a register.
abbrev pub value_named : Config → List ℕ → Option Value
value_named c name = option_or (value_in c.locals name) (value_in c.registers name)

-- what a written value stands for
abbrev pub value_of : Config → Expr → Option Value
value_of c (written.Text text) = Some (Text text)
value_of c (written.Num number) = Some (Number number)
value_of c (written.Name name) = value_named c name

abbrev pub as_text : Value → Option (List ℕ)
as_text (Text text) = Some text
as_text (Number number) = None

abbrev pub as_number : Value → Option ℕ
as_number (Text text) = None
as_number (Number number) = Some number

abbrev pub text_of : Config → Expr → Option (List ℕ)
text_of c e = value_of c e >>= as_text

-- a number, or a connection by its number
abbrev pub number_of : Config → Expr → Option ℕ
number_of c e = value_of c e >>= as_number

-- the text as which a value is sent: a text as it is, and a number in decimal
abbrev pub sent_as : Value → List ℕ
sent_as (Text text) = text
sent_as (Number number) = decimal number

-- the greatest number
abbrev pub greatest : ℕ
greatest = 2 ^ 64 - 1

-- A sum past the greatest number is that number, and a difference below 0 is 0.
abbrev pub sum_or_difference : Sign → ℕ → ℕ → ℕ
sum_or_difference Plus a b = min (a + b) greatest
sum_or_difference Minus a b = a - b

-- Whether two values compare so, where both are texts or both are numbers; only numbers compare by `<`.
abbrev pub comparison : Op → Value → Value → Option Bool
comparison Same (Text a) (Text b) = Some (bytes_eq a b)
comparison Same (Number a) (Number b) = Some (nat_eq a b)
comparison Other (Text a) (Text b) = Some (not (bytes_eq a b))
comparison Other (Number a) (Number b) = Some (not (nat_eq a b))
comparison Less (Number a) (Number b) = Some (nat_lt a b)
comparison _ _ _ = None

-- whether a condition holds
abbrev pub truth_of : Config → Cond → Option Bool
truth_of c cond = do
  left ← value_of c cond.left
  right ← value_of c cond.right
  comparison cond.op left right
