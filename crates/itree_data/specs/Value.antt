-- What the values of nodes stand for.
use Rattle.std.specs.Prelude.{ℕ, Bool, List, [], ◌∷◌, slice_get, Option, Some, None}
use Rattle.spec_model.specs.declared.config.Value.{Value}
use Rattle.spec_model.specs.declared.config.Value.TheVariants.{Text, Number}
use Rattle.spec_model.specs.declared.tree.Op.{Op}
use Rattle.spec_model.specs.declared.tree.Sign.{Sign}
use Rattle.spec_model.specs.Value.{◌>>=◌, as_text, as_number, comparison, sent_as, sum_or_difference}
use Rattle.itree_data.specs.declared.node.Val.{Val}
use Rattle.itree_data.specs.declared.node.Val.TheVariants as vals
use Rattle.itree_data.specs.Standing.{Standing}

abbrev pub value_at : Standing → Val → Option Value
value_at t (vals.Text text) = Some (Text text)
value_at t (vals.Num number) = Some (Number number)
value_at t (vals.Conn number) = Some (Number number)
value_at t (vals.Register register) = slice_get t.registers register
value_at t (vals.Local slot) = slice_get t.locals slot

abbrev pub text_at : Standing → Val → Option (List ℕ)
text_at t val = value_at t val >>= as_text

-- a number, or a connection by its number
abbrev pub number_at : Standing → Val → Option ℕ
number_at t val = value_at t val >>= as_number

-- whether two values compare so
abbrev pub truth_at : Standing → Val → Op → Val → Option Bool
truth_at t left op right = do
  a ← value_at t left
  b ← value_at t right
  comparison op a b

-- the texts of the parts of a send, each as it is sent
abbrev pub pieces_at : Standing → List Val → Option (List (List ℕ))
pieces_at t [] = Some []
pieces_at t (part ∷ parts) = do
  value ← value_at t part
  pieces ← pieces_at t parts
  Some (sent_as value ∷ pieces)

-- the value that is assigned: one value, or a sum or difference of numbers
abbrev pub value_assigned : Standing → Val → Option (Sign × Val) → Option Value
value_assigned t left None = value_at t left
value_assigned t left (Some tail) = do
  a ← number_at t left
  b ← number_at t tail.1
  Some (Number (sum_or_difference tail.0 a b))
