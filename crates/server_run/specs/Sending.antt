-- Messages that are put together piece by piece.
use Rattle.std.specs.Prelude.{ℕ, ◌+◌, Bool, ◌&&◌, nat_le, List, length, Option, Some, is_some}
use Rattle.std.specs.List.{concat}
use Rattle.spec_model.specs.declared.config.Config.{Config}
use Rattle.spec_model.specs.declared.event.Shape.{Shape}
use Rattle.spec_model.specs.declared.tree.Expr.{Expr}
use Rattle.spec_model.specs.Message.{is_message}
use Rattle.spec_model.specs.Step.{parts_sent}
use Rattle.spec_model.specs.Value.{◌>>=◌, only_if}

-- the length of a message with one piece more, where it still is a message
abbrev pub len_with : Shape → Option ℕ → List ℕ → Option ℕ
len_with shape so_far piece = do
  len ← so_far
  only_if (is_message shape piece && nat_le (len + length piece) shape.limit) (Some (len + length piece))

-- whether parts have texts, which joined are a message
abbrev pub sends_message : Shape → Config → List Expr → Bool
sends_message shape c parts = is_some (parts_sent c parts >>= (λ pieces. only_if (is_message shape (concat pieces)) (Some (concat pieces))))
