-- What an event of each kind of statement leaves, before the silent work.
use Rattle.std.specs.Prelude.{◌&&◌, ◌==◌, ◌∷◌, ◌++◌, [], ℕ, Bool, List, Option, Some, if◌then◌else◌, length, option_map}
use Rattle.std.specs.Bool.{beq}
use Rattle.spec_model.specs.declared.config.Config.{Config}
use Rattle.spec_model.specs.declared.config.Task.{Task}
use Rattle.spec_model.specs.declared.config.Value.TheVariants.{Text}
use Rattle.spec_model.specs.declared.tree.Alphabet.{Alphabet}
use Rattle.spec_model.specs.declared.tree.Block.{Block}
use Rattle.spec_model.specs.declared.tree.Cond.{Cond}
use Rattle.spec_model.specs.declared.tree.Expr.{Expr}
use Rattle.spec_model.specs.declared.tree.Kind.TheOpen.{Assume, If}
use Rattle.spec_model.specs.declared.tree.Sign.{Sign}
use Rattle.spec_model.specs.declared.tree.Spec.{Spec}
use Rattle.spec_model.specs.declared.tree.Stmt.{Stmt}
use Rattle.spec_model.specs.Config.{StmtKind, after_entering, with_value}
use Rattle.spec_model.specs.Step.{after_comparison, assigned_value, may_be_picked}
use Rattle.spec_model.specs.Table.{after_miss, key_is_at, looked_up, pairs_in}
use Rattle.spec_model.specs.Value.{◌>>=◌, only_if, truth_of}

abbrev pub after_pick : Spec → Config → List Task → List ℕ → ℕ → Alphabet → List ℕ → Option Config
after_pick spec c rest name len alphabet text =
    only_if (may_be_picked spec.shape.framing len alphabet text)
    (Some (record c { todo = rest; locals = c.locals ++ record { name = name; value = Text text } ∷ [] }))

abbrev pub after_if : Config → List Task → Cond → Block → Block → Bool → Option Config
after_if c rest cond holds fails outcome = do
  truth ← truth_of c cond
  only_if (beq truth outcome) (Some (after_entering c rest (if outcome then holds else fails) []))

abbrev pub after_where : Config → List Task → Cond → Bool → Option Config
after_where c rest cond outcome = do
  truth ← truth_of c cond
  only_if (truth && outcome) (Some (record c { todo = rest }))

abbrev pub after_look_up : Config → List Task → Stmt → ℕ → StmtKind → Bool → Option Config
after_look_up c rest stmt passed kind outcome = do
  look_up ← looked_up kind
  equal ← key_is_at c look_up.0 look_up.1 passed
  only_if (beq equal outcome) (after_comparison c rest stmt passed kind outcome)

-- a test: of a condition, or of a key
abbrev pub after_test : Config → List Task → Stmt → ℕ → StmtKind → Bool → Option Config
after_test c rest stmt passed (If cond holds fails) outcome = after_if c rest cond holds fails outcome
after_test c rest stmt passed (Assume cond) outcome = after_where c rest cond outcome
after_test c rest stmt passed kind outcome = after_look_up c rest stmt passed kind outcome

abbrev pub after_assignment : Config → List Task → List ℕ → Expr → Option (Sign × Expr) → Option Config
after_assignment c rest name left tail =
    option_map (λ value. record c { todo = rest; registers = with_value c.registers name value }) (assigned_value c left tail)

-- a look-up that has passed all pairs ends
abbrev pub after_last_pair : Config → List Task → ℕ → StmtKind → Option Config
after_last_pair c rest passed kind = do
  look_up ← looked_up kind
  pairs ← pairs_in c look_up.0
  only_if (passed == length pairs) (after_miss c rest kind)
