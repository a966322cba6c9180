-- States are equal where their fields are.
use Rattle.std.proofs.Common.{◌≡◌, ℕ, List}
use Rattle.spec_model.specs.declared.config.Pair.{Pair}
use Rattle.spec_model.specs.declared.config.Value.{Value}
use Rattle.dual_step.specs.declared.state.State.{State}

abbrev state_of : ℕ → ℕ → List Value → List (List Pair) → List Value → List (List (List (List ℕ))) → State
state_of node compared registers tables locals pending =
    record { node = node; compared = compared; registers = registers; tables = tables; locals = locals; pending = pending }

same_fields : (node node' compared compared' : ℕ) (registers registers' : List Value) (tables tables' : List (List Pair)) (locals locals' : List Value)
    (pending pending' : List (List (List (List ℕ)))) → node ≡ node' → compared ≡ compared' → registers ≡ registers' → tables ≡ tables' → locals ≡ locals'
    → pending ≡ pending' → state_of node compared registers tables locals pending ≡ state_of node' compared' registers' tables' locals' pending'
same_fields node node' compared compared' registers registers' tables tables' locals locals' pending pending' a b c d e f = cc

pub same_states : (s r : State) → s.node ≡ r.node → s.compared ≡ r.compared → s.registers ≡ r.registers → s.tables ≡ r.tables → s.locals ≡ r.locals
    → s.pending ≡ r.pending → s ≡ r
same_states s r = same_fields s.node r.node s.compared r.compared s.registers r.registers s.tables r.tables s.locals r.locals s.pending r.pending
