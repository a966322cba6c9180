-- The numbers of faults, and their order.
use Rattle.std.specs.Prelude.{◌≡◌, ℕ, ◌<◌, ◌⊎◌}
use Rattle.spec_rules.specs.declared.fault.Fault.{Fault}
use Rattle.spec_rules.specs.declared.fault.Fault.TheVariants.{UnknownName, DoubleName, WrongType, NoTake, TakeInStart, PickLength, TooManyCompares, Limit}
use Rattle.spec_rules.specs.declared.fault.Limit.TheVariants.{Message, Conns, WrittenConn, Registers, Tables, Stmts, Cases, Items, Parts, Arms, Text}
use Rattle.spec_rules.specs.declared.fault.Limit as limits

abbrev pub kind_number : Fault → ℕ
kind_number UnknownName = 1
kind_number DoubleName = 2
kind_number WrongType = 3
kind_number NoTake = 4
kind_number TakeInStart = 5
kind_number PickLength = 6
kind_number TooManyCompares = 7
kind_number (Limit limit) = 8

abbrev pub limit_number : limits.Limit → ℕ
limit_number Message = 1
limit_number Conns = 2
limit_number WrittenConn = 3
limit_number Registers = 4
limit_number Tables = 5
limit_number Stmts = 6
limit_number Cases = 7
limit_number Items = 8
limit_number Parts = 9
limit_number Arms = 10
limit_number Text = 11

-- The number of a fault's limit, and 0 for a fault of another kind.
abbrev pub which_number : Fault → ℕ
which_number (Limit limit) = limit_number limit
which_number _ = 0

-- Faults are ordered by their places in the text, then by their kinds, and then by their limits.
abbrev pub IsBefore : ℕ → Fault → ℕ → Fault → Type 0
IsBefore at fault other_at other =
    (at < other_at) ⊎ ((at ≡ other_at) × ((kind_number fault < kind_number other)
    ⊎ ((kind_number fault ≡ kind_number other) × (which_number fault < which_number other))))
