-- The slots that nodes bind and read.
use Rattle.std.specs.Prelude.{ℕ, ◌<◌, Option, Some, None}
use Rattle.std.specs.List.{AllByRecursion}
use Rattle.spec_model.specs.declared.tree.Sign.{Sign}
use Rattle.itree_data.specs.declared.node.Change.TheVariants as changes
use Rattle.itree_data.specs.declared.node.Check.TheVariants as checks
use Rattle.itree_data.specs.declared.node.Node.{Node}
use Rattle.itree_data.specs.declared.node.Node.TheVariants as nodes
use Rattle.itree_data.specs.declared.node.Slotted.{Slotted}
use Rattle.itree_data.specs.declared.node.Slotted.TheVariants.{Lit, Hole}
use Rattle.itree_data.specs.declared.node.TakeCase.{TakeCase}
use Rattle.itree_data.specs.declared.node.Val.{Val}
use Rattle.itree_data.specs.declared.node.Val.TheVariants as vals

-- The slot that a part of a pattern binds is below this number.
abbrev pub IsPartBelow : ℕ → Slotted → Type 0
IsPartBelow slots (Lit text) = Unit {0}
IsPartBelow slots (Hole slot kind) = slot < slots

abbrev pub IsCaseBelow : ℕ → TakeCase → Type 0
IsCaseBelow slots case = AllByRecursion (IsPartBelow slots) case.items

abbrev pub IsConnBelow : ℕ → Option ℕ → Type 0
IsConnBelow slots None = Unit {0}
IsConnBelow slots (Some slot) = slot < slots

-- The slots that a node binds are below this number.
abbrev pub BindsBelow : ℕ → Node → Type 0
BindsBelow slots (nodes.Take from conn cases other next) = IsConnBelow slots conn × AllByRecursion (IsCaseBelow slots) cases × (other < slots)
BindsBelow slots (nodes.Choose slot len alphabet next) = slot < slots
BindsBelow slots (nodes.Store (changes.Bind slot table) next) = slot < slots
BindsBelow slots _ = Unit {0}

-- A value is read from no slot, or from one below this number.
abbrev pub IsReadBelow : ℕ → Val → Type 0
IsReadBelow slots (vals.Local slot) = slot < slots
IsReadBelow slots _ = Unit {0}

abbrev pub IsFromBelow : ℕ → Option Val → Type 0
IsFromBelow slots None = Unit {0}
IsFromBelow slots (Some val) = IsReadBelow slots val

abbrev pub IsTailBelow : ℕ → Option (Sign × Val) → Type 0
IsTailBelow slots None = Unit {0}
IsTailBelow slots (Some tail) = IsReadBelow slots tail.1

-- The slots that a node reads are below this number.
abbrev pub ReadsBelow : ℕ → Node → Type 0
ReadsBelow slots (nodes.Take from conn cases other next) = IsFromBelow slots from
ReadsBelow slots (nodes.Send conn parts next) = IsReadBelow slots conn × AllByRecursion (IsReadBelow slots) parts
ReadsBelow slots (nodes.Branch (checks.Cond left op right) holds fails) = IsReadBelow slots left × IsReadBelow slots right
ReadsBelow slots (nodes.Branch (checks.Scan table key) holds fails) = IsReadBelow slots key
ReadsBelow slots (nodes.Store (changes.Assign register left tail) next) = IsReadBelow slots left × IsTailBelow slots tail
ReadsBelow slots (nodes.Store (changes.Renew table value) next) = IsReadBelow slots value
ReadsBelow slots (nodes.Store (changes.Add table key value) next) = IsReadBelow slots key × IsReadBelow slots value
ReadsBelow slots _ = Unit {0}
