-- The answers of a check.
use Rattle.std.specs.Prelude.{ℕ}
use Rattle.spec_rules.specs.declared.fault.Fault.{Fault}
use Rattle.spec_check.specs.declared.check.CheckRefusal.{CheckRefusal}
use Rattle.spec_check.specs.declared.check.CheckRefusal.TheVariants.{Bad, Memory}

-- A fact about every refusal but want of memory.
abbrev pub UnlessMemory : CheckRefusal → Type 0 → Type 0
UnlessMemory Memory fact = Unit {0}
UnlessMemory (Bad fault at) fact = fact

-- A fact about the fault of a refusal and its place.
abbrev pub IfBad : CheckRefusal → (Fault → ℕ → Type 0) → Type 0
IfBad (Bad fault at) Fact = Fact fault at
IfBad Memory Fact = Unit {0}
