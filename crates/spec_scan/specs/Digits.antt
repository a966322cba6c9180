-- The value of a hexadecimal digit that was read.
use Rattle.std.specs.Prelude.{Bool, true, nat_lt}
use Rattle.spec_scan.specs.declared.part.Part.{Part}
use Rattle.spec_scan.specs.declared.part.Part.TheVariants.{SecondDigit}

-- whether a digit's value is below 16
abbrev pub is_part : Part → Bool
is_part (SecondDigit at text high) = nat_lt high 16
is_part _ = true
