-- Which numbers are a modulus.
use Rattle.std.specs.Prelude.{ℕ, Bool, ◌&&◌, nat_le, nat_lt}
use Rattle.kinds.specs.declared.fault.Fault.{Fault}
use Rattle.kinds.specs.declared.fault.Question.TheVariants.{Modulus}
use Rattle.kinds.specs.Faults.{fault}

-- from 2 to 2147483647
abbrev pub is_modulus : ℕ → Bool
is_modulus m = nat_lt 1 m && nat_le m 2147483647

abbrev pub no_modulus : Fault
no_modulus = fault Modulus 0 0
