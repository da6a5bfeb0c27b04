-- Fractions whose numerator and denominator have at most 31 bits.
use Rattle.std.specs.Prelude.{ℕ, Bool, ◌&&◌, ◌||◌, ℤ, pos, ◌==◌, int_lt, nat_le, nat_lt, unsigned_abs}
use Rattle.algebra.specs.Gcd.{gcd}
use Rattle.algebra.specs.Rationals.{ℚ}
use Rattle.kinds.specs.declared.fault.Fault.{Fault}
use Rattle.kinds.specs.declared.fault.Question.TheVariants.{Denominator, Range, Divisor}
use Rattle.kinds.specs.Faults.{fault}

abbrev pub limit : ℕ
limit = 2147483647

-- n and d write a fraction in lowest terms, within the limit
unfoldable pub sound : ℤ → ℤ → Bool
sound n d = int_lt (pos 0) d && (nat_le (unsigned_abs d) limit && (nat_le (unsigned_abs n) limit && gcd (unsigned_abs n) (unsigned_abs d) == 1))

-- q is too large to be written
unfoldable pub outside : ℚ → Bool
outside q = nat_lt limit (unsigned_abs q.num) || nat_lt limit q.den

unfoldable pub is_zero : ℚ → Bool
is_zero q = unsigned_abs q.num == 0

abbrev pub too_large : Fault
too_large = fault Range 0 0

abbrev pub no_fraction : Fault
no_fraction = fault Denominator 0 0

abbrev pub no_inverse : Fault
no_inverse = fault Divisor 0 0
