-- What a Fraction is worth, and what an operation answers.
use Rattle.std.specs.Prelude.{◌≡◌, true, false, ℤ, Ok, Err, MatchBool, Result, ◌==◌, unsigned_abs}
use Rattle.algebra.specs.Rationals.{ℚ, ratio, invert}
use Rattle.kinds.specs.declared.fault.Fault.{Fault}
use Rattle.kinds.specs.declared.fraction.Fraction.{Fraction}
use Rattle.kinds.specs.Bounded.{outside, is_zero, too_large, no_fraction, no_inverse}

unfoldable pub value : Fraction → ℚ
value f = ratio f.num f.den

-- q, or refused exactly where q is too large
abbrev pub Answer : ℚ → Result Fraction Fault → Type 0
Answer q (Ok f) = (outside q ≡ false) × (value f ≡ q)
Answer q (Err e) = (outside q ≡ true) × (e ≡ too_large)

-- n / d; a zero denominator is asked about first
abbrev pub New : ℤ → ℤ → Result Fraction Fault → Type 0
New n d r = MatchBool (unsigned_abs d == 0) (r ≡ Err no_fraction) (Answer (ratio n d) r)

-- 1 / q
abbrev pub Inverted : ℚ → Result Fraction Fault → Type 0
Inverted q r = MatchBool (is_zero q) (r ≡ Err no_inverse) (Answer (invert q) r)
