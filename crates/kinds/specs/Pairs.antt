-- Plain pairs, what they mean, and the pair that writes a number.
use Rattle.std.specs.Prelude.{cond, pos, Err, Result}
use Rattle.algebra.specs.Rationals.{ℚ, zeroℚ, ratio, invert}
use Rattle.kinds.specs.declared.fault.Fault.{Fault}
use Rattle.kinds.specs.declared.pairs.Pair.{Pair}
use Rattle.kinds.specs.Arith.{settled}
use Rattle.kinds.specs.Bounded.{sound, outside, is_zero, no_inverse}

-- a pair that is no fraction in lowest terms, within the limit, means zero
unfoldable pub mean : Pair → ℚ
mean p = cond (sound p.num p.den) (ratio p.num p.den) zeroℚ

unfoldable pub put : ℚ → Pair
put q = record { num = q.num; den = pos q.den }

-- the pair that writes q, or the refusal
abbrev pub written : ℚ → Result Pair Fault
written q = settled put (outside q) q

abbrev pub written_inverse : ℚ → Result Pair Fault
written_inverse q = cond (is_zero q) (Err no_inverse) (written (invert q))
