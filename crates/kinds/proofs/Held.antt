-- What a Fraction holds, as one record, and the test of a pair part by part.
use Rattle.std.proofs.Common.{◌≡◌, ◌<◌, ◌≤◌, true, eqb, ℤ, pos, negsuc, nat_abs, ◌<ℤ◌, sym, refl, ap, ◌∙◌, subst, arith, ltb→lt, lt→ltb}
use lib.Signed.{lt_z}
use Rattle.std.proofs.lemmas.Bool.{le-leb, lt-ltb, eq-eqb, or_left}
use Rattle.algebra.specs.Gcd.{gcd, gcd_one}
use Rattle.algebra.specs.Rationals.{ratio, ratio_num}
use Rattle.kinds.specs.declared.fraction.Fraction.{Fraction}
use Rattle.kinds.specs.Bounded.{limit, sound, outside}
use Rattle.kinds.specs.Sound.{Sound}

-- from what a Fraction holds
pub held : (n d : ℤ) → pos 0 <ℤ d → nat_abs d ≤ limit → nat_abs n ≤ limit → gcd (nat_abs n) (nat_abs d) ≡ 1 → Sound n d
held n (pos d) p q r e = record { whole = refl; some = ltb→lt 0 d p.lt; small_den = q; small_num = r; coprime = e }
held n (negsuc d) p q r e = absurd p.lt

pub sound_of : (f : Fraction) → Sound f.num f.den
sound_of f = held f.num f.den f.some f.low f.small f.coprime

some_of : (n d : ℤ) → Sound n d → pos 0 <ℤ d
some_of n d s = subst (λ t. pos 0 <ℤ t) (sym s.whole) (record { lt = lt→ltb 0 (nat_abs d) s.some })

-- only the numerator can be too large
pub num_outside : (n d : ℤ) → pos 0 <ℤ d → gcd (nat_abs n) (nat_abs d) ≡ 1 → limit < nat_abs n → outside (ratio n d) ≡ true
unfolding outside
num_outside n (pos d) p e h =
    or_left _ _ (lt-ltb limit _ (subst (λ t. limit < nat_abs t) (sym (ratio_num n d (ltb→lt 0 d p.lt) e)) h))
num_outside n (negsuc d) p e h = absurd p.lt

-- what is owed where a Fraction is made
pub parts : (n d : ℤ) → Sound n d → record { some : pos 0 <ℤ d; low : nat_abs d ≤ limit; small : nat_abs n ≤ limit; coprime : gcd (nat_abs n) (nat_abs d) ≡ 1 }
parts n d s = record { some = some_of n d s; low = s.small_den; small = s.small_num; coprime = s.coprime }

-- ---- the test

pub only_gcd : (n d : ℤ) → lt_z (pos 0) d ≡ true → nat_abs d ≤ limit → nat_abs n ≤ limit → eqb (gcd (nat_abs n) (nat_abs d)) 1 ≡ sound n d
unfolding sound
only_gcd n d e p q = rw (e, le-leb (nat_abs d) limit p, le-leb (nat_abs n) limit q)

pub over_one : (n d : ℤ) → lt_z (pos 0) d ≡ true → nat_abs d ≡ 1 → nat_abs n ≤ limit → true ≡ sound n d
over_one n d e one q =
    sym (eq-eqb _ 1 (ap (gcd (nat_abs n)) one ∙ gcd_one (nat_abs n))) ∙ only_gcd n d e (omega arith) q
