-- Lemmas: pairs that are fractions in lowest terms, within the limit.
use Rattle.std.specs.Prelude.{◌≡◌, ◌<◌, ◌≤◌, true, false, ℤ, pos, negsuc, int_lt, unsigned_abs, refl}
use Rattle.std.proofs.Common.{sym, ◌∙◌, ap, subst}
use Rattle.std.proofs.lemmas.Bool.{ltb-true, ltb-false, leb-true, eqb-true, lt-ltb, le-ltb, le-leb, eq-eqb, and_parts, and_from, or_parts, or_from, false≢true}
use Rattle.algebra.specs.Gcd.{gcd}
use Rattle.algebra.specs.Rationals.{ℚ, ratio, ratio_num, ratio_den}
use Rattle.kinds.specs.Bounded.{limit, sound, outside}

pub record Sound (n d : ℤ) : Type 0 where
  pub whole : d ≡ pos (unsigned_abs d)
  pub some : 0 < unsigned_abs d
  pub small_den : unsigned_abs d ≤ limit
  pub small_num : unsigned_abs n ≤ limit
  pub coprime : gcd (unsigned_abs n) (unsigned_abs d) ≡ 1

positive : (d : ℤ) → int_lt (pos 0) d ≡ true → (d ≡ pos (unsigned_abs d)) × (0 < unsigned_abs d)
positive (pos d) e = (refl, ltb-true 0 d e)
positive (negsuc d) e = absurd (false≢true e)

above : (d : ℤ) → d ≡ pos (unsigned_abs d) → 0 < unsigned_abs d → int_lt (pos 0) d ≡ true
above d e h = ap (int_lt (pos 0)) e ∙ lt-ltb 0 (unsigned_abs d) h

pub sound_out : (n d : ℤ) → sound n d ≡ true → Sound n d
unfolding sound
sound_out n d e =
    let p = and_parts _ _ e in
    let q = and_parts _ _ p.1 in
    let r = and_parts _ _ q.1 in
    let s = positive d p.0 in
    record {
      whole = s.0;
      some = s.1;
      small_den = leb-true (unsigned_abs d) limit q.0;
      small_num = leb-true (unsigned_abs n) limit r.0;
      coprime = eqb-true (gcd (unsigned_abs n) (unsigned_abs d)) 1 r.1;
    }

pub sound_in : (n d : ℤ) → Sound n d → sound n d ≡ true
unfolding sound
sound_in n d s =
    and_from _ _ (above d s.whole s.some) (and_from _ _ (le-leb (unsigned_abs d) limit s.small_den) (and_from _ _ (le-leb (unsigned_abs n) limit s.small_num) (eq-eqb (gcd (unsigned_abs n) (unsigned_abs d)) 1 s.coprime)))

-- a number that is not too large is written by such a pair
pub put_held : (q : ℚ) → outside q ≡ false → Sound q.num (pos q.den)
unfolding outside
put_held q e =
    let p = or_parts _ _ e in
    record { whole = refl; some = q.positive; small_den = ltb-false limit q.den p.1; small_num = ltb-false limit (unsigned_abs q.num) p.0; coprime = q.lowest }

-- such a pair is the fraction that it is worth
pub sound_num : (n d : ℤ) → Sound n d → (ratio n d).num ≡ n
sound_num n d s = ap (λ t. (ratio n t).num) s.whole ∙ ratio_num n (unsigned_abs d) s.some s.coprime

pub sound_den : (n d : ℤ) → Sound n d → pos (ratio n d).den ≡ d
sound_den n d s = ap pos (ap (λ t. (ratio n t).den) s.whole ∙ ratio_den n (unsigned_abs d) s.some s.coprime) ∙ sym s.whole

pub sound_inside : (n d : ℤ) → Sound n d → outside (ratio n d) ≡ false
unfolding outside
sound_inside n d s =
    or_from _ _
    (le-ltb limit _ (subst (λ t. t ≤ limit) (sym (ap unsigned_abs (sound_num n d s))) s.small_num))
    (le-ltb limit _ (subst (λ t. t ≤ limit) (sym (ap unsigned_abs (sound_den n d s))) s.small_den))
