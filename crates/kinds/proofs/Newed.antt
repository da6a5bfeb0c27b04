-- What `Fraction::new` computes is the ratio in lowest terms.
use Rattle.std.proofs.Common.{◌≡◌, ℕ, ◌/◌, ◌<◌, ◌≤◌, false, ◌⊎◌, ℤ, pos, nat_abs, Ok, Err, MatchBool, Result, sym, refl, ap, ◌∙◌, subst, ap₂, subst₂, inl, inr, arith}
use Rattle.std.proofs.lemmas.Bool.{lt-ltb, le-ltb, ne_eqb, or_from, or_left, or_right}
use Rattle.kinds.specs.declared.fault.Fault.{Fault}
use Rattle.algebra.specs.Gcd.{gcd, gcd_pos}
use Rattle.algebra.specs.Rationals.{ratio, ratio_own, ratio_num_is, ratio_den_is, opposite, signed, abs_signed}
use Rattle.kinds.specs.Bounded.{limit, outside, too_large, no_fraction}
use Rattle.kinds.specs.declared.fraction.Fraction.{Fraction}
use Rattle.kinds.specs.Fractions.{value, Answer, New}
use Rattle.kinds.specs.Sound.{put_held, Sound}

-- a, b and g are what the code has for |n|, |d| and their greatest common divisor
module _ (n d : ℤ) (a b g : ℕ) (ea : a ≡ nat_abs n) (eb : b ≡ nat_abs d) (eg : g ≡ gcd a b) (h : 0 < b) where
  pub divisor_pos : 0 < g
  divisor_pos = subst (λ t. 0 < t) (sym eg) (gcd_pos a b h)

  some : 0 < nat_abs d
  some = subst (λ t. 0 < t) eb h

  divisor : gcd (nat_abs n) (nat_abs d) ≡ g
  divisor = ap₂ gcd (sym ea) (sym eb) ∙ sym eg

  num_is : signed (opposite n d) (a / g) ≡ (ratio n d).num
  num_is = sym (ratio_num_is n d some ∙ ap (signed (opposite n d)) (ap₂ ◌/◌ (sym ea) divisor))

  den_is : b / g ≡ (ratio n d).den
  den_is = sym (ratio_den_is n d some ∙ ap₂ ◌/◌ (sym eb) divisor)

  abs_is : a / g ≡ nat_abs (ratio n d).num
  abs_is = sym (abs_signed (opposite n d) (a / g)) ∙ ap nat_abs num_is

  answered : (r : Result Fraction Fault) → Answer (ratio n d) r → New n d r
  answered r p = subst (λ t. MatchBool t (r ≡ Err no_fraction) (Answer (ratio n d) r)) (sym (ne_eqb (nat_abs d) 0 (λ e. let k = some in omega arith))) p

  pub too_large_told : (limit < a / g) ⊎ ((a / g ≤ limit) × (limit < b / g)) → New n d (Err too_large)
  unfolding outside
  too_large_told (inl k) = answered (Err too_large) (or_left _ _ (lt-ltb limit _ (subst (λ t. limit < t) abs_is k)), refl)
  too_large_told (inr k) = answered (Err too_large) (or_right _ _ (lt-ltb limit _ (subst (λ t. limit < t) den_is k.1)), refl)

  module _ (p : a / g ≤ limit) (q : b / g ≤ limit) (x y : ℤ) (ex : x ≡ signed (opposite n d) (a / g)) (ey : y ≡ pos (b / g)) where
    within : outside (ratio n d) ≡ false
    unfolding outside
    within = or_from _ _ (le-ltb limit _ (subst (λ t. t ≤ limit) abs_is p)) (le-ltb limit _ (subst (λ t. t ≤ limit) den_is q))

    x_is : x ≡ (ratio n d).num
    x_is = ex ∙ num_is

    y_is : y ≡ pos (ratio n d).den
    y_is = ey ∙ ap pos den_is

    pub sound_made : Sound x y
    sound_made = subst₂ Sound (sym x_is) (sym y_is) (put_held (ratio n d) within)

    pub made_told : (f : Fraction) → f.num ≡ x → f.den ≡ y → New n d (Ok f)
    unfolding value
    made_told f p q = answered (Ok f) (within, ap₂ ratio (p ∙ x_is) (q ∙ y_is) ∙ ratio_own (ratio n d))
