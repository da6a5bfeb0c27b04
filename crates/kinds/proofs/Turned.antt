-- The inverse of a fraction: its parts change places.
use Rattle.std.proofs.Common.{◌≡◌, true, false, pos, ◌-ℤ◌, neg_ℤ, nat_abs, ◌<ℤ◌, Ok, Err, MatchBool, Result, sym, refl, ap, ◌∙◌, subst, ap₂, subst₂, arith}
use Rattle.std.proofs.lemmas.Int.{ints}
use Rattle.std.proofs.lemmas.Bool.{ne_eqb, eq-eqb}
use Rattle.algebra.specs.Gcd.{gcd, gcd_comm}
use Rattle.algebra.specs.Integers.{abs_neg}
use Rattle.algebra.specs.Rationals.{ratio, ratio_sign, invert}
use Rattle.kinds.specs.declared.fault.Fault.{Fault}
use Rattle.kinds.specs.declared.fraction.Fraction.{Fraction}
use Rattle.kinds.specs.Bounded.{outside, no_inverse}
use Rattle.kinds.specs.Fractions.{Answer, Inverted, value}
use Rattle.kinds.specs.Sound.{Sound, sound_num, sound_den, sound_inside}
use Rattle.kinds.proofs.Held.{held, sound_of}
use Rattle.kinds.proofs.Bounds.{bits_of, back, zero_tested}

module _ (f : Fraction) where
  pub turned_sound : pos 0 <ℤ f.num → Sound (bits_of f.den) (bits_of f.num)
  turned_sound h =
      let s = f.small in
      let l = f.low in
      subst₂ Sound (sym (back f.den (omega arith))) (sym (back f.num (omega arith)))
      (held f.den f.num h s l (gcd_comm (nat_abs f.den) (nat_abs f.num) ∙ f.coprime))

  pub turned_sound_neg : f.num <ℤ pos 0 → Sound (bits_of (pos 0 -ℤ bits_of f.den)) (bits_of (pos 0 -ℤ bits_of f.num))
  turned_sound_neg h =
      let s = f.small in
      let l = f.low in
      let x : neg_ℤ f.den ≡ bits_of (pos 0 -ℤ bits_of f.den) = omega (arith, ints) in
      let y : neg_ℤ f.num ≡ bits_of (pos 0 -ℤ bits_of f.num) = omega (arith, ints) in
      subst₂ Sound x y
      (held (neg_ℤ f.den) (neg_ℤ f.num) (omega (arith, ints)) (omega (arith, ints)) (omega (arith, ints))
      (ap₂ gcd (abs_neg f.den) (abs_neg f.num) ∙ gcd_comm (nat_abs f.den) (nat_abs f.num) ∙ f.coprime))

  inverse_is : ratio f.den f.num ≡ invert (value f)
  unfolding invert value
  inverse_is = let s = sound_of f in ap₂ ratio (sym (sound_den f.num f.den s)) (sym (sound_num f.num f.den s))

  pub turned_refused : nat_abs f.num ≡ 0 → Inverted (value f) (Err no_inverse)
  unfolding value
  turned_refused e =
      subst (λ t. MatchBool t (◌≡◌ {A = Result Fraction Fault} (Err no_inverse) (Err no_inverse)) (Answer (invert (value f)) (Err no_inverse)))
      (sym (zero_tested f.num f.den true (sound_of f) (eq-eqb (nat_abs f.num) 0 e))) refl

  module _ (g : Fraction) (h : ¬ (nat_abs f.num ≡ 0)) where
    told : value g ≡ invert (value f) → Inverted (value f) (Ok g)
    unfolding value
    told e =
        subst (λ t. MatchBool t (◌≡◌ {A = Result Fraction Fault} (Ok g) (Err no_inverse)) (Answer (invert (value f)) (Ok g)))
        (sym (zero_tested f.num f.den false (sound_of f) (ne_eqb (nat_abs f.num) 0 h)))
        (ap outside (sym e) ∙ sound_inside g.num g.den (sound_of g), e)

    pub turned_told : g.num ≡ f.den → g.den ≡ f.num → Inverted (value f) (Ok g)
    unfolding value
    turned_told p q = told (ap₂ ratio p q ∙ inverse_is)

    pub turned_told_neg : g.num ≡ neg_ℤ f.den → g.den ≡ neg_ℤ f.num → Inverted (value f) (Ok g)
    unfolding value
    turned_told_neg p q = told (ap₂ ratio p q ∙ ratio_sign f.den f.num ∙ inverse_is)
