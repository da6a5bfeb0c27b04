-- Bounds and values of what the operations compute.
use Rattle.std.proofs.Common.{◌≡◌, ℕ, suc, ◌-◌, ◌*◌, ◌^◌, ◌<◌, ◌≤◌, Bool, eqb, ℤ, pos, negsuc, ◌+ℤ◌, ◌*ℤ◌, neg_ℤ, nat_abs, Err, MatchBool, Result, sym, refl, ap, ◌∙◌, subst, ap₂, subst₂, mul-le-mul, mul-pos, arith, w64, SFits, to_z, of_z}
use Rattle.std.proofs.lemmas.Bool.{ne_eqb}
use Rattle.std.proofs.lemmas.Int.{ints, to_z-of_z}
use Rattle.kinds.specs.declared.fault.Fault.{Fault}
use Rattle.algebra.specs.Gcd.{gcd_one}
use Rattle.algebra.specs.Integers.{abs_mul}
use Rattle.algebra.specs.Rationals.{addℚ, mulℚ, negℚ, ratio, ratio_add, ratio_mul, ratio_neg}
use Rattle.kinds.specs.Bounded.{limit, is_zero, no_fraction}
use Rattle.kinds.specs.declared.fraction.Fraction.{Fraction}
use Rattle.kinds.specs.Fractions.{Answer, New, value}
use Rattle.kinds.specs.Sound.{Sound, sound_num}
use Rattle.kinds.proofs.Held.{sound_of}

-- the square of the limit
abbrev pub square : ℕ
square = 4611686014132420609

pub fits_within : (z : ℤ) → nat_abs z ≤ 2 * square → SFits w64 z
fits_within z h = omega (arith, ints)

pub back : (z : ℤ) → nat_abs z ≤ 2 * square → to_z w64 (of_z w64 z) ≡ z
back z h = to_z-of_z w64 z (fits_within z h)

pub abs_product : (a b : ℤ) → nat_abs a ≤ limit → nat_abs b ≤ limit → nat_abs (a *ℤ b) ≤ square
abs_product a b h k = rw (abs_mul a b) (mul-le-mul h k)

pub abs_sum : (a b : ℤ) → nat_abs a ≤ square → nat_abs b ≤ square → nat_abs (a +ℤ b) ≤ 2 * square
abs_sum a b h k = omega (arith, ints)

pub zero_test : (z : ℤ) → SFits w64 z → eqb (of_z w64 z) 0 ≡ eqb (nat_abs z) 0
zero_test (pos n) f = refl
zero_test (negsuc n) f = ne_eqb (2 ^ 64 - suc n) 0 (λ e. let k = f.sfits in omega arith) ∙ sym (ne_eqb (suc n) 0 (λ e. omega arith))

pub told : (n d : ℤ) (r : Result Fraction Fault) → 0 < nat_abs d → New n d r → Answer (ratio n d) r
told n d r h p = subst (λ t. MatchBool t (r ≡ Err no_fraction) (Answer (ratio n d) r)) (ne_eqb (nat_abs d) 0 (λ e. omega arith)) p

-- ---- the values

pub sum_ratio : (a c b d : ℤ) → Sound a b → Sound c d → ratio (a *ℤ d +ℤ c *ℤ b) (b *ℤ d) ≡ addℚ (ratio a b) (ratio c d)
sum_ratio a c b d s t =
    subst₂ (λ x y. ratio (a *ℤ y +ℤ c *ℤ x) (x *ℤ y) ≡ addℚ (ratio a x) (ratio c y)) (sym s.whole) (sym t.whole)
    (sym (ratio_add a c (nat_abs b) (nat_abs d) s.some t.some))

pub product_ratio : (a c b d : ℤ) → Sound a b → Sound c d → ratio (a *ℤ c) (b *ℤ d) ≡ mulℚ (ratio a b) (ratio c d)
product_ratio a c b d s t =
    subst₂ (λ x y. ratio (a *ℤ c) (x *ℤ y) ≡ mulℚ (ratio a x) (ratio c y)) (sym s.whole) (sym t.whole)
    (sym (ratio_mul a c (nat_abs b) (nat_abs d) s.some t.some))

pub minus_ratio : (a b : ℤ) → Sound a b → ratio (neg_ℤ a) b ≡ negℚ (ratio a b)
minus_ratio a b s =
    subst (λ x. ratio (neg_ℤ a) x ≡ negℚ (ratio a x)) (sym s.whole)
    (sym (ratio_neg a (nat_abs b) s.some))

pub product_some : (b d : ℤ) → 0 < nat_abs b → 0 < nat_abs d → 0 < nat_abs (b *ℤ d)
product_some b d h k = rw (abs_mul b d) (mul-pos h k)

pub whole_sound : (n : ℕ) → n < 256 → Sound (pos n) (pos 1)
whole_sound n h = record { whole = refl; some = omega arith; small_den = omega arith; small_num = omega arith; coprime = gcd_one n }

-- ---- the same, of numbers that went to bits and back on the way

abbrev pub bits_of : ℤ → ℤ
bits_of z = to_z w64 (of_z w64 z)

round : (a b : ℤ) → nat_abs a ≤ limit → nat_abs b ≤ limit → bits_of a *ℤ bits_of b ≡ a *ℤ b
round a b h k = ap₂ ◌*ℤ◌ (back a (omega arith)) (back b (omega arith))

pub fits_product : (a b : ℤ) → nat_abs a ≤ limit → nat_abs b ≤ limit → SFits w64 (bits_of a *ℤ bits_of b)
fits_product a b h k = let p = abs_product a b h k in subst (SFits w64) (sym (round a b h k)) (fits_within (a *ℤ b) (omega arith))

pub back_product : (a b : ℤ) → nat_abs a ≤ limit → nat_abs b ≤ limit → bits_of (bits_of a *ℤ bits_of b) ≡ a *ℤ b
back_product a b h k = let p = abs_product a b h k in ap bits_of (round a b h k) ∙ back (a *ℤ b) (omega arith)

module _ (a d c b : ℤ) (ha : nat_abs a ≤ limit) (hd : nat_abs d ≤ limit) (hc : nat_abs c ≤ limit) (hb : nat_abs b ≤ limit) where
  around : bits_of (bits_of a *ℤ bits_of d) +ℤ bits_of (bits_of c *ℤ bits_of b) ≡ a *ℤ d +ℤ c *ℤ b
  around = ap₂ ◌+ℤ◌ (back_product a d ha hd) (back_product c b hc hb)

  large : nat_abs (a *ℤ d +ℤ c *ℤ b) ≤ 2 * square
  large = abs_sum (a *ℤ d) (c *ℤ b) (abs_product a d ha hd) (abs_product c b hc hb)

  pub fits_sum : SFits w64 (bits_of (bits_of a *ℤ bits_of d) +ℤ bits_of (bits_of c *ℤ bits_of b))
  fits_sum = subst (SFits w64) (sym around) (fits_within (a *ℤ d +ℤ c *ℤ b) large)

  pub back_sum : bits_of (bits_of (bits_of a *ℤ bits_of d) +ℤ bits_of (bits_of c *ℤ bits_of b)) ≡ a *ℤ d +ℤ c *ℤ b
  back_sum = ap bits_of around ∙ back (a *ℤ d +ℤ c *ℤ b) large

-- ---- zero

pub zero_tested : (a b : ℤ) (t : Bool) → Sound a b → eqb (nat_abs a) 0 ≡ t → is_zero (ratio a b) ≡ t
unfolding is_zero
zero_tested a b t s e = ap (λ z. eqb (nat_abs z) 0) (sound_num a b s) ∙ e

-- ---- what the calls of `new` answer

pub sum_told : (f g : Fraction) (r : Result Fraction Fault)
    → New (bits_of (bits_of (bits_of f.num *ℤ bits_of g.den) +ℤ bits_of (bits_of g.num *ℤ bits_of f.den))) (bits_of (bits_of f.den *ℤ bits_of g.den)) r
    → Answer (addℚ (value f) (value g)) r
unfolding value
sum_told f g r a =
    let s = sound_of f in
    let t = sound_of g in
    subst (λ q. Answer q r) (sum_ratio f.num g.num f.den g.den s t)
    (told _ _ r (product_some f.den g.den s.some t.some)
    (subst₂ (λ n d. New n d r) (back_sum f.num g.den g.num f.den f.small g.low g.small f.low) (back_product f.den g.den f.low g.low) a))

pub product_told : (f g : Fraction) (r : Result Fraction Fault)
    → New (bits_of (bits_of f.num *ℤ bits_of g.num)) (bits_of (bits_of f.den *ℤ bits_of g.den)) r
    → Answer (mulℚ (value f) (value g)) r
unfolding value
product_told f g r a =
    let s = sound_of f in
    let t = sound_of g in
    subst (λ q. Answer q r) (product_ratio f.num g.num f.den g.den s t)
    (told _ _ r (product_some f.den g.den s.some t.some)
    (subst₂ (λ n d. New n d r) (back_product f.num g.num f.small g.small) (back_product f.den g.den f.low g.low) a))
