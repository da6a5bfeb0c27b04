-- Sums and products with whole numbers, and sums over one denominator.
use Rattle.std.proofs.Common.{◌≡◌, ℕ, ◌*◌, ◌/◌, ◌<◌, ◌≤◌, false, ℤ, pos, ◌+ℤ◌, ◌*ℤ◌, neg_ℤ, nat_abs, ◌<ℤ◌, Ok, Result, sym, ap, ◌∙◌, subst, ap₂, subst₂, zero-lt-suc, mul-pos, mul-one, arith, w64, of_z}
use Prim.Native.Nat.{◌∣◌}
use native.Mathlib.Nat.{dvd-mul_left, div-mul_cancel, eq-one_of_dvd-one}
use lib.Signed.{quot_z}
use Rattle.std.proofs.lemmas.Int.{ints}
use Rattle.algebra.specs.Solver.{:1, ◌:+◌, ◌:*◌, ◌:-◌, ◌:=◌, solve₃, solve₄}
use Rattle.algebra.specs.Integers.{integers, abs_mul, quot_times}
use Rattle.algebra.specs.Gcd.{gcd, gcd_is}
use Rattle.algebra.specs.RingLaws as Laws
use Rattle.algebra.specs.Rationals.{rationals, addℚ, mulℚ, add_comm, mul_comm, mul_oneℚ, ratio, ratio_add, ratio_mul, ratio_same, zero_ratio, one_ratio}
use Rattle.kinds.specs.declared.fault.Fault.{Fault}
use Rattle.kinds.specs.declared.fraction.Fraction.{Fraction}
use Rattle.kinds.specs.Bounded.{limit, outside}
use Rattle.kinds.specs.Fractions.{Answer, New, value}
use Rattle.kinds.specs.Sound.{sound_inside}
use Rattle.kinds.specs.Meanings.{zero_inside}
use Rattle.kinds.proofs.Held.{sound_of}
use Rattle.kinds.proofs.Bounds.{square, bits_of, back, back_product, fits_within, abs_product, abs_sum, told, fits_product, fits_sum, sum_told, product_told}

-- ---- over numbers without limit

-- what divides b and a + c b divides a
pub still_coprime : (a c : ℤ) (b : ℕ) → gcd (nat_abs a) b ≡ 1 → gcd (nat_abs (a +ℤ c *ℤ pos b)) b ≡ 1
unfolding integers
still_coprime a c b e =
    let n = a +ℤ c *ℤ pos b in
    let g = gcd (nat_abs n) b in
    let is = gcd_is (nat_abs n) b in
    let q = quot_z n (pos g) in
    let k = b / g in
    let f : (q +ℤ neg_ℤ (c *ℤ pos k)) *ℤ pos g ≡ a =
    solve₄ integers (λ q c k g. (q :- c :* k) :* g := q :* g :- c :* (k :* g)) tt q c (pos k) (pos g)
    ∙ ap₂ (λ s t. s +ℤ neg_ℤ (c *ℤ pos t)) (quot_times n g is.left) (div-mul_cancel g is.right)
    ∙ solve₃ integers (λ a c b. (a :+ c :* b) :- c :* b := a) tt a c (pos b) in
    let d : g ∣ nat_abs a = subst (λ t. g ∣ t) (sym (abs_mul (q +ℤ neg_ℤ (c *ℤ pos k)) (pos g)) ∙ ap nat_abs f) (dvd-mul_left g _) in
    eq-one_of_dvd-one (subst (λ t. g ∣ t) e ((gcd_is (nat_abs a) b).most g d is.right))

whole_sum : (a c : ℤ) (b : ℕ) → 0 < b → ratio (a +ℤ c *ℤ pos b) (pos b) ≡ addℚ (ratio a (pos b)) (ratio c (pos 1))
unfolding integers
whole_sum a c b h =
    ratio_same _ _ b (b * 1) h (mul-pos h (zero-lt-suc 0)) (solve₃ integers (λ a c b. (a :+ c :* b) :* (b :* :1) := (a :* :1 :+ c :* b) :* b) tt a c (pos b))
    ∙ sym (ratio_add a c b 1 h (zero-lt-suc 0))

same_sum : (a c : ℤ) (b : ℕ) → 0 < b → ratio (a +ℤ c) (pos b) ≡ addℚ (ratio a (pos b)) (ratio c (pos b))
unfolding integers
same_sum a c b h =
    ratio_same _ _ b (b * b) h (mul-pos h h) (solve₃ integers (λ a c b. (a :+ c) :* (b :* b) := (a :* b :+ c :* b) :* b) tt a c (pos b))
    ∙ sym (ratio_add a c b b h h)

whole_product : (a c : ℤ) (b : ℕ) → 0 < b → ratio (a *ℤ c) (pos b) ≡ mulℚ (ratio a (pos b)) (ratio c (pos 1))
whole_product a c b h =
    ap (λ t. ratio (a *ℤ c) (pos t)) (sym (mul-one b)) ∙ sym (ratio_mul a c b 1 h (zero-lt-suc 0))

-- ---- numbers that went to bits and back on the way

module _ (a c b : ℤ) (ha : nat_abs a ≤ limit) (hc : nat_abs c ≤ limit) (hb : nat_abs b ≤ limit) where
  around : bits_of a +ℤ bits_of (bits_of c *ℤ bits_of b) ≡ a +ℤ c *ℤ b
  around = ap₂ ◌+ℤ◌ (back a (omega arith)) (back_product c b hc hb)

  large : nat_abs (a +ℤ c *ℤ b) ≤ 2 * square
  large = abs_sum a (c *ℤ b) (omega arith) (abs_product c b hc hb)

  pub back_shift : bits_of (bits_of a +ℤ bits_of (bits_of c *ℤ bits_of b)) ≡ a +ℤ c *ℤ b
  back_shift = ap bits_of around ∙ back (a +ℤ c *ℤ b) large

-- ---- what the calls answer

module _ (f : Fraction) where
  small_den : bits_of f.den ≡ f.den
  small_den = let l = f.low in back f.den (omega arith)

  small_num : bits_of f.num ≡ f.num
  small_num = let l = f.small in back f.num (omega arith)

  inside : outside (value f) ≡ false
  unfolding value
  inside = sound_inside f.num f.den (sound_of f)

-- w is a whole number
module _ (f w : Fraction) (e : w.den ≡ pos 1) where
  worth : ratio w.num (pos 1) ≡ value w
  unfolding value
  worth = ap (ratio w.num) (sym e)

  moved : bits_of (bits_of f.num +ℤ bits_of (bits_of w.num *ℤ bits_of f.den)) ≡ f.num +ℤ w.num *ℤ f.den
  moved = back_shift f.num w.num f.den f.small w.small f.low

  pub shift_lowest : (pos 0 <ℤ bits_of f.den) × ((nat_abs (bits_of f.den) ≤ limit) × (gcd (nat_abs (bits_of (bits_of f.num +ℤ bits_of (bits_of w.num *ℤ bits_of f.den)))) (nat_abs (bits_of f.den)) ≡ 1))
  shift_lowest =
      subst₂ (λ n d. (pos 0 <ℤ d) × ((nat_abs d ≤ limit) × (gcd (nat_abs n) (nat_abs d) ≡ 1))) (sym moved) (sym (small_den f))
      (f.some, (f.low, subst (λ t. gcd (nat_abs (f.num +ℤ w.num *ℤ t)) (nat_abs f.den) ≡ 1) (sym (sound_of f).whole) (still_coprime f.num w.num (nat_abs f.den) f.coprime)))

  pub shift_told : (r : Result Fraction Fault) → Answer (ratio (bits_of (bits_of f.num +ℤ bits_of (bits_of w.num *ℤ bits_of f.den))) (bits_of f.den)) r → Answer (addℚ (value f) (value w)) r
  unfolding value
  shift_told r a =
      subst (λ q. Answer q r)
      (ap₂ ratio moved (small_den f) ∙ subst (λ t. ratio (f.num +ℤ w.num *ℤ t) t ≡ addℚ (ratio f.num t) (ratio w.num (pos 1))) (sym (sound_of f).whole) (whole_sum f.num w.num (nat_abs f.den) (sound_of f).some)
      ∙ ap (addℚ (value f)) worth)
      a

  pub scale_told : (r : Result Fraction Fault) → New (bits_of (bits_of f.num *ℤ bits_of w.num)) (bits_of f.den) r → Answer (mulℚ (value f) (value w)) r
  unfolding value
  scale_told r a =
      subst (λ q. Answer q r)
      (subst (λ t. ratio (f.num *ℤ w.num) t ≡ mulℚ (ratio f.num t) (ratio w.num (pos 1))) (sym (sound_of f).whole) (whole_product f.num w.num (nat_abs f.den) (sound_of f).some)
      ∙ ap (mulℚ (value f)) worth)
      (told (f.num *ℤ w.num) f.den r (sound_of f).some (subst₂ (λ n d. New n d r) (back_product f.num w.num f.small w.small) (small_den f) a))

  pub times_zero : w.num ≡ pos 0 → Answer (mulℚ (value f) (value w)) (Ok w)
  unfolding rationals
  times_zero z =
      let v : value w ≡ rationals.𝟘 = sym worth ∙ ap (λ t. ratio t (pos 1)) z ∙ zero_ratio in
      let p : mulℚ (value f) (value w) ≡ rationals.𝟘 = ap (mulℚ (value f)) v ∙ Laws.mul_zero rationals (value f) in
      (ap outside p ∙ zero_inside, v ∙ sym p)

  pub times_one : w.num ≡ pos 1 → Answer (mulℚ (value f) (value w)) (Ok f)
  times_one z =
      let p : mulℚ (value f) (value w) ≡ value f = ap (mulℚ (value f)) (sym worth ∙ ap (λ t. ratio t (pos 1)) z ∙ one_ratio) ∙ mul_oneℚ (value f) in
      (ap outside p ∙ inside f, sym p)

pub plus_over : (f g : Fraction) (r : Result Fraction Fault) → of_z w64 f.den ≡ of_z w64 g.den → New (bits_of (bits_of f.num +ℤ bits_of g.num)) (bits_of f.den) r → Answer (addℚ (value f) (value g)) r
unfolding value
plus_over f g r b a =
    let x = f.small in
    let y = g.small in
    let e : f.den ≡ g.den = omega (arith, ints) in
    let n = ap bits_of (ap₂ ◌+ℤ◌ (small_num f) (small_num g)) ∙ back (f.num +ℤ g.num) (omega (arith, ints)) in
    subst (λ q. Answer q r)
    (subst (λ t. ratio (f.num +ℤ g.num) t ≡ addℚ (ratio f.num t) (ratio g.num t)) (sym (sound_of f).whole) (same_sum f.num g.num (nat_abs f.den) (sound_of f).some)
    ∙ ap (λ t. addℚ (ratio f.num f.den) (ratio g.num t)) e)
    (told (f.num +ℤ g.num) f.den r (sound_of f).some (subst₂ (λ n d. New n d r) n (small_den f) a))

-- what sums and products of fractions compute
pub ruleset fraction_calls = (fits_product, fits_sum, sum_told, product_told, plus_over, shift_lowest, shift_told, scale_told, add_comm, mul_comm)
