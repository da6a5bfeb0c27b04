-- Lemmas: what pairs mean, and which numbers are written by a pair.
use Rattle.std.specs.Prelude.{◌≡◌, ℕ, ◌<◌, Bool, true, false, cond, ◌||◌, pos, nat_lt, unsigned_abs, refl}
use Rattle.std.proofs.Common.{sym, ◌∙◌, ap, arith}
use Rattle.std.proofs.Math.Option.{some, none}
use Rattle.std.proofs.lemmas.Bool.{eqb-true, cond-true, cond-false, cond_both, false≢true}
use Rattle.algebra.specs.Gcd.{gcd_one}
use Rattle.algebra.specs.Integers.{abs_neg, abs_zero}
use Rattle.algebra.specs.RingLaws.{nat, inv_zero}
use Rattle.algebra.specs.Rationals.{ℚ, rationals, zeroℚ, negℚ, ratio_own, nat_ratio, invert, inv_invert, invert_zero, zero_num}
use Rattle.kinds.specs.declared.pairs.Pair.{Pair}
use Rattle.kinds.specs.Bounded.{limit, sound, outside, is_zero}
use Rattle.kinds.specs.Pairs.{mean, put}
use Rattle.kinds.specs.Sound.{sound_out, sound_in, sound_inside, put_held}

pub mean_put : (q : ℚ) → outside q ≡ false → mean (put q) ≡ q
unfolding mean put
mean_put q e = cond-true _ _ _ (sound_in q.num (pos q.den) (put_held q e)) ∙ ratio_own q

-- ---- what is never refused

pub zero_inside : outside zeroℚ ≡ false
unfolding zeroℚ outside
zero_inside = refl

pub mean_inside : (p : Pair) → outside (mean p) ≡ false
unfolding mean
mean_inside p =
    cond_both (sound p.num p.den) _ _ (λ q. outside q ≡ false) (λ e. sound_inside p.num p.den (sound_out p.num p.den e)) (λ e. zero_inside)

pub same_inside : (q : ℚ) (p : Pair) → q ≡ mean p → outside q ≡ false
same_inside q p e = ap outside e ∙ mean_inside p

pub neg_inside : (q : ℚ) → outside (negℚ q) ≡ outside q
unfolding outside negℚ
neg_inside q = ap (λ t. nat_lt limit t || nat_lt limit q.den) (abs_neg q.num)

pub whole_inside : (n : ℕ) → n < 256 → outside (nat rationals n) ≡ false
whole_inside n h = ap outside (nat_ratio n) ∙ sound_inside (pos n) (pos 1) (record { whole = refl; some = omega arith; small_den = omega arith; small_num = omega arith; coprime = gcd_one n })

-- ---- zero and inverses

pub zero_is : (q : ℚ) → is_zero q ≡ true → q ≡ zeroℚ
unfolding is_zero
zero_is q e = zero_num q (abs_zero q.num (eqb-true (unsigned_abs q.num) 0 e))

pub is_zero_zero : is_zero zeroℚ ≡ true
unfolding is_zero zeroℚ
is_zero_zero = refl

none_of_zero : rationals.inv zeroℚ ≡ none
unfolding rationals
none_of_zero = inv_zero rationals

pub inverse_is : (q : ℚ) → rationals.inv q ≡ cond (is_zero q) none (some (invert q))
inverse_is q = cases (is_zero q) refl
  where
    cases : (t : Bool) → is_zero q ≡ t → rationals.inv q ≡ cond (is_zero q) none (some (invert q))
    cases true e = ap rationals.inv (zero_is q e) ∙ none_of_zero ∙ sym (cond-true _ _ _ e)
    cases false e = inv_invert q (λ z. false≢true (sym e ∙ ap is_zero z ∙ is_zero_zero)) ∙ sym (cond-false _ _ _ e)

some_inj : (a b : ℚ) → some a ≡ some b → a ≡ b
some_inj a b e = cc

some≢none : (a : ℚ) → ¬ (some a ≡ none)
some≢none a e = let z : ◌≡◌ {A = ℕ} 0 1 = cc in omega arith

pub mean_inverse : (x y : ℚ) → outside (invert x) ≡ false → rationals.inv x ≡ some y → mean (put y) ≡ y
mean_inverse x y e p = cases (is_zero x) refl
  where
    cases : (t : Bool) → is_zero x ≡ t → mean (put y) ≡ y
    cases true z = absurd (some≢none y (sym p ∙ inverse_is x ∙ cond-true _ _ _ z))
    cases false z = let i : y ≡ invert x = some_inj y (invert x) (sym p ∙ inverse_is x ∙ cond-false _ _ _ z) in mean_put y (ap outside i ∙ e)

pub zero_turned : outside (invert zeroℚ) ≡ false
zero_turned = ap outside invert_zero ∙ zero_inside
