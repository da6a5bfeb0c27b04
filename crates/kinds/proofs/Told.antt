-- The ring's own tests, as the code makes them.
use Rattle.std.proofs.Common.{◌≡◌, Bool, true, false, cond, Err, sym, refl, ap, ◌∙◌}
use Rattle.std.proofs.lemmas.Bool.{cond-true, cond-false}
use Rattle.algebra.specs.Rationals.{ℚ, rationals, zeroℚ, invert, nat_ratio}
use Rattle.kinds.specs.declared.fault.Question.TheVariants.{Range}
use Rattle.kinds.specs.Faults.{fault}
use Rattle.kinds.specs.Arith.{tested, inverted}
use Rattle.kinds.specs.Bounded.{outside, is_zero}
use Rattle.kinds.specs.Pairs.{put, written_inverse}
use Rattle.kinds.specs.Meanings.{zero_is, is_zero_zero, zero_turned, inverse_is}

pub zero_decided : (q : ℚ) → is_zero q ≡ tested (rationals.dec_eq q rationals.𝟘)
unfolding rationals
zero_decided q = go (rationals.dec_eq q zeroℚ)
  where
    go : (t : Dec (q ≡ zeroℚ)) → is_zero q ≡ tested t
    go (yes e) = ap is_zero e ∙ is_zero_zero
    go (no d) = cases (is_zero q) refl
      where
        cases : (t : Bool) → is_zero q ≡ t → is_zero q ≡ false
        cases true e = absurd (d (zero_is q e))
        cases false e = e

-- range is asked first, and zero has an inverse in range that the ring does not have
pub inverse_told : (q : ℚ) → written_inverse q ≡ cond (outside (invert q)) (Err (fault Range 0 0)) (inverted put (rationals.inv q))
inverse_told q = cases (is_zero q) refl
  where
    cases : (t : Bool) → is_zero q ≡ t → written_inverse q ≡ cond (outside (invert q)) (Err (fault Range 0 0)) (inverted put (rationals.inv q))
    cases true e =
        cond-true _ _ _ e ∙ ap (inverted put) (sym (inverse_is q ∙ cond-true _ _ _ e)) ∙ sym (cond-false _ _ _ (ap (λ x. outside (invert x)) (zero_is q e) ∙ zero_turned))
    cases false e =
        cond-false _ _ _ e ∙ ap (λ i. cond (outside (invert q)) (Err (fault Range 0 0)) (inverted put i)) (sym (inverse_is q ∙ cond-false _ _ _ e))

-- how the kind of the fractions tests for zero, finds whole numbers and inverts
pub ruleset kind_tests = (zero_decided, inverse_told, nat_ratio)
