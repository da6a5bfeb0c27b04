-- The kind of the fractions: pairs mean rational numbers, and what lies outside the limit is refused.
use Rattle.std.proofs.Common.{◌∙◌, ap}
use Rattle.algebra.specs.RingLaws as Laws
use Rattle.algebra.specs.Rationals.{ℚ, rationals, addℚ, mulℚ, negℚ, invert}
use Rattle.kinds.specs.declared.pairs.Pair.{Pair}
use Rattle.kinds.specs.Arith.{Arith}
use Rattle.kinds.specs.Bounded.{outside}
use Rattle.kinds.specs.Pairs.{mean, put}
use Rattle.kinds.specs.Meanings.{mean_put, mean_inverse, mean_inside, same_inside, zero_inside, neg_inside, whole_inside}

unfoldable pub fraction_arith : Arith Pair
unfolding rationals
fraction_arith = record {
  C = ℚ;
  ring = rationals;
  mean = mean;
  put = put;
  sum_full = λ x y. outside (addℚ x y);
  product_full = λ x y. outside (mulℚ x y);
  inverse_full = λ x. outside (invert x);
  mean_sum = λ x y. mean_put (addℚ x y);
  mean_product = λ x y. mean_put (mulℚ x y);
  mean_inverse = mean_inverse;
  mean_negation = λ a. mean_put (negℚ (mean a)) (neg_inside (mean a) ∙ mean_inside a);
  mean_whole = λ n h. mean_put (Laws.nat rationals n) (whole_inside n h);
  sum_zero = λ a. same_inside _ a (rationals.add_zero (mean a));
  zero_sum = λ a. same_inside _ a (Laws.zero_add rationals (mean a));
  product_zero = λ a. ap outside (Laws.mul_zero rationals (mean a)) ∙ zero_inside;
  zero_product = λ a. ap outside (Laws.zero_mul rationals (mean a)) ∙ zero_inside;
  product_one = λ a. same_inside _ a (rationals.mul_one (mean a));
  one_product = λ a. same_inside _ a (Laws.one_mul rationals (mean a));
}
