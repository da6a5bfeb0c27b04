-- The kind of the residues modulo m: any number means its remainder, and nothing is refused for want of range.
use Rattle.std.specs.Prelude.{ℕ, ◌<◌, false, refl}
use Rattle.algebra.specs.RingLaws.{nat}
use Rattle.algebra.specs.Residues.{Residue, residues, class, class_own}
use Rattle.kinds.specs.Arith.{Arith}

unfoldable pub residue_arith : (m : ℕ) → 1 < m → Arith ℕ
residue_arith m big = record {
  C = Residue m;
  ring = residues m big;
  mean = class m big;
  put = λ r. r.0;
  sum_full = λ x y. false;
  product_full = λ x y. false;
  inverse_full = λ x. false;
  mean_sum = λ x y e. class_own m big ((residues m big).add x y);
  mean_product = λ x y e. class_own m big ((residues m big).mul x y);
  mean_inverse = λ x y e p. class_own m big y;
  mean_negation = λ a. class_own m big ((residues m big).neg (class m big a));
  mean_whole = λ n h. class_own m big (nat (residues m big) n);
  sum_zero = λ a. refl;
  zero_sum = λ a. refl;
  product_zero = λ a. refl;
  zero_product = λ a. refl;
  product_one = λ a. refl;
  one_product = λ a. refl;
}
