-- What the calls of the residues' kind answer, as the code computes it.
use Rattle.std.proofs.Common.{◌≡◌, ℕ, ◌+◌, ◌-◌, ◌*◌, ◌%◌, ◌<◌, eqb, Ok, Err, sym, ap, ◌∙◌, mod-eq_of_lt, arith}
use native.Mathlib.Nat.{mod_self, zero-mod}
use Rattle.std.proofs.lemmas.Bool.{eq-eqb, ne_eqb}
use Rattle.algebra.specs.Gcd.{gcd}
use Rattle.algebra.specs.Residues.{Residue, residues, class, class_add, class_mul, neg_class, nat_class, class_same, class_zero, zero_representative, inv_found, inv_not_coprime}
use Rattle.kinds.specs.declared.fault.Question.TheVariants.{Divisor}
use Rattle.kinds.specs.Faults.{fault}
use Rattle.kinds.specs.Arith.{sum_of, product_of, negation_of, zero_test, whole_of, inverse_of, tested, inverted}
use Rattle.kinds.specs.ResidueArith.{residue_arith}

module _ (m : ℕ) (big : 1 < m) (a : ℕ) where
  pub sum_is : (b : ℕ) → Ok ((a + b) % m) ≡ sum_of (residue_arith m big) a b
  unfolding sum_of residue_arith
  sum_is b = ap (λ (r : Residue m). Ok r.0) (class_add m big a b)

  pub product_is : (b : ℕ) → Ok ((a * b) % m) ≡ product_of (residue_arith m big) a b
  unfolding product_of residue_arith
  product_is b = ap (λ (r : Residue m). Ok r.0) (class_mul m big a b)

  negation_is : (m - a % m) % m ≡ negation_of (residue_arith m big) a
  unfolding negation_of residue_arith
  negation_is = sym (ap (λ (r : Residue m). r.0) (neg_class m big a))

  pub negation_zero : a % m ≡ 0 → 0 ≡ negation_of (residue_arith m big) a
  negation_zero e =
      let z : m - a % m ≡ m = omega arith in sym (ap (λ t. t % m) z ∙ mod_self m) ∙ negation_is

  pub negation_other : ¬ (a % m ≡ 0) → m - a % m ≡ negation_of (residue_arith m big) a
  negation_other d =
      let h : m - a % m < m = omega arith in sym (mod-eq_of_lt h) ∙ negation_is

  pub zero_is : eqb (a % m) 0 ≡ zero_test (residue_arith m big) a
  unfolding zero_test residue_arith
  zero_is = go ((residues m big).dec_eq (class m big a) (residues m big).𝟘)
    where
      go : (t : Dec (class m big a ≡ (residues m big).𝟘)) → eqb (a % m) 0 ≡ tested t
      go (yes e) = eq-eqb (a % m) 0 (ap (λ (r : Residue m). r.0) e ∙ zero_representative m big)
      go (no d) = ne_eqb (a % m) 0 (λ e. d (class_same m big a 0 (e ∙ sym (zero-mod m)) ∙ class_zero m big))

  pub whole_is : a % m ≡ whole_of (residue_arith m big) a
  unfolding whole_of residue_arith
  whole_is = sym (ap (λ (r : Residue m). r.0) (nat_class m big a))

  pub inverse_found : (s : ℕ) → s < m → (a % m * s) % m ≡ 1 → Ok s ≡ inverse_of (residue_arith m big) a
  unfolding inverse_of residue_arith
  inverse_found s h e = sym (ap (inverted (λ (r : Residue m). r.0)) (inv_found m big (class m big a) s h e))

  pub inverse_absent : (gcd (a % m) m ≡ 1 → ⊥) → Err (fault Divisor 0 0) ≡ inverse_of (residue_arith m big) a
  unfolding inverse_of residue_arith
  inverse_absent d = sym (ap (inverted (λ (r : Residue m). r.0)) (inv_not_coprime m big (class m big a) d))

-- what the calls of the residues answer
pub ruleset residue_calls = (sum_is, product_is, negation_zero, negation_other, zero_is, whole_is, inverse_found, inverse_absent)
