-- What a kind of coefficients computes: values that mean elements of a ring, and the rule by which results are refused.
use Rattle.std.specs.Prelude.{◌≡◌, ℕ, ◌<◌, Bool, true, false, cond, Ok, Err, Result}
use Rattle.std.proofs.Math.Option.{Option, some, none}
use Rattle.algebra.specs.Ring.{Ring}
use Rattle.algebra.specs.RingLaws.{nat}
use Rattle.kinds.specs.declared.fault.Fault.{Fault}
use Rattle.kinds.specs.declared.fault.Question.TheVariants.{Range, Divisor}
use Rattle.kinds.specs.Faults.{fault}

pub record Arith (V : Type 0) : Type 1 where
  -- the ring, what a value means in it, and the one value that stands for an element which has a place
  pub C : Type 0
  pub ring : Ring C
  pub mean : V → C
  pub put : C → V
  -- the rule over meanings: which sums, products and inverses are refused for want of range
  pub sum_full : C → C → Bool
  pub product_full : C → C → Bool
  pub inverse_full : C → Bool
  -- a result that is not refused has a place
  pub mean_sum : (x y : C) → sum_full x y ≡ false → mean (put (ring.add x y)) ≡ ring.add x y
  pub mean_product : (x y : C) → product_full x y ≡ false → mean (put (ring.mul x y)) ≡ ring.mul x y
  pub mean_inverse : (x y : C) → inverse_full x ≡ false → ring.inv x ≡ some y → mean (put y) ≡ y
  pub mean_negation : (a : V) → mean (put (ring.neg (mean a))) ≡ ring.neg (mean a)
  pub mean_whole : (n : ℕ) → n < 256 → mean (put (nat ring n)) ≡ nat ring n
  -- sums with zero and products with zero or one are never refused
  pub sum_zero : (a : V) → sum_full (mean a) ring.𝟘 ≡ false
  pub zero_sum : (a : V) → sum_full ring.𝟘 (mean a) ≡ false
  pub product_zero : (a : V) → product_full (mean a) ring.𝟘 ≡ false
  pub zero_product : (a : V) → product_full ring.𝟘 (mean a) ≡ false
  pub product_one : (a : V) → product_full (mean a) ring.𝟙 ≡ false
  pub one_product : (a : V) → product_full ring.𝟙 (mean a) ≡ false

-- whether an element is the one given
abbrev pub tested : {P : Type 0} → Dec P → Bool
tested (yes _) = true
tested (no _) = false

-- the one value of an element, or the refusal for want of range
abbrev pub settled : {V C : Type 0} → (C → V) → Bool → C → Result V Fault
settled put full x = cond full (Err (fault Range 0 0)) (Ok (put x))

-- the inverse that the ring has, or the refusal that it has none
abbrev pub inverted : {V C : Type 0} → (C → V) → Option C → Result V Fault
inverted put none = Err (fault Divisor 0 0)
inverted put (some y) = Ok (put y)

module _ {V : Type 0} (A : Arith V) where
  unfoldable pub sum_of : V → V → Result V Fault
  sum_of a b = settled A.put (A.sum_full (A.mean a) (A.mean b)) (A.ring.add (A.mean a) (A.mean b))

  unfoldable pub product_of : V → V → Result V Fault
  product_of a b = settled A.put (A.product_full (A.mean a) (A.mean b)) (A.ring.mul (A.mean a) (A.mean b))

  unfoldable pub negation_of : V → V
  negation_of a = A.put (A.ring.neg (A.mean a))

  unfoldable pub zero_test : V → Bool
  zero_test a = tested (A.ring.dec_eq (A.mean a) A.ring.𝟘)

  unfoldable pub whole_of : ℕ → V
  whole_of n = A.put (nat A.ring n)

  unfoldable pub inverse_of : V → Result V Fault
  inverse_of a = cond (A.inverse_full (A.mean a)) (Err (fault Range 0 0)) (inverted A.put (A.ring.inv (A.mean a)))
