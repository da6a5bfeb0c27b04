-- Laws that hold in every ring.
use Rattle.std.specs.Prelude.{◌≡◌, ℕ, zero, suc, ◌+◌ as ◌+ℕ◌, ◌*◌ as ◌*ℕ◌}
use Rattle.std.proofs.Math.Path.{refl}
use Rattle.std.proofs.Common.{sym, ◌∙◌, ap, ap₂}
use Rattle.std.proofs.Math.Option.{Option, some, none}
use Rattle.std.proofs.Math.Nat as N
use Rattle.algebra.specs.Ring.{Ring}

module _ {C : Type 0} (R : Ring C) where
  open R use {𝟘, 𝟙, add as ◌+◌, mul as ◌*◌, neg, add_assoc, add_comm, add_zero, add_neg, mul_assoc, mul_comm, mul_one, distrib, one≢zero, inv, inv_some, inv_none}

  infixl 60 ◌+◌
  infixl 70 ◌*◌
  pub add_left_comm : (a b c : C) → a + (b + c) ≡ b + (a + c)
  add_left_comm a b c = sym (add_assoc a b c) ∙ ap (λ x. x + c) (add_comm a b) ∙ add_assoc b a c

  pub mul_left_comm : (a b c : C) → a * (b * c) ≡ b * (a * c)
  mul_left_comm a b c = sym (mul_assoc a b c) ∙ ap (λ x. x * c) (mul_comm a b) ∙ mul_assoc b a c

  pub zero_add : (a : C) → 𝟘 + a ≡ a
  zero_add a = add_comm 𝟘 a ∙ add_zero a

  pub one_mul : (a : C) → 𝟙 * a ≡ a
  one_mul a = mul_comm 𝟙 a ∙ mul_one a

  pub neg_add : (a : C) → neg a + a ≡ 𝟘
  neg_add a = add_comm (neg a) a ∙ add_neg a

  pub add_mul : (a b c : C) → (a + b) * c ≡ a * c + b * c
  add_mul a b c = mul_comm (a + b) c ∙ distrib c a b ∙ ap₂ ◌+◌ (mul_comm c a) (mul_comm c b)

  pub cancel : (a b c : C) → a + b ≡ a + c → b ≡ c
  cancel a b c e =
      sym (zero_add b) ∙ ap (λ x. x + b) (sym (neg_add a)) ∙ add_assoc (neg a) a b ∙ ap (λ x. neg a + x) e
      ∙ sym (add_assoc (neg a) a c) ∙ ap (λ x. x + c) (neg_add a) ∙ zero_add c

  pub mul_zero : (a : C) → a * 𝟘 ≡ 𝟘
  mul_zero a = cancel (a * 𝟘) (a * 𝟘) 𝟘 (sym (distrib a 𝟘 𝟘) ∙ ap (λ x. a * x) (add_zero 𝟘) ∙ sym (add_zero (a * 𝟘)))

  pub zero_mul : (a : C) → 𝟘 * a ≡ 𝟘
  zero_mul a = mul_comm 𝟘 a ∙ mul_zero a

  pub neg_unique : (a b : C) → a + b ≡ 𝟘 → neg a ≡ b
  neg_unique a b e = sym (cancel a b (neg a) (e ∙ sym (add_neg a)))

  pub mul_neg : (a b : C) → a * neg b ≡ neg (a * b)
  mul_neg a b = sym (neg_unique (a * b) (a * neg b) (sym (distrib a b (neg b)) ∙ ap (λ x. a * x) (add_neg b) ∙ mul_zero a))

  pub neg_mul : (a b : C) → neg a * b ≡ neg (a * b)
  neg_mul a b = mul_comm (neg a) b ∙ mul_neg b a ∙ ap neg (mul_comm b a)

  pub neg_neg : (a : C) → neg (neg a) ≡ a
  neg_neg a = neg_unique (neg a) a (neg_add a)

  pub neg_zero : neg 𝟘 ≡ 𝟘
  neg_zero = neg_unique 𝟘 𝟘 (add_zero 𝟘)

  -- a rule set takes declared lemmas and no fields, so these laws of the record are declared once more
  pub +_assoc : (a b c : C) → a + b + c ≡ a + (b + c)
  +_assoc = add_assoc

  pub +_comm : (a b : C) → a + b ≡ b + a
  +_comm = add_comm

  pub *_assoc : (a b c : C) → a * b * c ≡ a * (b * c)
  *_assoc = mul_assoc

  pub *_comm : (a b : C) → a * b ≡ b * a
  *_comm = mul_comm

  pub mul_add : (a b c : C) → a * (b + c) ≡ a * b + a * c
  mul_add = distrib

  pub ruleset acs = (+_assoc, +_comm, add_left_comm, *_assoc, *_comm, mul_left_comm, mul_add, add_mul)

  pub neg_dist : (a b : C) → neg (a + b) ≡ neg a + neg b
  neg_dist a b = neg_unique (a + b) (neg a + neg b) (
      add_assoc a b (neg a + neg b) ∙ ap (λ x. a + x) (add_left_comm b (neg a) (neg b) ∙ ap (λ x. neg a + x) (add_neg b) ∙ add_zero (neg a)) ∙ add_neg a)

  -- ---- the image of a natural number

  -- it is shut, so that a numeral stays one atom
  unfoldable pub nat : ℕ → C
  nat zero = 𝟘
  nat (suc n) = 𝟙 + nat n

  pub nat_zero : nat 0 ≡ 𝟘
  unfolding nat
  nat_zero = refl

  pub nat_suc : (n : ℕ) → nat (suc n) ≡ 𝟙 + nat n
  unfolding nat
  nat_suc n = refl

  pub nat_one : nat 1 ≡ 𝟙
  nat_one = nat_suc 0 ∙ ap (λ x. 𝟙 + x) nat_zero ∙ add_zero 𝟙

  pub nat_add : (m n : ℕ) → nat (m +ℕ n) ≡ nat m + nat n
  nat_add zero n = ap nat (N.zero-add n) ∙ sym (zero_add (nat n)) ∙ ap (λ x. x + nat n) (sym nat_zero)
  nat_add (suc m) n = ap nat (N.suc-add m n) ∙ nat_suc (m +ℕ n) ∙ ap (λ x. 𝟙 + x) (nat_add m n)
      ∙ sym (add_assoc 𝟙 (nat m) (nat n)) ∙ ap (λ x. x + nat n) (sym (nat_suc m))

  pub nat_mul : (m n : ℕ) → nat (m *ℕ n) ≡ nat m * nat n
  nat_mul zero n = ap nat (N.zero-mul n) ∙ nat_zero ∙ sym (zero_mul (nat n)) ∙ ap (λ x. x * nat n) (sym nat_zero)
  nat_mul (suc m) n = ap nat (N.suc-mul m n) ∙ nat_add (m *ℕ n) n ∙ ap (λ x. x + nat n) (nat_mul m n)
      ∙ simp (nat_suc, add_mul, one_mul, add_comm)

  -- ---- equations

  -- ---- inverses

  pub inv_unique : (a b c : C) → a * b ≡ 𝟙 → a * c ≡ 𝟙 → b ≡ c
  inv_unique a b c p q =
      sym (mul_one b) ∙ ap (λ t. b * t) (sym q) ∙ sym (mul_assoc b a c) ∙ ap (λ t. t * c) (mul_comm b a ∙ p) ∙ one_mul c

  pub inv_is : (a b : C) → a * b ≡ 𝟙 → inv a ≡ some b
  inv_is a b h = go (inv a) refl
    where
      go : (o : Option C) → inv a ≡ o → inv a ≡ some b
      go (some c) e = e ∙ ap some (inv_unique a c b (inv_some a c e) h)
      go none e = absurd (inv_none a e b h)

  pub inv_absent : (a : C) → ((b : C) → ¬ (a * b ≡ 𝟙)) → inv a ≡ none
  inv_absent a h = go (inv a) refl
    where
      go : (o : Option C) → inv a ≡ o → inv a ≡ none
      go (some c) e = absurd (h c (inv_some a c e))
      go none e = e

  pub inv_zero : inv 𝟘 ≡ none
  inv_zero = inv_absent 𝟘 (λ b e. one≢zero (sym e ∙ zero_mul b))
