-- The ring of the residues modulo m, for any m from 2 up.
use Rattle.std.specs.Prelude.{◌≡◌, ℕ, zero, suc, ◌+◌, ◌-◌, ◌*◌, ◌/◌, ◌%◌, ◌<◌, Bool, true, false, ◌↔◌, ◌==◌}
use Rattle.std.proofs.Math.Path.{refl, sym}
use Rattle.std.proofs.Common.{◌∙◌, ap, ap₂, mod-lt, mod-eq_of_lt, add_assoc, add_comm, mul_assoc, mul_comm, mul-add, add-zero, mul-one, one-add, arith}
use mathlib.Core.HLevel.{Σ_prop_path, hedberg, Discrete}
use Rattle.std.proofs.Math.Option.{Option, some, none}
use Rattle.std.proofs.Math.Nat.{mod-add-mod, add-mod-mod, add-mod, mod_self, zero-mod, mod-add-div'}
use Rattle.std.proofs.Math.Bridge.{le_prop}
use Rattle.std.proofs.Math.Decide.{ℕ_discrete}
use Rattle.std.proofs.lemmas.Bool.{eqb-true, eqb-false}
use Rattle.algebra.specs.Ring.{Ring}
use Rattle.algebra.specs.RingLaws.{nat, nat_zero, nat_suc, neg_unique, inv_is, inv_absent}
use Rattle.algebra.specs.Solver.{◌:+◌, ◌:*◌, :-◌, ◌:-◌, ◌:=◌, solve₃, solve₄}
use Rattle.algebra.specs.Gcd.{gcd}
use Rattle.algebra.specs.Remainders.{mul_mod_left, mul_mod_right, mul_mod, one_mod}
use Rattle.algebra.specs.Bezout.{cofactor, cofactor_lt, coprime_inverse, inverse_coprime}

-- a residue is given by its representative below m
abbrev pub Residue : ℕ → Type 0
Residue m = (n : ℕ) × (n < m)

pub same_residue : {m : ℕ} (a b : Residue m) → a.0 ≡ b.0 → a ≡ b
same_residue a b e = Σ_prop_path (λ n. le_prop) e

pub residue_discrete : (m : ℕ) → Discrete (Residue m)
residue_discrete m a b = go (ℕ_discrete a.0 b.0)
  where
    go : Dec (a.0 ≡ b.0) → Dec (a ≡ b)
    go (yes e) = yes (same_residue a b e)
    go (no d) = no (λ e. d (ap (λ (r : Residue m). r.0) e))

pub residue_small : {m : ℕ} (a : Residue m) → a.0 % m ≡ a.0
residue_small a = mod-eq_of_lt a.1

some_inj : {A : Type 0} (a b : A) → some a ≡ some b → a ≡ b
some_inj a b e = cc

none≢some : {A : Type 0} (a : A) → ¬ (none ≡ some a)
none≢some a e = let z : ◌≡◌ {A = ℕ} 0 1 = cc in omega arith

-- what a step of the extended Euclid's algorithm keeps, in any ring
remainder : {C : Type 0} (R : Ring C) (a s s' n r r' q t : C) → R.mul a s ≡ r → R.mul a s' ≡ r' → n ≡ R.neg s' → R.add t (R.mul q r') ≡ r → R.mul a (R.add s (R.mul q n)) ≡ t
remainder R a s s' n r r' q t p p' z e =
    ap (λ x. R.mul a (R.add s (R.mul q x))) z
    ∙ solve₄ R (λ a s q s'. a :* (s :+ q :* (:-◌ s')) := a :* s :- q :* (a :* s')) tt a s q s'
    ∙ ap₂ (λ x y. R.add x (R.neg (R.mul q y))) (p ∙ sym e) p'
    ∙ solve₃ R (λ t q r'. (t :+ q :* r') :- q :* r' := t) tt t q r'

module _ (m : ℕ) (big : 1 < m) where
  abbrev pub class : ℕ → Residue m
  class n = (n % m, mod-lt n (omega arith))

  abbrev pub add_residues : Residue m → Residue m → Residue m
  add_residues a b = class (a.0 + b.0)

  abbrev pub mul_residues : Residue m → Residue m → Residue m
  mul_residues a b = class (a.0 * b.0)

  abbrev pub neg_residue : Residue m → Residue m
  neg_residue a = class (m - a.0)

  -- the inverse of a residue that is coprime to m
  abbrev pub inverse_residue : Residue m → Residue m
  inverse_residue a = (cofactor a.0 m, cofactor_lt a.0 m (omega arith))

  abbrev pub inverse_if : Bool → Residue m → Option (Residue m)
  inverse_if true a = some (inverse_residue a)
  inverse_if false a = none

  abbrev pub inv_residue : Residue m → Option (Residue m)
  inv_residue a = inverse_if (gcd a.0 m == 1) a

  pub inv_residue_some : (a b : Residue m) → inv_residue a ≡ some b → (a.0 * b.0) % m ≡ 1
  inv_residue_some a b e = go (gcd a.0 m == 1) refl e
    where
      go : (t : Bool) → (gcd a.0 m == 1) ≡ t → inverse_if t a ≡ some b → (a.0 * b.0) % m ≡ 1
      go true h q =
          ap (λ (r : Residue m). (a.0 * r.0) % m) (sym (some_inj (inverse_residue a) b q))
          ∙ coprime_inverse a.0 m big (eqb-true (gcd a.0 m) 1 h)
      go false h q = absurd (none≢some b q)

  pub inv_residue_none : (a : Residue m) → inv_residue a ≡ none → (b : Residue m) → ¬ ((a.0 * b.0) % m ≡ 1)
  inv_residue_none a e b = go (gcd a.0 m == 1) refl e
    where
      go : (t : Bool) → (gcd a.0 m == 1) ≡ t → inverse_if t a ≡ none → ¬ ((a.0 * b.0) % m ≡ 1)
      go true h q = absurd (none≢some (inverse_residue a) (sym q))
      go false h q = λ k. eqb-false (gcd a.0 m) 1 h (inverse_coprime a.0 b.0 m k)

  unfoldable pub residues : Ring (Residue m)
  residues = record {
    is_set = hedberg (residue_discrete m);
    𝟘 = class 0;
    𝟙 = class 1;
    add = add_residues;
    mul = mul_residues;
    neg = neg_residue;
    add_assoc = λ a b c. same_residue _ _ (mod-add-mod (a.0 + b.0) m c.0 ∙ ap (λ t. t % m) (add_assoc a.0 b.0 c.0) ∙ sym (add-mod-mod a.0 (b.0 + c.0) m));
    add_comm = λ a b. same_residue _ _ (ap (λ t. t % m) (add_comm a.0 b.0));
    add_zero = λ a. same_residue _ _ (add-mod-mod a.0 0 m ∙ ap (λ t. t % m) (add-zero a.0) ∙ residue_small a);
    add_neg = λ a. same_residue _ _ (add-mod-mod a.0 (m - a.0) m ∙ ap (λ t. t % m) (let h : a.0 < m = a.1 in let e : a.0 + (m - a.0) ≡ m = omega arith in e) ∙ mod_self m ∙ sym (zero-mod m));
    mul_assoc = λ a b c. same_residue _ _ (mul_mod_left (a.0 * b.0) c.0 m ∙ ap (λ t. t % m) (mul_assoc a.0 b.0 c.0) ∙ sym (mul_mod_right a.0 (b.0 * c.0) m));
    mul_comm = λ a b. same_residue _ _ (ap (λ t. t % m) (mul_comm a.0 b.0));
    mul_one = λ a. same_residue _ _ (mul_mod_right a.0 1 m ∙ ap (λ t. t % m) (mul-one a.0) ∙ residue_small a);
    distrib = λ a b c. same_residue _ _ (mul_mod_right a.0 (b.0 + c.0) m ∙ ap (λ t. t % m) (mul-add a.0 b.0 c.0) ∙ add-mod (a.0 * b.0) (a.0 * c.0) m);
    one≢zero = λ e. let z : ◌≡◌ {A = ℕ} 1 0 = sym (one_mod m big) ∙ ap (λ (r : Residue m). r.0) e ∙ zero-mod m in omega arith;
    dec_eq = residue_discrete m;
    inv = inv_residue;
    inv_some = λ a b q. same_residue _ _ (inv_residue_some a b q ∙ sym (one_mod m big));
    inv_none = λ a q b e. inv_residue_none a q b (ap (λ (r : Residue m). r.0) e ∙ one_mod m big);
  }

  -- ---- the residue of a number

  pub class_own : (a : Residue m) → class a.0 ≡ a
  class_own a = same_residue _ _ (residue_small a)

  pub class_zero : class 0 ≡ residues.𝟘
  unfolding residues
  class_zero = refl

  pub class_one : class 1 ≡ residues.𝟙
  unfolding residues
  class_one = refl

  pub class_same : (a b : ℕ) → a % m ≡ b % m → class a ≡ class b
  class_same a b e = same_residue _ _ e

  pub class_add : (a b : ℕ) → class (a + b) ≡ residues.add (class a) (class b)
  unfolding residues
  class_add a b = same_residue _ _ (add-mod a b m)

  pub class_mul : (a b : ℕ) → class (a * b) ≡ residues.mul (class a) (class b)
  unfolding residues
  class_mul a b = same_residue _ _ (mul_mod a b m)

  -- a and b are opposite where their sum is a multiple of m
  pub class_neg : (a b : ℕ) → (a + b) % m ≡ 0 → class b ≡ residues.neg (class a)
  class_neg a b e =
      sym (neg_unique residues (class a) (class b) (sym (class_add a b) ∙ class_same (a + b) 0 (e ∙ sym (zero-mod m)) ∙ class_zero))

  pub neg_class : (a : ℕ) → residues.neg (class a) ≡ class (m - a % m)
  unfolding residues
  neg_class a = refl

  pub nat_class : (n : ℕ) → nat residues n ≡ class n
  nat_class zero = nat_zero residues ∙ sym class_zero
  nat_class (suc n) =
      nat_suc residues n ∙ ap₂ residues.add (sym class_one) (nat_class n) ∙ sym (class_add 1 n) ∙ ap class (one-add n)

  -- ---- the representative of a result

  pub zero_representative : residues.𝟘.0 ≡ 0
  unfolding residues
  zero_representative = zero-mod m

  -- ---- what is invertible

  pub coprime_unit : (a : Residue m) → gcd a.0 m ≡ 1 → residues.mul a (inverse_residue a) ≡ residues.𝟙
  unfolding residues
  coprime_unit a e = same_residue _ _ (coprime_inverse a.0 m big e ∙ sym (one_mod m big))

  pub unit_coprime : (a b : Residue m) → residues.mul a b ≡ residues.𝟙 → gcd a.0 m ≡ 1
  unfolding residues
  unit_coprime a b e = inverse_coprime a.0 b.0 m (ap (λ (r : Residue m). r.0) e ∙ one_mod m big)

  pub inv_not_coprime : (a : Residue m) → ¬ (gcd a.0 m ≡ 1) → residues.inv a ≡ none
  inv_not_coprime a h = inv_absent residues a (λ b e. h (unit_coprime a b e))

  pub unit_iff_coprime : (a : Residue m) → ((b : Residue m) × (residues.mul a b ≡ residues.𝟙)) ↔ (gcd a.0 m ≡ 1)
  unit_iff_coprime a = ((λ p. unit_coprime a p.0 p.1), (λ e. (inverse_residue a, coprime_unit a e)))

  pub inv_found : (a : Residue m) (b : ℕ) (h : b < m) → (a.0 * b) % m ≡ 1 → residues.inv a ≡ some (b, h)
  unfolding residues
  inv_found a b h e = inv_is residues a (b, h) (same_residue _ _ (e ∙ sym (one_mod m big)))

  -- ---- the loop of the extended Euclid's algorithm

  -- if s times a is congruent to r, and s' times a to r', then s - (r / r') s' times a is congruent to r % r'; n stands for -s'
  pub extended_step : (a s s' n r r' : ℕ) → (a * s) % m ≡ r % m → (a * s') % m ≡ r' % m → (s' + n) % m ≡ 0 → (a * (s + r / r' * n)) % m ≡ (r % r') % m
  extended_step a s s' n r r' p p' z =
      let q = r / r' in
      let N : ℕ → Residue m = λ k. class k in
      ap (λ (t : Residue m). t.0)
      (class_mul a (s + q * n)
      ∙ ap (residues.mul (N a)) (class_add s (q * n) ∙ ap (residues.add (N s)) (class_mul q n))
      ∙ remainder residues (N a) (N s) (N s') (N n) (N r) (N r') (N q) (N (r % r'))
      (sym (class_mul a s) ∙ class_same (a * s) r p) (sym (class_mul a s') ∙ class_same (a * s') r' p') (class_neg s' n z)
      (ap (residues.add (N (r % r'))) (sym (class_mul q r')) ∙ sym (class_add (r % r') (q * r')) ∙ ap N (mod-add-div' r r')))
