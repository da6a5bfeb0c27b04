-- Series in x, y and z as functions of their exponents, with the products with a coordinate and the derivatives. Polynomials are the
-- series whose degree has a bound.
use Rattle.std.specs.Prelude.{◌≡◌, refl, Bool, true, false, ℕ, zero, suc, ◌+◌ as ◌+ℕ◌, ◌<◌}
use Rattle.std.proofs.Common.{sym, ◌∙◌, ap, ap₂, arith}
use Rattle.std.proofs.Math.Path.{fun_ext}
use Rattle.std.proofs.Math.Decide.{ℕ_discrete}
use Rattle.algebra.specs.Ring.{Ring}
use Rattle.algebra.specs.RingLaws.{nat, nat_zero, nat_add, mul_zero, add_mul, zero_mul}
use Rattle.monomials.specs.declared.dimension.Dimension.{Dimension}
use Rattle.monomials.specs.declared.dimension.Dimension.TheVariants.{Plane, Space}
use Rattle.monomials.specs.declared.monomial.Axis.{Axis}
use Rattle.monomials.specs.declared.monomial.Axis.TheVariants.{X, Y, Z}
use Rattle.polynomials.specs.Module.{Mod, Lin, self, S, X as times-variable, ∂, lift, x_lin, ∂_lin, lift_lin, lift_x, lift_∂, ∂X, smul_lin, smul_comm}
use Rattle.polynomials.specs.Words.{Gens, Swap}

-- One more variable: its coordinate is generator 0, its derivative 1, and the former generators follow.
abbrev pub comm⁺ : (ℕ → ℕ → Bool) → ℕ → ℕ → Bool
comm⁺ c zero i = false
comm⁺ c (suc zero) zero = true
comm⁺ c (suc zero) (suc i) = false
comm⁺ c (suc (suc k)) zero = false
comm⁺ c (suc (suc k)) (suc zero) = false
comm⁺ c (suc (suc k)) (suc (suc i)) = c k i

abbrev pub comm₀ : ℕ → ℕ → Bool
comm₀ k i = false

module _ {C : Type 0} {R : Ring C} (A : Mod R) where
  abbrev pub ρ⁺ : (ℕ → A.M → A.M) → ℕ → (ℕ → A.M) → ℕ → A.M
  ρ⁺ ρ zero = times-variable A
  ρ⁺ ρ (suc zero) = ∂ A
  ρ⁺ ρ (suc (suc k)) = lift A (ρ k)

  lift_swap : (b : Bool) (K I : A.M → A.M) → Swap A b K I → Swap (S A) b (lift A K) (lift A I)
  lift_swap true K I s = λ f. fun_ext λ a. s (f a)
  lift_swap false K I s = λ f. fun_ext λ a. s (f a)

  module _ (comm : ℕ → ℕ → Bool) (ρ : ℕ → A.M → A.M) (G : Gens A comm ρ) where
    lin⁺ : (k : ℕ) → Lin (S A) (ρ⁺ ρ k)
    lin⁺ zero = x_lin A
    lin⁺ (suc zero) = ∂_lin A
    lin⁺ (suc (suc k)) = lift_lin A (G.lin k)

    swap⁺ : (i k : ℕ) → i < k → Swap (S A) (comm⁺ comm k i) (ρ⁺ ρ k) (ρ⁺ ρ i)
    swap⁺ zero zero h = absurd (omega arith)
    swap⁺ zero (suc zero) h = ∂X A
    swap⁺ zero (suc (suc k)) h = lift_x A (G.lin k)
    swap⁺ (suc zero) zero h = absurd (omega arith)
    swap⁺ (suc zero) (suc zero) h = absurd (omega arith)
    swap⁺ (suc zero) (suc (suc k)) h = lift_∂ A (G.lin k)
    swap⁺ (suc (suc i)) zero h = absurd (omega arith)
    swap⁺ (suc (suc i)) (suc zero) h = absurd (omega arith)
    swap⁺ (suc (suc i)) (suc (suc k)) h = lift_swap (comm k i) (ρ k) (ρ i) (G.swap i k (omega arith))

    pub gens⁺ : Gens (S A) (comm⁺ comm) (ρ⁺ ρ)
    gens⁺ = record { lin = lin⁺; swap = swap⁺ }

abbrev pub comm₃ : ℕ → ℕ → Bool
comm₃ = comm⁺ (comm⁺ (comm⁺ comm₀))

module _ {C : Type 0} (R : Ring C) where
  abbrev pub Series : Mod R
  Series = S (S (S (self R)))

  abbrev pub ρ₃ : (ℕ → C) → ℕ → Series.M → Series.M
  ρ₃ s = ρ⁺ (S (S (self R))) (ρ⁺ (S (self R)) (ρ⁺ (self R) (λ k f. R.mul (s k) f)))

  gens₀ : (s : ℕ → C) → Gens (self R) comm₀ (λ k f. R.mul (s k) f)
  gens₀ s = record { lin = λ k. smul_lin (self R) (s k); swap = λ i k h f. smul_comm (self R) (s k) (s i) f }

  pub gens₃ : (s : ℕ → C) → Gens Series comm₃ (ρ₃ s)
  gens₃ s = gens⁺ (S (S (self R))) _ _ (gens⁺ (S (self R)) _ _ (gens⁺ (self R) _ _ (gens₀ s)))

  abbrev pub x : Series.M → Series.M
  x = times-variable (S (S (self R)))

  abbrev pub y : Series.M → Series.M
  y = lift (S (S (self R))) (times-variable (S (self R)))

  abbrev pub z : Series.M → Series.M
  z = lift (S (S (self R))) (lift (S (self R)) (times-variable (self R)))

  abbrev pub ∂x : Series.M → Series.M
  ∂x = ∂ (S (S (self R)))

  abbrev pub ∂y : Series.M → Series.M
  ∂y = lift (S (S (self R))) (∂ (S (self R)))

  abbrev pub ∂z : Series.M → Series.M
  ∂z = lift (S (S (self R))) (lift (S (self R)) (∂ (self R)))

  -- the product with a coordinate, and the derivative by it
  abbrev pub coordinate : Axis → Series.M → Series.M
  coordinate X = x
  coordinate Y = y
  coordinate Z = z

  abbrev pub derivative : Axis → Series.M → Series.M
  derivative X = ∂x
  derivative Y = ∂y
  derivative Z = ∂z

  -- a series of the plane has no z
  abbrev pub Of : Dimension → Series.M → Type 0
  Of Plane f = (a b c : ℕ) → f a b (suc c) ≡ R.𝟘
  Of Space f = Unit {0}

module _ {C : Type 0} (R : Ring C) where
  open R use {𝟘, 𝟙, add as ◌+◌, mul as ◌*◌, neg}
  open Series R use {M, 0M, add_m as ◌⊕◌, neg_m, smul as ◌•◌}

  infixl 60 ◌+◌
  infixl 70 ◌*◌
  infixl 60 ◌⊕◌
  infixr 70 ◌•◌
  -- Euler
  abbrev pub E : M → M
  E f = x R (∂x R f) ⊕ y R (∂y R f) ⊕ z R (∂z R f)

  abbrev pub Hom : ℕ → M → Type 0
  Hom n f = (a b c : ℕ) → ¬ (a +ℕ b +ℕ c ≡ n) → f a b c ≡ 𝟘

  x∂x_at : (f : M) (a b c : ℕ) → x R (∂x R f) a b c ≡ nat R a * f a b c
  x∂x_at f zero b c = sym (zero_mul R _) ∙ ap (λ r. r * f 0 b c) (sym (nat_zero R))
  x∂x_at f (suc a) b c = refl

  y∂y_at : (f : M) (a b c : ℕ) → y R (∂y R f) a b c ≡ nat R b * f a b c
  y∂y_at f a zero c = sym (zero_mul R _) ∙ ap (λ r. r * f a 0 c) (sym (nat_zero R))
  y∂y_at f a (suc b) c = refl

  z∂z_at : (f : M) (a b c : ℕ) → z R (∂z R f) a b c ≡ nat R c * f a b c
  z∂z_at f a b zero = sym (zero_mul R _) ∙ ap (λ r. r * f a b 0) (sym (nat_zero R))
  z∂z_at f a b (suc c) = refl

  e_at : (f : M) (a b c : ℕ) → E f a b c ≡ nat R (a +ℕ b +ℕ c) * f a b c
  e_at f a b c =
      ap₂ ◌+◌ (ap₂ ◌+◌ (x∂x_at f a b c) (y∂y_at f a b c)) (z∂z_at f a b c)
      ∙ simp (nat_add, add_mul)

  pub euler : (n : ℕ) (f : M) → Hom n f → E f ≡ nat R n • f
  euler n f h = fun_ext λ a. fun_ext λ b. fun_ext λ c. e_at f a b c ∙ go a b c (ℕ_discrete (a +ℕ b +ℕ c) n)
    where
      go : (a b c : ℕ) → Dec (a +ℕ b +ℕ c ≡ n) → nat R (a +ℕ b +ℕ c) * f a b c ≡ nat R n * f a b c
      go a b c (yes e) = ap (λ k. nat R k * f a b c) e
      go a b c (no d) = ap (λ v. nat R (a +ℕ b +ℕ c) * v) (h a b c d) ∙ mul_zero R _ ∙ sym (mul_zero R _) ∙ ap (λ v. nat R n * v) (sym (h a b c d))
