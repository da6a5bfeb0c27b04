-- Bounds on the degree, and the operators that have no kernel for such a bound.
use Rattle.std.specs.Prelude.{◌≡◌, refl, ℕ, zero, suc, ◌+◌ as ◌+ℕ◌, ◌-◌, ◌≤◌}
use Rattle.std.proofs.Common.{sym, ◌∙◌, ap, ap₂, arith}
use Rattle.std.proofs.Math.Path.{fun_ext}
use Rattle.algebra.specs.Ring.{Ring}
use Rattle.algebra.specs.RingLaws.{nat, mul_zero, neg_zero}
use Rattle.polynomials.specs.Module.{Mod, cancel_m, smul_zero}
use Rattle.polynomials.specs.Series.{Series, x, y, z, ∂x, ∂y, ∂z, Hom}

-- in any module: c f + d = 0 gives f = -c⁻¹ d
module _ {C : Type 0} {R : Ring C} (A : Mod R) where
  open R use {𝟘, 𝟙, mul as ◌*◌, neg}
  open A use {M, 0M, add_m as ◌⊕◌, neg_m, smul as ◌•◌, comm_m, zero_m, inv_m, smul_add, mul_smul, one_smul}

  infixl 70 ◌*◌
  infixl 60 ◌⊕◌
  infixr 70 ◌•◌
  isolate : (c c' : C) (f d : M) → c' * c ≡ 𝟙 → c • f ⊕ d ≡ 0M → f ≡ neg_m (c' • d)
  isolate c c' f d e h =
      cancel_m A (c' • d) f (neg_m (c' • d))
      (comm_m (c' • d) f
      ∙ ap (λ t. t ⊕ c' • d) (sym (one_smul f) ∙ ap (λ r. r • f) (sym e) ∙ mul_smul c' c f)
      ∙ sym (smul_add c' (c • f) d) ∙ ap (λ t. c' • t) h ∙ smul_zero A c' ∙ sym (inv_m (c' • d)))

module _ {C : Type 0} (R : Ring C) where
  open R use {𝟘, 𝟙, add as ◌+◌, mul as ◌*◌, neg}
  open Series R use {M, 0M, add_m as ◌⊕◌, neg_m, smul as ◌•◌}

  infixl 60 ◌+◌
  infixl 70 ◌*◌
  infixl 60 ◌⊕◌
  infixr 70 ◌•◌
  -- the degree of f is below N
  abbrev pub Under : ℕ → M → Type 0
  Under N f = (a b c : ℕ) → N ≤ a +ℕ b +ℕ c → f a b c ≡ 𝟘

  pub under_0 : (f : M) → Under 0 f → f ≡ 0M
  under_0 f u = fun_ext λ a. fun_ext λ b. fun_ext λ c. u a b c (omega arith)

  pub under_hom : (n : ℕ) (f : M) → Hom R n f → Under (suc n) f
  under_hom n f h a b c k = h a b c (λ e. omega arith)

  pub under_add : (N : ℕ) (f g : M) → Under N f → Under N g → Under N (f ⊕ g)
  under_add N f g u v a b c k = ap₂ ◌+◌ (u a b c k) (v a b c k) ∙ R.add_zero 𝟘

  pub under_smul : (N : ℕ) (r : C) (f : M) → Under N f → Under N (r • f)
  under_smul N r f u a b c k = ap (λ t. r * t) (u a b c k) ∙ mul_zero R r

  pub under_neg : (N : ℕ) (f : M) → Under N f → Under N (neg_m f)
  under_neg N f u a b c k = ap neg (u a b c k) ∙ neg_zero R

  -- a map that lowers the degree
  abbrev pub Lowers : (M → M) → Type 0
  Lowers T = (N : ℕ) (f : M) → Under N f → Under (N - 1) (T f)

  pub ∂x_lowers : Lowers (∂x R)
  ∂x_lowers N f u a b c k = ap (λ t. nat R (suc a) * t) (u (suc a) b c (omega arith)) ∙ mul_zero R (nat R (suc a))

  pub ∂y_lowers : Lowers (∂y R)
  ∂y_lowers N f u a b c k = ap (λ t. nat R (suc b) * t) (u a (suc b) c (omega arith)) ∙ mul_zero R (nat R (suc b))

  pub ∂z_lowers : Lowers (∂z R)
  ∂z_lowers N f u a b c k = ap (λ t. nat R (suc c) * t) (u a b (suc c) (omega arith)) ∙ mul_zero R (nat R (suc c))

  pub x_raises : (N : ℕ) (f : M) → Under N f → Under (suc N) (x R f)
  x_raises N f u zero b c k = refl
  x_raises N f u (suc a) b c k = u a b c (omega arith)

  pub y_raises : (N : ℕ) (f : M) → Under N f → Under (suc N) (y R f)
  y_raises N f u a zero c k = refl
  y_raises N f u a (suc b) c k = u a b c (omega arith)

  pub z_raises : (N : ℕ) (f : M) → Under N f → Under (suc N) (z R f)
  z_raises N f u a b zero k = refl
  z_raises N f u a b (suc c) k = u a b c (omega arith)

  -- an operator c + D with c invertible, and D of derivatives, has no kernel
  pub no_kernel : (c c' : C) → c' * c ≡ 𝟙 → (D : M → M) → Lowers D
      → (N : ℕ) (f : M) → Under N f → c • f ⊕ D f ≡ 0M → f ≡ 0M
  no_kernel c c' e D l zero f u h = under_0 f u
  no_kernel c c' e D l (suc N) f u h = no_kernel c c' e D l N f (λ a b k m. smaller a b k (omega arith)) h
    where
      smaller : Under (suc N - 1) f
      smaller a b k m =
          ap (λ (g : M). g a b k) (isolate (Series R) c c' f (D f) e h)
          ∙ under_neg (suc N - 1) (c' • D f) (under_smul (suc N - 1) c' (D f) (l (suc N) f u)) a b k m
