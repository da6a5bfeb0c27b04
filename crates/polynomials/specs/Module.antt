-- Modules over a ring, linear maps on one, and series of elements of one.
use Rattle.std.specs.Prelude.{◌≡◌, refl, ℕ, zero, suc}
use Rattle.std.proofs.Common.{sym, ◌∙◌, ap}
use Rattle.std.proofs.Math.Path.{fun_ext}
use Rattle.algebra.specs.Ring.{Ring}
use Rattle.algebra.specs.RingLaws.{nat, nat_one, nat_suc, add_mul}

pub record Mod {C : Type 0} (R : Ring C) : Type 1 where
  pub M : Type 0
  pub 0M : M
  pub add_m : M → M → M
  pub neg_m : M → M
  pub smul : C → M → M
  pub assoc_m : (f g h : M) → add_m (add_m f g) h ≡ add_m f (add_m g h)
  pub comm_m : (f g : M) → add_m f g ≡ add_m g f
  pub zero_m : (f : M) → add_m f 0M ≡ f
  pub inv_m : (f : M) → add_m f (neg_m f) ≡ 0M
  pub smul_add : (r : C) (f g : M) → smul r (add_m f g) ≡ add_m (smul r f) (smul r g)
  pub add_smul : (r s : C) (f : M) → smul (R.add r s) f ≡ add_m (smul r f) (smul s f)
  pub mul_smul : (r s : C) (f : M) → smul (R.mul r s) f ≡ smul r (smul s f)
  pub one_smul : (f : M) → smul R.𝟙 f ≡ f

-- a linear map of a module into itself
pub record Lin {C : Type 0} {R : Ring C} (A : Mod R) (T : A.M → A.M) : Type 0 where
  pub on_add : (f g : A.M) → T (A.add_m f g) ≡ A.add_m (T f) (T g)
  pub on_smul : (r : C) (f : A.M) → T (A.smul r f) ≡ A.smul r (T f)

module _ {C : Type 0} (R : Ring C) where
  -- the ring itself
  abbrev pub self : Mod R
  self = record {
    M = C;
    0M = R.𝟘;
    add_m = R.add;
    neg_m = R.neg;
    smul = R.mul;
    assoc_m = R.add_assoc;
    comm_m = R.add_comm;
    zero_m = R.add_zero;
    inv_m = R.add_neg;
    smul_add = R.distrib;
    add_smul = add_mul R;
    mul_smul = R.mul_assoc;
    one_smul = λ f. R.mul_comm R.𝟙 f ∙ R.mul_one f;
  }

module _ {C : Type 0} {R : Ring C} (A : Mod R) where
  open R use {𝟘, 𝟙, add as ◌+◌, mul as ◌*◌, neg}
  open A use {M, 0M, add_m as ◌⊕◌, neg_m, smul as ◌•◌, assoc_m, comm_m, zero_m, inv_m, smul_add, add_smul, mul_smul, one_smul}

  infixl 60 ◌⊕◌
  infixr 70 ◌•◌
  -- the coefficients of the powers of one more variable
  abbrev pub S : Mod R
  S = record {
    M = ℕ → M;
    0M = λ a. 0M;
    add_m = λ f g a. f a ⊕ g a;
    neg_m = λ f a. neg_m (f a);
    smul = λ r f a. r • f a;
    assoc_m = λ f g h. fun_ext λ a. assoc_m (f a) (g a) (h a);
    comm_m = λ f g. fun_ext λ a. comm_m (f a) (g a);
    zero_m = λ f. fun_ext λ a. zero_m (f a);
    inv_m = λ f. fun_ext λ a. inv_m (f a);
    smul_add = λ r f g. fun_ext λ a. smul_add r (f a) (g a);
    add_smul = λ r s f. fun_ext λ a. add_smul r s (f a);
    mul_smul = λ r s f. fun_ext λ a. mul_smul r s (f a);
    one_smul = λ f. fun_ext λ a. one_smul (f a);
  }

  pub left_comm_m : (f g h : M) → f ⊕ (g ⊕ h) ≡ g ⊕ (f ⊕ h)
  left_comm_m f g h = sym (assoc_m f g h) ∙ ap (λ x. x ⊕ h) (comm_m f g) ∙ assoc_m g f h

  pub left_zero_m : (f : M) → 0M ⊕ f ≡ f
  left_zero_m f = comm_m 0M f ∙ zero_m f

  pub cancel_m : (f g h : M) → f ⊕ g ≡ f ⊕ h → g ≡ h
  cancel_m f g h e =
      let k : (x : M) → neg_m f ⊕ (f ⊕ x) ≡ x = λ x. sym (assoc_m (neg_m f) f x) ∙ ap (λ y. y ⊕ x) (comm_m (neg_m f) f ∙ inv_m f) ∙ left_zero_m x in
      sym (k g) ∙ ap (λ x. neg_m f ⊕ x) e ∙ k h

  pub smul_zero : (r : C) → r • 0M ≡ 0M
  smul_zero r = cancel_m (r • 0M) (r • 0M) 0M (sym (smul_add r 0M 0M) ∙ ap (λ x. r • x) (zero_m 0M) ∙ sym (zero_m (r • 0M)))

  pub zero_smul : (f : M) → 𝟘 • f ≡ 0M
  zero_smul f = cancel_m (𝟘 • f) (𝟘 • f) 0M (sym (add_smul 𝟘 𝟘 f) ∙ ap (λ x. x • f) (R.add_zero 𝟘) ∙ sym (zero_m (𝟘 • f)))

  pub neg_smul : (r : C) (f : M) → neg r • f ≡ neg_m (r • f)
  neg_smul r f = cancel_m (r • f) (neg r • f) (neg_m (r • f)) (sym (add_smul r (neg r) f) ∙ ap (λ x. x • f) (R.add_neg r) ∙ zero_smul f ∙ sym (inv_m (r • f)))

  pub smul_comm : (r s : C) (f : M) → r • s • f ≡ s • r • f
  smul_comm r s f = sym (mul_smul r s f) ∙ ap (λ x. x • f) (R.mul_comm r s) ∙ mul_smul s r f

  pub lin_zero : {T : M → M} → Lin A T → T 0M ≡ 0M
  lin_zero {T} l = ap T (sym (zero_smul 0M)) ∙ l.on_smul 𝟘 0M ∙ zero_smul (T 0M)

  pub lin_neg : {T : M → M} → Lin A T → (f : M) → T (neg_m f) ≡ neg_m (T f)
  lin_neg {T} l f = cancel_m (T f) (T (neg_m f)) (neg_m (T f)) (sym (l.on_add f (neg_m f)) ∙ ap T (inv_m f) ∙ lin_zero l ∙ sym (inv_m (T f)))

  pub smul_lin : (r : C) → Lin A (λ f. r • f)
  smul_lin r = record { on_add = smul_add r; on_smul = λ s f. smul_comm r s f }

  -- the derivative by the variable of S, and the product with it
  abbrev pub ∂ : (ℕ → M) → ℕ → M
  ∂ f a = nat R (suc a) • f (suc a)

  abbrev pub X : (ℕ → M) → ℕ → M
  X f zero = 0M
  X f (suc a) = f a

  -- a map on the coefficients
  abbrev pub lift : (M → M) → (ℕ → M) → ℕ → M
  lift T f a = T (f a)

  pub ∂_lin : Lin S ∂
  ∂_lin = record {
    on_add = λ f g. fun_ext λ a. smul_add (nat R (suc a)) (f (suc a)) (g (suc a));
    on_smul = λ r f. fun_ext λ a. smul_comm (nat R (suc a)) r (f (suc a));
  }

  pub x_lin : Lin S X
  x_lin = record {
    on_add = λ f g. fun_ext (elim [ zero ↦ sym (zero_m 0M) | suc a ↦ refl ]);
    on_smul = λ r f. fun_ext (elim [ zero ↦ sym (smul_zero r) | suc a ↦ refl ]);
  }

  pub lift_lin : {T : M → M} → Lin A T → Lin S (lift T)
  lift_lin l = record {
    on_add = λ f g. fun_ext λ a. l.on_add (f a) (g a);
    on_smul = λ r f. fun_ext λ a. l.on_smul r (f a);
  }

  pub lift_∂ : {T : M → M} → Lin A T → (f : ℕ → M) → lift T (∂ f) ≡ ∂ (lift T f)
  lift_∂ l f = fun_ext λ a. l.on_smul (nat R (suc a)) (f (suc a))

  pub lift_x : {T : M → M} → Lin A T → (f : ℕ → M) → lift T (X f) ≡ X (lift T f)
  lift_x l f = fun_ext (elim [ zero ↦ lin_zero l | suc a ↦ refl ])

  -- the product rule
  pub ∂X : (f : ℕ → M) → ∂ (X f) ≡ S.add_m (X (∂ f)) f
  ∂X f = fun_ext (elim [
    | zero ↦ ap (λ r. r • f 0) (nat_one R) ∙ one_smul (f 0) ∙ sym (left_zero_m (f 0))
    | suc a ↦ ap (λ r. r • f (suc a)) (nat_suc R (suc a) ∙ R.add_comm 𝟙 (nat R (suc a)))
        ∙ add_smul (nat R (suc a)) 𝟙 (f (suc a)) ∙ ap (λ x. nat R (suc a) • f (suc a) ⊕ x) (one_smul (f (suc a)))
  ])
