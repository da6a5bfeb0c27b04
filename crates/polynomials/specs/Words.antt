-- A solver for equations between operators of a module: sums of words in linear generators, two of which
-- commute or have the commutator 1.
use Rattle.std.specs.Prelude.{◌≡◌, refl, Bool, true, false, ℕ, zero, suc, ◌+◌ as ◌+ℕ◌, ◌<◌, T}
use Rattle.std.proofs.Common.{sym, ◌∙◌, ap, ap₂, arith, eqb→eq}
use Rattle.algebra.specs.Ring.{Ring}
use Rattle.algebra.specs.RingLaws.{acs, nat, nat_zero, nat_one, nat_add, nat_mul, mul_neg, neg_neg, neg_dist, neg_zero}
use Rattle.algebra.specs.Solver.{Poly, nil, con, hor, hor', addc, add_p, scale, neg_p, is_zero, &&_both}
use Rattle.polynomials.specs.Module.{Mod, Lin, left_comm_m, left_zero_m, smul_zero, zero_smul, neg_smul, lin_zero, lin_neg, smul_lin, cancel_m}

infixl 60 ◌⊞◌
infixl 60 ◌⊟◌
infixr 70 ◌∘◌
pub data Op : Type 0 where
  gen : ℕ → Op
  num : ℕ → Op
  :0 :1 : Op
  ◌⊞◌ : Op → Op → Op
  ◌∘◌ : Op → Op → Op
  ⊟◌ : Op → Op

abbrev pub ◌⊟◌ : Op → Op → Op
a ⊟ b = a ⊞ (⊟◌ b)

-- `comm k i` says of i < k that the generators K and I have KI = IK + 1, and not KI = IK
module _ (comm : ℕ → ℕ → Bool) where
  abbrev pub extra : Bool → Poly → Poly
  extra true q = q
  extra false q = nil

  -- the generator `K`, which stands k places behind n, times what is over the generators from n on
  abbrev pub times : ℕ → ℕ → ℕ → Poly → Poly
  times K zero n p = hor' nil p
  times K (suc k) n nil = nil
  times K (suc k) n (con a b) = hor' (times K k (suc n) (con a b)) nil
  times K (suc k) n (hor p q) = add_p (hor' (times K k (suc n) p) (times K (suc k) n q)) (extra (comm K n) q)

  abbrev pub act : Op → Poly → Poly
  act (gen k) p = times k k 0 p
  act (num n) p = scale n 0 p
  act :0 p = nil
  act :1 p = p
  act (a ⊞ b) p = add_p (act a p) (act b p)
  act (a ∘ b) p = act a (act b p)
  act (⊟◌ a) p = neg_p (act a p)

  abbrev pub same_op : Op → Op → Bool
  same_op a b = is_zero (act (a ⊟ b) (con 1 0))

module _ {C : Type 0} {R : Ring C} (A : Mod R) where
  open R use {𝟘, 𝟙, add as ◌+◌, mul as ◌*◌, neg, add_zero, add_neg}
  open A use {M, 0M, add_m as ◌⊕◌, neg_m, smul as ◌•◌, assoc_m, comm_m, zero_m, inv_m, smul_add, add_smul, mul_smul, one_smul}

  infixl 60 ◌+◌
  infixl 70 ◌*◌
  infixl 60 ◌⊕◌
  infixr 70 ◌•◌
  -- K I = I K + 1 or K I = I K
  abbrev pub Swap : Bool → (M → M) → (M → M) → Type 0
  Swap true K I = (f : M) → K (I f) ≡ I (K f) ⊕ f
  Swap false K I = (f : M) → K (I f) ≡ I (K f)

pub record Gens {C : Type 0} {R : Ring C} (A : Mod R) (comm : ℕ → ℕ → Bool) (ρ : ℕ → A.M → A.M) : Type 0 where
  pub lin : (k : ℕ) → Lin A (ρ k)
  pub swap : (i k : ℕ) → i < k → Swap A (comm k i) (ρ k) (ρ i)

module _ {C : Type 0} {R : Ring C} (A : Mod R) (comm : ℕ → ℕ → Bool) (ρ : ℕ → A.M → A.M) where
  open R use {𝟘, 𝟙, add as ◌+◌, mul as ◌*◌, neg, add_zero, add_neg}
  open A use {M, 0M, add_m as ◌⊕◌, neg_m, smul as ◌•◌, assoc_m, comm_m, zero_m, inv_m, smul_add, add_smul, mul_smul, one_smul}

  infixl 60 ◌+◌
  infixl 70 ◌*◌
  infixl 60 ◌⊕◌
  infixr 70 ◌•◌
  abbrev pub ⟦◌⟧ : Op → M → M
  ⟦ gen k ⟧ f = ρ k f
  ⟦ num n ⟧ f = nat R n • f
  ⟦ :0 ⟧ f = 0M
  ⟦ :1 ⟧ f = f
  ⟦ a ⊞ b ⟧ f = ⟦ a ⟧ f ⊕ ⟦ b ⟧ f
  ⟦ a ∘ b ⟧ f = ⟦ a ⟧ (⟦ b ⟧ f)
  ⟦ ⊟◌ a ⟧ f = neg_m (⟦ a ⟧ f)

  abbrev val : Poly → ℕ → M → M
  val nil n f = 0M
  val (con a b) n f = (nat R a + neg (nat R b)) • f
  val (hor p q) n f = val p (suc n) f ⊕ ρ n (val q n f)

  four : (a b c d : M) → (a ⊕ b) ⊕ (c ⊕ d) ≡ (a ⊕ c) ⊕ (b ⊕ d)
  four a b c d = simp (assoc_m, left_comm_m)

  four' : (a b c d : M) → (a ⊕ (b ⊕ c)) ⊕ d ≡ (a ⊕ b) ⊕ (c ⊕ d)
  four' a b c d = simp assoc_m

  module _ (G : Gens A comm ρ) where
    val_hor : (p q : Poly) (n : ℕ) (f : M) → val (hor' p q) n f ≡ val p (suc n) f ⊕ ρ n (val q n f)
    val_hor nil nil n f = sym (zero_m 0M) ∙ ap (λ x. 0M ⊕ x) (sym (lin_zero A (G.lin n)))
    val_hor nil (con a b) n f = refl
    val_hor nil (hor p q) n f = refl
    val_hor (con a b) r n f = refl
    val_hor (hor p q) r n f = refl

    val_addc : (a b : ℕ) (p : Poly) (n : ℕ) (f : M) → val (addc a b p) n f ≡ val (con a b) n f ⊕ val p n f
    val_addc a b nil n f = sym (zero_m _)
    val_addc a b (con c d) n f = ap (λ r. r • f) (simp (nat_add, neg_dist, acs)) ∙ add_smul (nat R a + neg (nat R b)) (nat R c + neg (nat R d)) f
    val_addc a b (hor p q) n f = ap (λ x. x ⊕ ρ n (val q n f)) (val_addc a b p (suc n) f) ∙ assoc_m _ _ _

    val_add : (p q : Poly) (n : ℕ) (f : M) → val (add_p p q) n f ≡ val p n f ⊕ val q n f
    val_add nil r n f = sym (left_zero_m A _)
    val_add (con a b) r n f = val_addc a b r n f
    val_add (hor p q) nil n f = sym (zero_m _)
    val_add (hor p q) (con c d) n f = val_addc c d (hor p q) n f ∙ comm_m _ _
    val_add (hor p q) (hor p' q') n f =
        ap₂ ◌⊕◌ (val_add p p' (suc n) f) (ap (ρ n) (val_add q q' n f) ∙ (G.lin n).on_add _ _) ∙ four _ _ _ _

    val_scale : (a b : ℕ) (p : Poly) (n : ℕ) (f : M) → val (scale a b p) n f ≡ (nat R a + neg (nat R b)) • val p n f
    val_scale a b nil n f = sym (smul_zero A _)
    val_scale a b (con c d) n f =
        ap (λ r. r • f) (simp (nat_add, nat_mul, neg_dist, mul_neg, neg_neg, acs)) ∙ mul_smul (nat R a + neg (nat R b)) (nat R c + neg (nat R d)) f
    val_scale a b (hor p q) n f =
        ap₂ ◌⊕◌ (val_scale a b p (suc n) f) (ap (ρ n) (val_scale a b q n f) ∙ (G.lin n).on_smul _ _) ∙ sym (smul_add _ _ _)

    neg_add : (f g : M) → neg_m (f ⊕ g) ≡ neg_m f ⊕ neg_m g
    neg_add f g = cancel_m A (f ⊕ g) _ _ (inv_m (f ⊕ g) ∙ sym (four f g (neg_m f) (neg_m g) ∙ ap₂ ◌⊕◌ (inv_m f) (inv_m g) ∙ zero_m 0M))

    neg_0 : neg_m 0M ≡ 0M
    neg_0 = sym (left_zero_m A (neg_m 0M)) ∙ inv_m 0M

    val_neg : (p : Poly) (n : ℕ) (f : M) → val (neg_p p) n f ≡ neg_m (val p n f)
    val_neg nil n f = sym neg_0
    val_neg (con a b) n f = ap (λ r. r • f) (simp (neg_dist, neg_neg, acs)) ∙ neg_smul A (nat R a + neg (nat R b)) f
    val_neg (hor p q) n f =
        ap₂ ◌⊕◌ (val_neg p (suc n) f) (ap (ρ n) (val_neg q n f) ∙ lin_neg A (G.lin n) _) ∙ sym (neg_add _ _)

    val_extra : (b : Bool) (K I : M → M) → Swap A b K I → (q : Poly) (n : ℕ) (f : M)
        → K (I (val q n f)) ≡ I (K (val q n f)) ⊕ val (extra comm b q) n f
    val_extra true K I s q n f = s (val q n f)
    val_extra false K I s q n f = s (val q n f) ∙ sym (zero_m _)

    val_times : (K k n : ℕ) → K ≡ n +ℕ k → (p : Poly) (f : M) → val (times comm K k n p) n f ≡ ρ K (val p n f)
    val_times K zero n e p f =
        val_hor nil p n f ∙ left_zero_m A _ ∙ ap (λ j. ρ j (val p n f)) (let h : n ≡ K = omega arith in h)
    val_times K (suc k) n e nil f = sym (lin_zero A (G.lin K))
    val_times K (suc k) n e (con a b) f =
        val_hor (times comm K k (suc n) (con a b)) nil n f ∙ ap₂ ◌⊕◌ (val_times K k (suc n) (omega arith) (con a b) f) (lin_zero A (G.lin n)) ∙ zero_m _
    val_times K (suc k) n e (hor p q) f =
        val_add (hor' (times comm K k (suc n) p) (times comm K (suc k) n q)) (extra comm (comm K n) q) n f
        ∙ ap (λ x. x ⊕ val (extra comm (comm K n) q) n f)
        (val_hor (times comm K k (suc n) p) (times comm K (suc k) n q) n f
        ∙ ap₂ ◌⊕◌ (val_times K k (suc n) (omega arith) p f) (ap (ρ n) (val_times K (suc k) n e q f)))
        ∙ assoc_m _ _ _
        ∙ ap (λ x. ρ K (val p (suc n) f) ⊕ x) (sym (val_extra (comm K n) (ρ K) (ρ n) (G.swap n K (omega arith)) q n f))
        ∙ sym ((G.lin K).on_add _ _)

    val_act : (e : Op) (p : Poly) (f : M) → val (act comm e p) 0 f ≡ ⟦ e ⟧ (val p 0 f)
    val_act (gen k) p f = val_times k k 0 (omega arith) p f
    val_act (num n) p f = val_scale n 0 p 0 f ∙ ap (λ r. r • val p 0 f) (simp (nat_zero, neg_zero, add_zero))
    val_act :0 p f = refl
    val_act :1 p f = refl
    val_act (a ⊞ b) p f = val_add (act comm a p) (act comm b p) 0 f ∙ ap₂ ◌⊕◌ (val_act a p f) (val_act b p f)
    val_act (a ∘ b) p f = val_act a (act comm b p) f ∙ ap ⟦ a ⟧ (val_act b p f)
    val_act (⊟◌ a) p f = val_neg (act comm a p) 0 f ∙ ap neg_m (val_act a p f)

    val_zero : (p : Poly) → T (is_zero p) → (n : ℕ) (f : M) → val p n f ≡ 0M
    val_zero nil t n f = refl
    val_zero (con a b) t n f =
        ap (λ x. (nat R x + neg (nat R b)) • f) (eqb→eq a b t) ∙ ap (λ r. r • f) (add_neg (nat R b)) ∙ zero_smul A f
    val_zero (hor p q) t n f =
        let u = &&_both (is_zero p) (is_zero q) t in
        ap₂ ◌⊕◌ (val_zero p u.0 (suc n) f) (ap (ρ n) (val_zero q u.1 n f) ∙ lin_zero A (G.lin n)) ∙ zero_m 0M

    val_1 : (f : M) → val (con 1 0) 0 f ≡ f
    val_1 f = ap (λ r. r • f) (simp (nat_zero, nat_one, neg_zero, add_zero)) ∙ one_smul f

    pub solve_op : (a b : Op) → T (same_op comm a b) → (f : M) → ⟦ a ⟧ f ≡ ⟦ b ⟧ f
    solve_op a b t f =
        let e : ⟦ a ⟧ f ⊕ neg_m (⟦ b ⟧ f) ≡ 0M =
        ap ⟦ a ⊟ b ⟧ (sym (val_1 f)) ∙ sym (val_act (a ⊟ b) (con 1 0) f) ∙ val_zero (act comm (a ⊟ b) (con 1 0)) t 0 f in
        cancel_m A (neg_m (⟦ b ⟧ f)) _ _ (comm_m _ _ ∙ e ∙ sym (inv_m _) ∙ comm_m _ _)

    pub op_lin : (e : Op) → Lin A ⟦ e ⟧
    op_lin (gen k) = G.lin k
    op_lin (num n) = smul_lin A (nat R n)
    op_lin :0 = record { on_add = λ f g. sym (zero_m 0M); on_smul = λ r f. sym (smul_zero A r) }
    op_lin :1 = record { on_add = λ f g. refl; on_smul = λ r f. refl }
    op_lin (a ⊞ b) = record {
      on_add = λ f g. ap₂ ◌⊕◌ ((op_lin a).on_add f g) ((op_lin b).on_add f g) ∙ four _ _ _ _;
      on_smul = λ r f. ap₂ ◌⊕◌ ((op_lin a).on_smul r f) ((op_lin b).on_smul r f) ∙ sym (smul_add r _ _);
    }
    op_lin (a ∘ b) = record {
      on_add = λ f g. ap ⟦ a ⟧ ((op_lin b).on_add f g) ∙ (op_lin a).on_add _ _;
      on_smul = λ r f. ap ⟦ a ⟧ ((op_lin b).on_smul r f) ∙ (op_lin a).on_smul r _;
    }
    op_lin (⊟◌ a) = record {
      on_add = λ f g. ap neg_m ((op_lin a).on_add f g) ∙ neg_add _ _;
      on_smul = λ r f. ap neg_m ((op_lin a).on_smul r f) ∙ sym (lin_neg A (smul_lin A r) _);
    }
