-- The homogeneous parts of a polynomial.
use Rattle.std.specs.Prelude.{◌≡◌, refl, ℕ, zero, suc, ◌+◌ as ◌+ℕ◌, ◌≤◌, ◌<◌}
use Rattle.std.proofs.Common.{sym, ◌∙◌, ap, ap₂, arith}
use Rattle.std.proofs.Math.Path.{fun_ext}
use Rattle.std.proofs.Math.Decide.{ℕ_discrete, dec_lt}
use Rattle.algebra.specs.Ring.{Ring}
use Rattle.algebra.specs.RingLaws.{zero_add}
use Rattle.polynomials.specs.Module.{Lin, lin_zero}
use Rattle.polynomials.specs.Series.{Series, Hom}
use Rattle.polynomials.specs.Degrees.{Under}

abbrev pub when : {A C : Type 0} → Dec A → C → C → C
when (yes p) v w = v
when (no p) v w = w

when_yes : {A C : Type 0} (d : Dec A) (v w : C) → A → when d v w ≡ v
when_yes (yes p) v w a = refl
when_yes (no p) v w a = absurd (p a)

when_no : {A C : Type 0} (d : Dec A) (v w : C) → ¬ A → when d v w ≡ w
when_no (yes p) v w n = absurd (n p)
when_no (no p) v w n = refl

module _ {C : Type 0} (R : Ring C) where
  open R use {𝟘, 𝟙, add as ◌+◌, mul as ◌*◌}
  open Series R use {M, 0M, add_m as ◌⊕◌}

  infixl 60 ◌+◌
  infixl 70 ◌*◌
  infixl 60 ◌⊕◌
  abbrev pub part : M → ℕ → M
  part f n a b c = when (ℕ_discrete (a +ℕ b +ℕ c) n) (f a b c) 𝟘

  abbrev pub sum_to : (ℕ → M) → ℕ → M
  sum_to g zero = 0M
  sum_to g (suc n) = sum_to g n ⊕ g n

  pub part_hom : (f : M) (n : ℕ) → Hom R n (part f n)
  part_hom f n a b c h = when_no (ℕ_discrete (a +ℕ b +ℕ c) n) (f a b c) 𝟘 h

  beyond : (f : M) (N a b c : ℕ) → N ≤ a +ℕ b +ℕ c → sum_to (part f) N a b c ≡ 𝟘
  beyond f zero a b c k = refl
  beyond f (suc N) a b c k =
      ap₂ ◌+◌ (beyond f N a b c (omega arith)) (part_hom f N a b c (λ e. omega arith)) ∙ R.add_zero 𝟘

  within : (f : M) (N a b c : ℕ) → a +ℕ b +ℕ c < N → sum_to (part f) N a b c ≡ f a b c
  within f zero a b c k = absurd (omega arith)
  within f (suc N) a b c k = go (within f N a b c) (ℕ_discrete (a +ℕ b +ℕ c) N)
    where
      go : (a +ℕ b +ℕ c < N → sum_to (part f) N a b c ≡ f a b c) → Dec (a +ℕ b +ℕ c ≡ N) → sum_to (part f) (suc N) a b c ≡ f a b c
      go below (yes e) =
          ap₂ ◌+◌ (beyond f N a b c (omega arith)) (when_yes (ℕ_discrete (a +ℕ b +ℕ c) N) (f a b c) 𝟘 e) ∙ zero_add R (f a b c)
      go below (no d) = ap₂ ◌+◌ (below (omega arith)) (part_hom f N a b c d) ∙ R.add_zero (f a b c)

  pub parts : (f : M) (N : ℕ) → Under R N f → sum_to (part f) N ≡ f
  parts f N u = fun_ext λ a. fun_ext λ b. fun_ext λ c. go a b c (dec_lt (a +ℕ b +ℕ c) N)
    where
      go : (a b c : ℕ) → Dec (a +ℕ b +ℕ c < N) → sum_to (part f) N a b c ≡ f a b c
      go a b c (yes k) = within f N a b c k
      go a b c (no d) = let k : N ≤ a +ℕ b +ℕ c = omega arith in beyond f N a b c k ∙ sym (u a b c k)

  pub sum_to_ext : (g h : ℕ → M) → ((n : ℕ) → g n ≡ h n) → (N : ℕ) → sum_to g N ≡ sum_to h N
  sum_to_ext g h e zero = refl
  sum_to_ext g h e (suc N) = ap₂ ◌⊕◌ (sum_to_ext g h e N) (e N)

  pub sum_to_lin : (T : M → M) → Lin (Series R) T → (g : ℕ → M) (N : ℕ) → T (sum_to g N) ≡ sum_to (λ n. T (g n)) N
  sum_to_lin T l g zero = lin_zero (Series R) l
  sum_to_lin T l g (suc N) = l.on_add (sum_to g N) (g N) ∙ ap (λ t. t ⊕ T (g N)) (sum_to_lin T l g N)
