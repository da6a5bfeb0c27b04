-- A solver for equations between polynomial expressions over any commutative ring.
use Rattle.std.specs.Prelude.{◌≡◌, ℕ, zero, suc, ◌+◌ as ◌+ℕ◌, ◌*◌ as ◌*ℕ◌, Bool, true, false, ◌&&◌, T, List, [], ◌∷◌, ◌==◌, refl}
use Rattle.std.proofs.Common.{sym, ◌∙◌, ap, ap₂, eqb→eq}
use Rattle.algebra.specs.Ring.{Ring}
use Rattle.algebra.specs.RingLaws.{acs, nat, nat_zero, nat_one, nat_add, nat_mul, zero_add, zero_mul, mul_zero, mul_neg, neg_neg, neg_dist, neg_zero, neg_add}

infix 20 ◌:=◌
infixl 60 ◌:+◌
infixl 60 ◌:-◌
infixl 70 ◌:*◌
pub data Expr : Type 0 where
  var : ℕ → Expr
  num : ℕ → Expr
  :0 :1 : Expr
  ◌:+◌ : Expr → Expr → Expr
  ◌:*◌ : Expr → Expr → Expr
  :-◌ : Expr → Expr

abbrev pub ◌:-◌ : Expr → Expr → Expr
a :- b = a :+ (:-◌ b)

abbrev pub ◌:=◌ : Expr → Expr → Expr × Expr
a := b = (a, b)

-- A polynomial in Horner form: `nil` is 0, `con p m` is the number p - m, and `hor p q` is p + x·q, where x is the
-- first variable, q is over all the variables and p over those after x.
pub data Poly : Type 0 where
  nil : Poly
  con : ℕ → ℕ → Poly
  hor : Poly → Poly → Poly

abbrev pub hor' : Poly → Poly → Poly
hor' nil nil = nil
hor' nil (con a b) = hor nil (con a b)
hor' nil (hor p q) = hor nil (hor p q)
hor' (con a b) r = hor (con a b) r
hor' (hor p q) r = hor (hor p q) r

abbrev pub addc : ℕ → ℕ → Poly → Poly
addc a b nil = con a b
addc a b (con c d) = con (a +ℕ c) (b +ℕ d)
addc a b (hor p q) = hor (addc a b p) q

abbrev pub add_p : Poly → Poly → Poly
add_p nil r = r
add_p (con a b) r = addc a b r
add_p (hor p q) nil = hor p q
add_p (hor p q) (con c d) = hor (addc c d p) q
add_p (hor p q) (hor p' q') = hor (add_p p p') (add_p q q')

abbrev pub scale : ℕ → ℕ → Poly → Poly
scale a b nil = nil
scale a b (con c d) = con (a *ℕ c +ℕ b *ℕ d) (a *ℕ d +ℕ b *ℕ c)
scale a b (hor p q) = hor (scale a b p) (scale a b q)

-- times what is over the variables after the first
abbrev pub low : (Poly → Poly) → Poly → Poly
low f nil = nil
low f (con c d) = hor' (f (con c d)) nil
low f (hor p q) = hor' (f p) (low f q)

abbrev pub mul_p : Poly → Poly → Poly
mul_p nil r = nil
mul_p (con a b) r = scale a b r
mul_p (hor p q) r = add_p (low (mul_p p) r) (hor' nil (mul_p q r))

abbrev pub neg_p : Poly → Poly
neg_p nil = nil
neg_p (con a b) = con b a
neg_p (hor p q) = hor (neg_p p) (neg_p q)

abbrev pub var_p : ℕ → Poly
var_p zero = hor nil (con 1 0)
var_p (suc k) = hor (var_p k) nil

abbrev pub norm : Expr → Poly
norm (var k) = var_p k
norm (num n) = con n 0
norm :0 = nil
norm :1 = con 1 0
norm (a :+ b) = add_p (norm a) (norm b)
norm (a :* b) = mul_p (norm a) (norm b)
norm (:-◌ a) = neg_p (norm a)

abbrev pub is_zero : Poly → Bool
is_zero nil = true
is_zero (con a b) = a == b
is_zero (hor p q) = is_zero p && is_zero q

abbrev pub same : Expr → Expr → Bool
same a b = is_zero (norm (a :- b))

pub &&_both : (a b : Bool) → T (a && b) → T a × T b
&&_both true b t = (tt, t)
&&_both false b t = absurd t

module _ {C : Type 0} (R : Ring C) where
  open R use {𝟘, 𝟙, add as ◌+◌, mul as ◌*◌, neg, add_assoc, add_comm, add_zero, add_neg, mul_assoc, mul_comm, mul_one, distrib}

  infixl 60 ◌+◌
  infixl 70 ◌*◌
  abbrev pub at : List C → ℕ → C
  at [] k = 𝟘
  at (x ∷ xs) zero = x
  at (x ∷ xs) (suc k) = at xs k

  abbrev pub ⟦◌⟧ : Expr → List C → C
  ⟦ var k ⟧ ρ = at ρ k
  ⟦ num n ⟧ ρ = nat R n
  ⟦ :0 ⟧ ρ = 𝟘
  ⟦ :1 ⟧ ρ = 𝟙
  ⟦ a :+ b ⟧ ρ = ⟦ a ⟧ ρ + ⟦ b ⟧ ρ
  ⟦ a :* b ⟧ ρ = ⟦ a ⟧ ρ * ⟦ b ⟧ ρ
  ⟦ :-◌ a ⟧ ρ = neg (⟦ a ⟧ ρ)

  abbrev head : List C → C
  head [] = 𝟘
  head (x ∷ xs) = x

  abbrev tail : List C → List C
  tail [] = []
  tail (x ∷ xs) = xs

  abbrev val : Poly → List C → C
  val nil ρ = 𝟘
  val (con a b) ρ = nat R a + neg (nat R b)
  val (hor p q) ρ = val p (tail ρ) + head ρ * val q ρ

  val_hor : (p q : Poly) (ρ : List C) → val (hor' p q) ρ ≡ val p (tail ρ) + head ρ * val q ρ
  val_hor nil nil ρ = simp (mul_zero, add_zero)
  val_hor nil (con a b) ρ = refl
  val_hor nil (hor p q) ρ = refl
  val_hor (con a b) r ρ = refl
  val_hor (hor p q) r ρ = refl

  val_addc : (a b : ℕ) (p : Poly) (ρ : List C) → val (addc a b p) ρ ≡ val (con a b) ρ + val p ρ
  val_addc a b nil ρ = sym (add_zero _)
  val_addc a b (con c d) ρ = simp (nat_add, neg_dist, acs)
  val_addc a b (hor p q) ρ = ap (λ x. x + head ρ * val q ρ) (val_addc a b p (tail ρ)) ∙ add_assoc _ _ _

  val_add : (p q : Poly) (ρ : List C) → val (add_p p q) ρ ≡ val p ρ + val q ρ
  val_add nil r ρ = sym (zero_add R _)
  val_add (con a b) r ρ = val_addc a b r ρ
  val_add (hor p q) nil ρ = sym (add_zero _)
  val_add (hor p q) (con c d) ρ = ap (λ x. x + head ρ * val q ρ) (val_addc c d p (tail ρ)) ∙ simp acs
  val_add (hor p q) (hor p' q') ρ = ap₂ (λ x y. x + head ρ * y) (val_add p p' (tail ρ)) (val_add q q' ρ) ∙ simp acs

  -- simp sorts variables more reliably than applications, so these stand by themselves
  times : (c p h q : C) → c * p + h * (c * q) ≡ c * (p + h * q)
  times c p h q = simp acs

  times' : (p h q r : C) → p * r + h * (q * r) ≡ (p + h * q) * r
  times' p h q r = simp acs

  val_scale : (a b : ℕ) (p : Poly) (ρ : List C) → val (scale a b p) ρ ≡ val (con a b) ρ * val p ρ
  val_scale a b nil ρ = sym (mul_zero R _)
  val_scale a b (con c d) ρ = simp (nat_add, nat_mul, neg_dist, mul_neg, neg_neg, acs)
  val_scale a b (hor p q) ρ = ap₂ (λ x y. x + head ρ * y) (val_scale a b p (tail ρ)) (val_scale a b q ρ) ∙ times _ _ _ _

  val_low : (p : Poly) (f : Poly → Poly) (h : (r : Poly) (ρ : List C) → val (f r) ρ ≡ val p ρ * val r ρ)
      (r : Poly) (ρ : List C) → val (low f r) ρ ≡ val p (tail ρ) * val r ρ
  val_low p f h nil ρ = sym (mul_zero R _)
  val_low p f h (con c d) ρ = val_hor (f (con c d)) nil ρ ∙ simp (mul_zero, add_zero) (h (con c d) (tail ρ))
  val_low p f h (hor s t) ρ =
      val_hor (f s) (low f t) ρ ∙ ap₂ (λ x y. x + head ρ * y) (h s (tail ρ)) (val_low p f h t ρ) ∙ times _ _ _ _

  val_mul : (p r : Poly) (ρ : List C) → val (mul_p p r) ρ ≡ val p ρ * val r ρ
  val_mul nil r ρ = sym (zero_mul R _)
  val_mul (con a b) r ρ = val_scale a b r ρ
  val_mul (hor p q) r ρ =
      val_add (low (mul_p p) r) (hor' nil (mul_p q r)) ρ
      ∙ ap₂ ◌+◌ (val_low p (mul_p p) (val_mul p) r ρ)
      (val_hor nil (mul_p q r) ρ ∙ zero_add R _ ∙ ap (λ x. head ρ * x) (val_mul q r ρ))
      ∙ times' _ _ _ _

  val_neg : (p : Poly) (ρ : List C) → val (neg_p p) ρ ≡ neg (val p ρ)
  val_neg nil ρ = sym (neg_zero R)
  val_neg (con a b) ρ = simp (neg_dist, neg_neg, acs)
  val_neg (hor p q) ρ = ap₂ (λ x y. x + head ρ * y) (val_neg p (tail ρ)) (val_neg q ρ) ∙ simp (neg_dist, mul_neg)

  tail_at : (ρ : List C) (k : ℕ) → at (tail ρ) k ≡ at ρ (suc k)
  tail_at [] k = refl
  tail_at (x ∷ xs) k = refl

  head_at : (ρ : List C) → head ρ ≡ at ρ 0
  head_at [] = refl
  head_at (x ∷ xs) = refl

  val_var : (k : ℕ) (ρ : List C) → val (var_p k) ρ ≡ at ρ k
  val_var zero ρ = simp (nat_zero, nat_one, neg_zero, add_zero, mul_one, zero_add) (head_at ρ)
  val_var (suc k) ρ = simp (mul_zero, add_zero) (val_var k (tail ρ) ∙ tail_at ρ k)

  val_norm : (e : Expr) (ρ : List C) → val (norm e) ρ ≡ ⟦ e ⟧ ρ
  val_norm (var k) ρ = val_var k ρ
  val_norm (num n) ρ = simp (nat_zero, neg_zero, add_zero)
  val_norm :0 ρ = refl
  val_norm :1 ρ = simp (nat_zero, nat_one, neg_zero, add_zero)
  val_norm (a :+ b) ρ = val_add (norm a) (norm b) ρ ∙ ap₂ ◌+◌ (val_norm a ρ) (val_norm b ρ)
  val_norm (a :* b) ρ = val_mul (norm a) (norm b) ρ ∙ ap₂ ◌*◌ (val_norm a ρ) (val_norm b ρ)
  val_norm (:-◌ a) ρ = val_neg (norm a) ρ ∙ ap neg (val_norm a ρ)

  val_zero : (p : Poly) → T (is_zero p) → (ρ : List C) → val p ρ ≡ 𝟘
  val_zero nil t ρ = refl
  val_zero (con a b) t ρ = ap (λ x. nat R x + neg (nat R b)) (eqb→eq a b t) ∙ add_neg (nat R b)
  val_zero (hor p q) t ρ =
      let u = &&_both (is_zero p) (is_zero q) t in
      ap₂ (λ x y. x + head ρ * y) (val_zero p u.0 (tail ρ)) (val_zero q u.1 ρ) ∙ simp (mul_zero, add_zero)

  pub solve : (ρ : List C) (a b : Expr) → T (same a b) → ⟦ a ⟧ ρ ≡ ⟦ b ⟧ ρ
  solve ρ a b t =
      let e : ⟦ a ⟧ ρ + neg (⟦ b ⟧ ρ) ≡ 𝟘 = sym (val_norm (a :- b) ρ) ∙ val_zero (norm (a :- b)) t ρ in
      sym (add_zero _) ∙ ap (λ x. ⟦ a ⟧ ρ + x) (sym (neg_add R (⟦ b ⟧ ρ))) ∙ sym (add_assoc _ _ _) ∙ ap (λ x. x + ⟦ b ⟧ ρ) e ∙ zero_add R _

  pub solve_pair : (ρ : List C) (q : Expr × Expr) → T (same q.0 q.1) → ⟦ q.0 ⟧ ρ ≡ ⟦ q.1 ⟧ ρ
  solve_pair ρ q t = solve ρ q.0 q.1 t

  pub solve₁ : (q : Expr → Expr × Expr) → (let p = q (var 0) in T (same p.0 p.1))
      → (a : C) → (let p = q (var 0) in let ρ = a ∷ [] in ⟦ p.0 ⟧ ρ ≡ ⟦ p.1 ⟧ ρ)
  solve₁ q t a = solve_pair (a ∷ []) (q (var 0)) t

  pub solve₂ : (q : Expr → Expr → Expr × Expr) → (let p = q (var 0) (var 1) in T (same p.0 p.1))
      → (a b : C) → (let p = q (var 0) (var 1) in let ρ = a ∷ b ∷ [] in ⟦ p.0 ⟧ ρ ≡ ⟦ p.1 ⟧ ρ)
  solve₂ q t a b = solve_pair (a ∷ b ∷ []) (q (var 0) (var 1)) t

  pub solve₃ : (q : Expr → Expr → Expr → Expr × Expr) → (let p = q (var 0) (var 1) (var 2) in T (same p.0 p.1))
      → (a b c : C) → (let p = q (var 0) (var 1) (var 2) in let ρ = a ∷ b ∷ c ∷ [] in ⟦ p.0 ⟧ ρ ≡ ⟦ p.1 ⟧ ρ)
  solve₃ q t a b c = solve_pair (a ∷ b ∷ c ∷ []) (q (var 0) (var 1) (var 2)) t

  pub solve₄ : (q : Expr → Expr → Expr → Expr → Expr × Expr) → (let p = q (var 0) (var 1) (var 2) (var 3) in T (same p.0 p.1))
      → (a b c d : C) → (let p = q (var 0) (var 1) (var 2) (var 3) in let ρ = a ∷ b ∷ c ∷ d ∷ [] in ⟦ p.0 ⟧ ρ ≡ ⟦ p.1 ⟧ ρ)
  solve₄ q t a b c d = solve_pair (a ∷ b ∷ c ∷ d ∷ []) (q (var 0) (var 1) (var 2) (var 3)) t

  pub solve₅ : (q : Expr → Expr → Expr → Expr → Expr → Expr × Expr) → (let p = q (var 0) (var 1) (var 2) (var 3) (var 4) in T (same p.0 p.1))
      → (a b c d e : C) → (let p = q (var 0) (var 1) (var 2) (var 3) (var 4) in let ρ = a ∷ b ∷ c ∷ d ∷ e ∷ [] in ⟦ p.0 ⟧ ρ ≡ ⟦ p.1 ⟧ ρ)
  solve₅ q t a b c d e = solve_pair (a ∷ b ∷ c ∷ d ∷ e ∷ []) (q (var 0) (var 1) (var 2) (var 3) (var 4)) t

  pub solve₆ : (q : Expr → Expr → Expr → Expr → Expr → Expr → Expr × Expr) → (let p = q (var 0) (var 1) (var 2) (var 3) (var 4) (var 5) in T (same p.0 p.1))
      → (a b c d e f : C) → (let p = q (var 0) (var 1) (var 2) (var 3) (var 4) (var 5) in let ρ = a ∷ b ∷ c ∷ d ∷ e ∷ f ∷ [] in ⟦ p.0 ⟧ ρ ≡ ⟦ p.1 ⟧ ρ)
  solve₆ q t a b c d e f = solve_pair (a ∷ b ∷ c ∷ d ∷ e ∷ f ∷ []) (q (var 0) (var 1) (var 2) (var 3) (var 4) (var 5)) t

  pub solve₇ : (q : Expr → Expr → Expr → Expr → Expr → Expr → Expr → Expr × Expr) → (let p = q (var 0) (var 1) (var 2) (var 3) (var 4) (var 5) (var 6) in T (same p.0 p.1))
      → (a b c d e f g : C) → (let p = q (var 0) (var 1) (var 2) (var 3) (var 4) (var 5) (var 6) in let ρ = a ∷ b ∷ c ∷ d ∷ e ∷ f ∷ g ∷ [] in ⟦ p.0 ⟧ ρ ≡ ⟦ p.1 ⟧ ρ)
  solve₇ q t a b c d e f g = solve_pair (a ∷ b ∷ c ∷ d ∷ e ∷ f ∷ g ∷ []) (q (var 0) (var 1) (var 2) (var 3) (var 4) (var 5) (var 6)) t

  pub solve₈ : (q : Expr → Expr → Expr → Expr → Expr → Expr → Expr → Expr → Expr × Expr) → (let p = q (var 0) (var 1) (var 2) (var 3) (var 4) (var 5) (var 6) (var 7) in T (same p.0 p.1))
      → (a b c d e f g h : C) → (let p = q (var 0) (var 1) (var 2) (var 3) (var 4) (var 5) (var 6) (var 7) in let ρ = a ∷ b ∷ c ∷ d ∷ e ∷ f ∷ g ∷ h ∷ [] in ⟦ p.0 ⟧ ρ ≡ ⟦ p.1 ⟧ ρ)
  solve₈ q t a b c d e f g h = solve_pair (a ∷ b ∷ c ∷ d ∷ e ∷ f ∷ g ∷ h ∷ []) (q (var 0) (var 1) (var 2) (var 3) (var 4) (var 5) (var 6) (var 7)) t

  pub solve₉ : (q : Expr → Expr → Expr → Expr → Expr → Expr → Expr → Expr → Expr → Expr × Expr) → (let p = q (var 0) (var 1) (var 2) (var 3) (var 4) (var 5) (var 6) (var 7) (var 8) in T (same p.0 p.1))
      → (a b c d e f g h i : C) → (let p = q (var 0) (var 1) (var 2) (var 3) (var 4) (var 5) (var 6) (var 7) (var 8) in let ρ = a ∷ b ∷ c ∷ d ∷ e ∷ f ∷ g ∷ h ∷ i ∷ [] in ⟦ p.0 ⟧ ρ ≡ ⟦ p.1 ⟧ ρ)
  solve₉ q t a b c d e f g h i = solve_pair (a ∷ b ∷ c ∷ d ∷ e ∷ f ∷ g ∷ h ∷ i ∷ []) (q (var 0) (var 1) (var 2) (var 3) (var 4) (var 5) (var 6) (var 7) (var 8)) t
