-- The adjugate of a symmetric matrix: A · adj A = det A · 1 in every ring.
use Rattle.std.specs.Prelude.{◌≡◌, List, [], ◌∷◌}
use Rattle.std.proofs.Common.{◌∙◌, ap}
use Rattle.algebra.specs.Ring.{Ring}
use Rattle.algebra.specs.RingLaws.{mul_zero}
use Rattle.algebra.specs.Solver.{Expr, var, :0, ◌:+◌, ◌:*◌, :-◌, ◌:=◌, solve, solve₅, solve₇}

-- A term that is written once over these operations can be read in a ring and as an expression of the solver.
pub record Ops (A : Type 0) : Type 0 where
  pub nought : A
  pub plus : A → A → A
  pub times : A → A → A
  pub minus : A → A

abbrev pub exprs : Ops Expr
exprs = record { nought = :0; plus = ◌:+◌; times = ◌:*◌; minus = :-◌ }

abbrev pub in_ring : {C : Type 0} → Ring C → Ops C
in_ring R = record { nought = R.𝟘; plus = R.add; times = R.mul; minus = R.neg }

-- ---- symmetric matrices

pub data Axis₂ : Type 0 where
  x₁ x₂ : Axis₂

pub data Axis₃ : Type 0 where
  y₁ y₂ y₃ : Axis₃

pub record Symmetric₂ (A : Type 0) : Type 0 where
  pub a11 : A
  pub a12 : A
  pub a22 : A

pub record Symmetric₃ (A : Type 0) : Type 0 where
  pub a11 : A
  pub a12 : A
  pub a13 : A
  pub a22 : A
  pub a23 : A
  pub a33 : A

abbrev pub entry₂ : {A : Type 0} → Symmetric₂ A → Axis₂ → Axis₂ → A
entry₂ m x₁ x₁ = m.a11
entry₂ m x₁ x₂ = m.a12
entry₂ m x₂ x₁ = m.a12
entry₂ m x₂ x₂ = m.a22

abbrev pub entry₃ : {A : Type 0} → Symmetric₃ A → Axis₃ → Axis₃ → A
entry₃ m y₁ y₁ = m.a11
entry₃ m y₁ y₂ = m.a12
entry₃ m y₁ y₃ = m.a13
entry₃ m y₂ y₁ = m.a12
entry₃ m y₂ y₂ = m.a22
entry₃ m y₂ y₃ = m.a23
entry₃ m y₃ y₁ = m.a13
entry₃ m y₃ y₂ = m.a23
entry₃ m y₃ y₃ = m.a33

module _ {A : Type 0} (o : Ops A) where
  open o use {nought, plus as ◌+◌, times as ◌*◌, minus}

  infixl 60 ◌+◌
  infixl 70 ◌*◌
  abbrev pub adj₂ : Symmetric₂ A → Symmetric₂ A
  adj₂ m = record { a11 = m.a22; a12 = minus m.a12; a22 = m.a11 }

  abbrev pub det₂ : Symmetric₂ A → A
  det₂ m = m.a11 * m.a22 + minus (m.a12 * m.a12)

  abbrev pub adj₃ : Symmetric₃ A → Symmetric₃ A
  adj₃ m = record {
    a11 = m.a22 * m.a33 + minus (m.a23 * m.a23);
    a12 = m.a13 * m.a23 + minus (m.a12 * m.a33);
    a13 = m.a12 * m.a23 + minus (m.a13 * m.a22);
    a22 = m.a11 * m.a33 + minus (m.a13 * m.a13);
    a23 = m.a12 * m.a13 + minus (m.a11 * m.a23);
    a33 = m.a11 * m.a22 + minus (m.a12 * m.a12);
  }

  -- by the first row
  abbrev pub det₃ : Symmetric₃ A → A
  det₃ m = m.a11 * (adj₃ m).a11 + m.a12 * (adj₃ m).a12 + m.a13 * (adj₃ m).a13

  -- an entry of the product of two matrices
  abbrev pub product₂ : Symmetric₂ A → Symmetric₂ A → Axis₂ → Axis₂ → A
  product₂ m n i j = entry₂ m i x₁ * entry₂ n x₁ j + entry₂ m i x₂ * entry₂ n x₂ j

  abbrev pub product₃ : Symmetric₃ A → Symmetric₃ A → Axis₃ → Axis₃ → A
  product₃ m n i j = entry₃ m i y₁ * entry₃ n y₁ j + entry₃ m i y₂ * entry₃ n y₂ j + entry₃ m i y₃ * entry₃ n y₃ j

  -- an entry of d · 1
  abbrev pub scalar₂ : A → Axis₂ → Axis₂ → A
  scalar₂ d = entry₂ (record { a11 = d; a12 = nought; a22 = d })

  abbrev pub scalar₃ : A → Axis₃ → Axis₃ → A
  scalar₃ d = entry₃ (record { a11 = d; a12 = nought; a13 = nought; a22 = d; a23 = nought; a33 = d })

-- ---- the equations

abbrev vars₂ : Symmetric₂ Expr
vars₂ = record { a11 = var 0; a12 = var 1; a22 = var 2 }

abbrev vars₃ : Symmetric₃ Expr
vars₃ = record { a11 = var 0; a12 = var 1; a13 = var 2; a22 = var 3; a23 = var 4; a33 = var 5 }

abbrev left₂ : Axis₂ → Axis₂ → Expr
left₂ = product₂ exprs vars₂ (adj₂ exprs vars₂)

abbrev right₂ : Axis₂ → Axis₂ → Expr
right₂ = scalar₂ exprs (det₂ exprs vars₂)

abbrev left₃ : Axis₃ → Axis₃ → Expr
left₃ = product₃ exprs vars₃ (adj₃ exprs vars₃)

abbrev right₃ : Axis₃ → Axis₃ → Expr
right₃ = scalar₃ exprs (det₃ exprs vars₃)

module _ {C : Type 0} (R : Ring C) where
  open R use {𝟘, 𝟙, add as ◌+◌, mul as ◌*◌}

  infixl 60 ◌+◌
  infixl 70 ◌*◌
  abbrev entries₂ : Symmetric₂ C → List C
  entries₂ m = m.a11 ∷ m.a12 ∷ m.a22 ∷ []

  abbrev entries₃ : Symmetric₃ C → List C
  entries₃ m = m.a11 ∷ m.a12 ∷ m.a13 ∷ m.a22 ∷ m.a23 ∷ m.a33 ∷ []

  pub adjugate₂ : (m : Symmetric₂ C) (i j : Axis₂) → product₂ (in_ring R) m (adj₂ (in_ring R) m) i j ≡ scalar₂ (in_ring R) (det₂ (in_ring R) m) i j
  adjugate₂ m x₁ x₁ = solve R (entries₂ m) (left₂ x₁ x₁) (right₂ x₁ x₁) tt
  adjugate₂ m x₁ x₂ = solve R (entries₂ m) (left₂ x₁ x₂) (right₂ x₁ x₂) tt
  adjugate₂ m x₂ x₁ = solve R (entries₂ m) (left₂ x₂ x₁) (right₂ x₂ x₁) tt
  adjugate₂ m x₂ x₂ = solve R (entries₂ m) (left₂ x₂ x₂) (right₂ x₂ x₂) tt

  pub adjugate₃ : (m : Symmetric₃ C) (i j : Axis₃) → product₃ (in_ring R) m (adj₃ (in_ring R) m) i j ≡ scalar₃ (in_ring R) (det₃ (in_ring R) m) i j
  adjugate₃ m y₁ y₁ = solve R (entries₃ m) (left₃ y₁ y₁) (right₃ y₁ y₁) tt
  adjugate₃ m y₁ y₂ = solve R (entries₃ m) (left₃ y₁ y₂) (right₃ y₁ y₂) tt
  adjugate₃ m y₁ y₃ = solve R (entries₃ m) (left₃ y₁ y₃) (right₃ y₁ y₃) tt
  adjugate₃ m y₂ y₁ = solve R (entries₃ m) (left₃ y₂ y₁) (right₃ y₂ y₁) tt
  adjugate₃ m y₂ y₂ = solve R (entries₃ m) (left₃ y₂ y₂) (right₃ y₂ y₂) tt
  adjugate₃ m y₂ y₃ = solve R (entries₃ m) (left₃ y₂ y₃) (right₃ y₂ y₃) tt
  adjugate₃ m y₃ y₁ = solve R (entries₃ m) (left₃ y₃ y₁) (right₃ y₃ y₁) tt
  adjugate₃ m y₃ y₂ = solve R (entries₃ m) (left₃ y₃ y₂) (right₃ y₃ y₂) tt
  adjugate₃ m y₃ y₃ = solve R (entries₃ m) (left₃ y₃ y₃) (right₃ y₃ y₃) tt

  -- ---- the inverse, where the determinant has an inverse d

  abbrev pub inverse₂ : C → Symmetric₂ C → Symmetric₂ C
  inverse₂ d m = let n = adj₂ (in_ring R) m in record { a11 = d * n.a11; a12 = d * n.a12; a22 = d * n.a22 }

  abbrev pub inverse₃ : C → Symmetric₃ C → Symmetric₃ C
  inverse₃ d m =
      let n = adj₃ (in_ring R) m in
      record { a11 = d * n.a11; a12 = d * n.a12; a13 = d * n.a13; a22 = d * n.a22; a23 = d * n.a23; a33 = d * n.a33 }

  front₂ : (d a a' b b' : C) → a * (d * a') + b * (d * b') ≡ d * (a * a' + b * b')
  front₂ = solve₅ R (λ d a a' b b'. a :* (d :* a') :+ b :* (d :* b') := d :* (a :* a' :+ b :* b')) tt

  front₃ : (d a a' b b' c c' : C) → a * (d * a') + b * (d * b') + c * (d * c') ≡ d * (a * a' + b * b' + c * c')
  front₃ = solve₇ R (λ d a a' b b' c c'. a :* (d :* a') :+ b :* (d :* b') :+ c :* (d :* c') := d :* (a :* a' :+ b :* b' :+ c :* c')) tt

  pub inverse_of₂ : (d : C) (m : Symmetric₂ C) → d * det₂ (in_ring R) m ≡ 𝟙 → (i j : Axis₂) → product₂ (in_ring R) m (inverse₂ d m) i j ≡ scalar₂ (in_ring R) 𝟙 i j
  inverse_of₂ d m h x₁ x₁ = front₂ d _ _ _ _ ∙ ap (λ t. d * t) (adjugate₂ m x₁ x₁) ∙ h
  inverse_of₂ d m h x₁ x₂ = front₂ d _ _ _ _ ∙ ap (λ t. d * t) (adjugate₂ m x₁ x₂) ∙ mul_zero R d
  inverse_of₂ d m h x₂ x₁ = front₂ d _ _ _ _ ∙ ap (λ t. d * t) (adjugate₂ m x₂ x₁) ∙ mul_zero R d
  inverse_of₂ d m h x₂ x₂ = front₂ d _ _ _ _ ∙ ap (λ t. d * t) (adjugate₂ m x₂ x₂) ∙ h

  pub inverse_of₃ : (d : C) (m : Symmetric₃ C) → d * det₃ (in_ring R) m ≡ 𝟙 → (i j : Axis₃) → product₃ (in_ring R) m (inverse₃ d m) i j ≡ scalar₃ (in_ring R) 𝟙 i j
  inverse_of₃ d m h y₁ y₁ = front₃ d _ _ _ _ _ _ ∙ ap (λ t. d * t) (adjugate₃ m y₁ y₁) ∙ h
  inverse_of₃ d m h y₁ y₂ = front₃ d _ _ _ _ _ _ ∙ ap (λ t. d * t) (adjugate₃ m y₁ y₂) ∙ mul_zero R d
  inverse_of₃ d m h y₁ y₃ = front₃ d _ _ _ _ _ _ ∙ ap (λ t. d * t) (adjugate₃ m y₁ y₃) ∙ mul_zero R d
  inverse_of₃ d m h y₂ y₁ = front₃ d _ _ _ _ _ _ ∙ ap (λ t. d * t) (adjugate₃ m y₂ y₁) ∙ mul_zero R d
  inverse_of₃ d m h y₂ y₂ = front₃ d _ _ _ _ _ _ ∙ ap (λ t. d * t) (adjugate₃ m y₂ y₂) ∙ h
  inverse_of₃ d m h y₂ y₃ = front₃ d _ _ _ _ _ _ ∙ ap (λ t. d * t) (adjugate₃ m y₂ y₃) ∙ mul_zero R d
  inverse_of₃ d m h y₃ y₁ = front₃ d _ _ _ _ _ _ ∙ ap (λ t. d * t) (adjugate₃ m y₃ y₁) ∙ mul_zero R d
  inverse_of₃ d m h y₃ y₂ = front₃ d _ _ _ _ _ _ ∙ ap (λ t. d * t) (adjugate₃ m y₃ y₂) ∙ mul_zero R d
  inverse_of₃ d m h y₃ y₃ = front₃ d _ _ _ _ _ _ ∙ ap (λ t. d * t) (adjugate₃ m y₃ y₃) ∙ h
