-- What is proved, in the subject's words. The operations are parameters, so that a contract says of which ones it speaks.
use Rattle.std.specs.Prelude.{◌≡◌, ℕ, ◌<◌, Bool, T, List, ℤ, pos, ◌+ℤ◌, ◌*ℤ◌, unsigned_abs}
use Rattle.algebra.specs.Ring.{Ring}
use Rattle.algebra.specs.Solver.{Expr, ⟦◌⟧}
use Rattle.algebra.specs.Adjugate.{Axis₂, Axis₃, Symmetric₂, Symmetric₃, in_ring, product₂, product₃, scalar₂, scalar₃}
use Rattle.algebra.specs.Gcd.{gcd}
use Rattle.algebra.specs.Rationals.{ℚ}

-- ---- rings

-- these operations make a ring, with decided equality and decided inverses
abbrev pub RingOf : {C : Type 0} → C → C → (C → C → C) → (C → C → C) → (C → C) → Type 0
RingOf {C} zero one add mul neg =
    (R : Ring C) × (R.𝟘 ≡ zero) × (R.𝟙 ≡ one) × (R.add ≡ add) × (R.mul ≡ mul) × (R.neg ≡ neg)

-- and everything but zero has an inverse
abbrev pub FieldOf : {C : Type 0} → C → C → (C → C → C) → (C → C → C) → (C → C) → (C → C) → Type 0
FieldOf {C} zero one add mul neg inverse =
    RingOf zero one add mul neg × ((a : C) → ¬ (a ≡ zero) → mul a (inverse a) ≡ one)

abbrev pub Invertible : {C : Type 0} → Ring C → C → Type 0
Invertible {C} R a = (b : C) × (R.mul a b ≡ R.𝟙)

-- a map takes one operation to another
abbrev pub Respects : {A B : Type 0} → (A → B) → (A → A → A) → (B → B → B) → Type 0
Respects {A} f op to = (a b : A) → f (op a b) ≡ to (f a) (f b)

-- expressions that the test accepts are equal at all values of their variables
abbrev pub Sound : {C : Type 0} → Ring C → (Expr → Expr → Bool) → Type 0
Sound {C} R test = (ρ : List C) (a b : Expr) → T (test a b) → ⟦◌⟧ R a ρ ≡ ⟦◌⟧ R b ρ

-- ---- symmetric matrices: A · adj A = det A · 1

abbrev pub AdjugateLaw₂ : {C : Type 0} → Ring C → (Symmetric₂ C → Symmetric₂ C) → (Symmetric₂ C → C) → Type 0
AdjugateLaw₂ {C} R adj det = (m : Symmetric₂ C) (i j : Axis₂) → product₂ (in_ring R) m (adj m) i j ≡ scalar₂ (in_ring R) (det m) i j

abbrev pub AdjugateLaw₃ : {C : Type 0} → Ring C → (Symmetric₃ C → Symmetric₃ C) → (Symmetric₃ C → C) → Type 0
AdjugateLaw₃ {C} R adj det = (m : Symmetric₃ C) (i j : Axis₃) → product₃ (in_ring R) m (adj m) i j ≡ scalar₃ (in_ring R) (det m) i j

-- ---- divisors

abbrev pub Coprime : ℕ → ℕ → Type 0
Coprime a b = gcd a b ≡ 1

-- g is a x + b y for some integers x and y
abbrev pub Combination : ℕ → ℕ → ℕ → Type 0
Combination a b g = (x : ℤ) × ((y : ℤ) × (pos a *ℤ x +ℤ pos b *ℤ y ≡ pos g))

-- ---- fractions

abbrev pub Lowest : ℤ → ℕ → Type 0
Lowest n d = Coprime (unsigned_abs n) d

-- n / d and m / e are equal as fractions
abbrev pub SameFraction : ℤ → ℕ → ℤ → ℕ → Type 0
SameFraction n d m e = n *ℤ pos e ≡ m *ℤ pos d

-- a fraction has at most one such form
abbrev pub OneForm : (ℤ → ℕ → Type 0) → Type 0
OneForm Form = (n m : ℤ) (d e : ℕ) → 0 < d → 0 < e → Form n d → Form m e → SameFraction n d m e → (n ≡ m) × (d ≡ e)

-- a function of numerator and denominator keeps the fraction
abbrev pub KeepsFraction : ((n : ℤ) (d : ℕ) → 0 < d → ℚ) → Type 0
KeepsFraction f = (n : ℤ) (d : ℕ) (h : 0 < d) → SameFraction n d (f n d h).num (f n d h).den

-- it depends on the fraction alone
abbrev pub DependsOnFraction : ((n : ℤ) (d : ℕ) → 0 < d → ℚ) → Type 0
DependsOnFraction f = (n m : ℤ) (d e : ℕ) (h : 0 < d) (k : 0 < e) → SameFraction n d m e → f n d h ≡ f m e k

-- it tells fractions apart
abbrev pub TellsApart : ((n : ℤ) (d : ℕ) → 0 < d → ℚ) → Type 0
TellsApart f = (n m : ℤ) (d e : ℕ) (h : 0 < d) (k : 0 < e) → f n d h ≡ f m e k → SameFraction n d m e
