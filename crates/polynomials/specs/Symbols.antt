-- Symbols: finite sums of a value times a derivative ∂x^a ∂y^b ∂z^c.
use Rattle.std.specs.Prelude.{◌≡◌, cond, List, [], ◌∷◌, ◌++◌, ℕ, zero, suc, ◌+◌ as ◌+ℕ◌, ◌≤◌, eqb}
use Rattle.algebra.specs.Ring.{Ring}
use Rattle.monomials.specs.declared.dimension.Dimension.{Dimension}
use Rattle.monomials.specs.declared.dimension.Dimension.TheVariants.{Plane, Space}
use Rattle.polynomials.specs.Series.{Series, ∂x, ∂y, ∂z}

pub record Summand (C : Type 0) : Type 0 where
  pub value : C
  pub by_x : ℕ
  pub by_y : ℕ
  pub by_z : ℕ

abbrev pub Symbol : Type 0 → Type 0
Symbol C = List (Summand C)

-- how many derivatives a summand takes
abbrev pub size : {C : Type 0} → Summand C → ℕ
size t = t.by_x +ℕ t.by_y +ℕ t.by_z

-- no summand takes fewer than r derivatives
abbrev pub AtLeast : {C : Type 0} → ℕ → Symbol C → Type 0
AtLeast r [] = Unit {0}
AtLeast r (t ∷ ts) = (r ≤ size t) × AtLeast r ts

-- a symbol of the plane has no derivative by z
abbrev pub SymbolOf : {C : Type 0} → Dimension → Symbol C → Type 0
SymbolOf Plane [] = Unit {0}
SymbolOf Plane (t ∷ ts) = (t.by_z ≡ 0) × SymbolOf Plane ts
SymbolOf Space s = Unit {0}

-- a map, so many times over
abbrev pub times_over : {A : Type 0} → ℕ → (A → A) → A → A
times_over zero f a = a
times_over (suc n) f a = f (times_over n f a)

module _ {C : Type 0} (R : Ring C) where
  open Series R use {M, 0M, add_m as ◌⊕◌, smul as ◌•◌}

  infixl 60 ◌⊕◌
  infixr 70 ◌•◌
  abbrev pub act_one : Summand C → M → M
  act_one t f = t.value • times_over t.by_z (∂z R) (times_over t.by_y (∂y R) (times_over t.by_x (∂x R) f))

  -- the action of a symbol on a polynomial
  abbrev pub action : Symbol C → M → M
  action [] f = 0M
  action (t ∷ ts) f = act_one t f ⊕ action ts f

  -- the sum of the values without a derivative
  abbrev pub constant_term : Symbol C → C
  constant_term [] = R.𝟘
  constant_term (t ∷ ts) = R.add (cond (eqb (size t) 0) t.value R.𝟘) (constant_term ts)

  abbrev pub product_one : Summand C → Summand C → Summand C
  product_one s t = record { value = R.mul s.value t.value; by_x = s.by_x +ℕ t.by_x; by_y = s.by_y +ℕ t.by_y; by_z = s.by_z +ℕ t.by_z }

  abbrev pub product_with : Summand C → Symbol C → Symbol C
  product_with s [] = []
  product_with s (t ∷ ts) = product_one s t ∷ product_with s ts

  abbrev pub product : Symbol C → Symbol C → Symbol C
  product [] ts = []
  product (s ∷ ss) ts = product_with s ts ++ product ss ts
