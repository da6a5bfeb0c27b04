-- A walk through the monomials by rising place.
use Rattle.std.proofs.Common.{◌≡◌, ℕ, zero, suc, ◌+◌, ◌<◌, ◌≤◌, true, Some, sym, refl, ap, ◌∙◌, subst, ⊎_elim, add-one, arith}
use Rattle.std.proofs.lemmas.Bool.{le-leb, eq-eqb, and_from, cases_order, cond-true}
use Rattle.monomials.specs.declared.dimension.Dimension.{Dimension}
use Rattle.monomials.specs.declared.dimension.Dimension.TheVariants.{Plane, Space}
use Rattle.monomials.specs.declared.monomial.Monomial.{Monomial}
use Rattle.monomials.specs.Dimensions.{size_of}
use Rattle.monomials.specs.Places.{monomial, exponents, fits, place_of, next_of, monomial_at, Inverse}
use Rattle.monomials.proofs.Placing.{plane_is, space_is, below, apart, placed_fits}
use Rattle.monomials.proofs.Numbers.{tri, tet, tri_gap, tet_gap, tri_13, tet_13, tri_suc, tet_suc, tri_zero}

-- the place, without a bound on the degree
abbrev pub spot : Dimension → Monomial → ℕ
spot Plane m = tri (exponents m) + m.b
spot Space m = tet (exponents m) + (tri (m.b + m.c) + m.c)

abbrev pub flat : Dimension → Monomial → Type 0
flat Plane m = m.c ≡ 0
flat Space m = Unit {0}

-- m stands at place p
pub record Walk (d : Dimension) (p : ℕ) (m : Monomial) : Type 0 where
  pub at : spot d m ≡ p
  pub level : flat d m

tri_same : (m n : ℕ) → m ≡ n → tri m ≡ tri n
tri_same m n e = ap tri e

tet_same : (m n : ℕ) → m ≡ n → tet m ≡ tet n
tet_same m n e = ap tet e

pub walk_start : (d : Dimension) → Walk d 0 (monomial 0 0 0)
unfolding tri tet
walk_start Plane = record { at = refl; level = refl }
walk_start Space = record { at = refl; level = tt }

plane_on : (a b : ℕ) → spot Plane (next_of Plane (monomial a b 0)) ≡ suc (spot Plane (monomial a b 0))
plane_on (suc a) b = omega (arith, tri_same (a + (b + 1) + 0) (suc a + b + 0) (omega arith))
plane_on zero b = omega (arith, tri_same (b + 1 + 0 + 0) (suc b) (omega arith), tri_same (0 + b + 0) b (omega arith), tri_suc b)

space_on : (b a c : ℕ) → spot Space (next_of Space (monomial a b c)) ≡ suc (spot Space (monomial a b c))
space_on (suc b) a c =
    omega (arith, tet_same (a + b + (c + 1)) (a + suc b + c) (omega arith), tri_same (b + (c + 1)) (suc b + c) (omega arith))
space_on zero (suc a) c =
    omega (arith, tet_same (a + (c + 1) + 0) (suc a + 0 + c) (omega arith), tri_same (c + 1 + 0) (suc c) (omega arith), tri_same (0 + c) c (omega arith), tri_suc c)
space_on zero zero c =
    omega (arith, tet_same (c + 1 + 0 + 0) (suc c) (omega arith), tet_same (0 + 0 + c) c (omega arith), tri_same (0 + c) c (omega arith), tri_suc c, tet_suc c, tri_zero)

plane_flat : (a b : ℕ) → (next_of Plane (monomial a b 0)).c ≡ 0
plane_flat (suc a) b = refl
plane_flat zero b = refl

next_walk : (d : Dimension) (p : ℕ) (m : Monomial) → Walk d p m → Walk d (p + 1) (next_of d m)
next_walk Plane p m w =
    let e = ap (λ c. tri (m.a + m.b + c) + m.b) w.level in
    record { at = omega (arith, plane_on m.a m.b, w.at, e); level = plane_flat m.a m.b }
next_walk Space p m w = record { at = omega (arith, space_on m.b m.a m.c, w.at); level = tt }

-- below the next triangular or tetrahedral number the degree is at most 12
plane_low : (m : Monomial) → spot Plane m < 91 → exponents m ≤ 12
plane_low m h =
    ⊎_elim
    (λ (e : exponents m ≡ 13). absurd (omega (arith, tri_same (exponents m) 13 e, tri_13)))
    (λ g. ⊎_elim (λ (l : exponents m < 13). omega arith) (λ (l : 13 < exponents m). absurd (omega (arith, tri_gap 13 (exponents m) l, tri_13))) g)
    (cases_order (exponents m) 13)

space_low : (m : Monomial) → spot Space m < 455 → exponents m ≤ 12
space_low m h =
    ⊎_elim
    (λ (e : exponents m ≡ 13). absurd (omega (arith, tet_same (exponents m) 13 e, tet_13)))
    (λ g. ⊎_elim (λ (l : exponents m < 13). omega arith) (λ (l : 13 < exponents m). absurd (omega (arith, tet_gap 13 (exponents m) l, tet_13))) g)
    (cases_order (exponents m) 13)

pub walk_low : (d : Dimension) (p : ℕ) (m : Monomial) → Walk d p m → p < size_of d → exponents m ≤ 12
walk_low Plane p m w h = plane_low m (subst (λ q. q < 91) (sym w.at) h)
walk_low Space p m w h = space_low m (subst (λ q. q < 455) (sym w.at) h)

pub walk_fits : (d : Dimension) (p : ℕ) (m : Monomial) → Walk d p m → p < size_of d → fits d m ≡ true
walk_fits Plane p m w h = and_from _ _ (le-leb (exponents m) 12 (walk_low Plane p m w h)) (eq-eqb m.c 0 w.level)
walk_fits Space p m w h = le-leb (exponents m) 12 (walk_low Space p m w h)

-- the walk comes by every place of a table, and by every monomial of it
walk : (d : Dimension) (p : ℕ) → Walk d p (monomial_at d p)
unfolding monomial_at
walk d zero = walk_start d
walk d (suc p) = subst (λ q. Walk d q (next_of d (monomial_at d p))) (add-one p) (next_walk d p (monomial_at d p) (walk d p))

pub at_fits : (d : Dimension) (p : ℕ) → p < size_of d → fits d (monomial_at d p) ≡ true
at_fits d p h = walk_fits d p (monomial_at d p) (walk d p) h

pub at_low : (d : Dimension) (p : ℕ) → p < size_of d → exponents (monomial_at d p) ≤ 12
at_low d p h = walk_low d p (monomial_at d p) (walk d p) h

pub at_place : (d : Dimension) (p : ℕ) → p < size_of d → place_of d (monomial_at d p) ≡ p
at_place Plane p h = plane_is (monomial_at Plane p) (at_low Plane p h) ∙ (walk Plane p).at
at_place Space p h = space_is (monomial_at Space p) (at_low Space p h) ∙ (walk Space p).at

pub at_of : (d : Dimension) (m : Monomial) → fits d m ≡ true → monomial_at d (place_of d m) ≡ m
at_of d m f =
    let h = below d m f in
    apart d (monomial_at d (place_of d m)) m (at_fits d (place_of d m) h) f (at_place d (place_of d m) h)

pub inverse : (d : Dimension) → Inverse d
inverse d = (
  (λ p h. cond-true (fits d (monomial_at d p)) _ _ (at_fits d p h) ∙ ap Some (at_place d p h)),
  (λ m p e.
      let f = placed_fits d m p e in
      (subst (λ q. q < size_of d) f.1 (below d m f.0), ap (monomial_at d) (sym f.1) ∙ at_of d m f.0)),
)

-- one step, as the code takes it
pub at_next : (d : Dimension) (p : ℕ) (m n : Monomial) → m ≡ monomial_at d p → p < size_of d → (fits d m ≡ true → n ≡ next_of d m) → n ≡ monomial_at d (p + 1)
unfolding monomial_at
at_next d p m n e h s = s (rw e (at_fits d p h)) ∙ ap (next_of d) e ∙ ap (monomial_at d) (sym (add-one p))

pub at_start : (d : Dimension) → monomial 0 0 0 ≡ monomial_at d 0
unfolding monomial_at
at_start d = refl
