-- Places lie in their tables, and two monomials never share one.
use Rattle.std.proofs.Common.{◌≡◌, ℕ, suc, ◌+◌, ◌-◌, ◌*◌, ◌/◌, ◌<◌, ◌≤◌, Bool, true, false, eqb, leb, Some, None, Option, IfSome, sym, refl, ap, ◌∙◌, subst, arith}
use Rattle.std.proofs.lemmas.Bool.{leb-true, eqb-true, and_parts, cond-true, cond-false}
use Rattle.monomials.specs.declared.dimension.Dimension.{Dimension}
use Rattle.monomials.specs.Dimensions.{size_of}
use Rattle.monomials.specs.declared.dimension.Dimension.TheVariants.{Plane, Space}
use Rattle.monomials.specs.declared.monomial.Monomial.{Monomial}
use Rattle.monomials.specs.Places.{monomial, exponents, fits, place_of, placed, Alone, Rising}
use Rattle.monomials.proofs.Numbers.{tri, tet, tri_gap, tet_gap, tri_is, tet_is, tri_13, tet_13, tri_apart, tet_apart}

same : {a b c x y z : ℕ} → a ≡ x → b ≡ y → c ≡ z → monomial a b c ≡ monomial x y z
same p q r = rw (p, q, r)

-- the places, by triangular and tetrahedral numbers
pub plane_is : (m : Monomial) → exponents m ≤ 12 → place_of Plane m ≡ tri (exponents m) + m.b
plane_is m h = ap (λ t. t + m.b) (tri_is (exponents m) h)

pub space_is : (m : Monomial) → exponents m ≤ 12 → place_of Space m ≡ tet (exponents m) + (tri (m.b + m.c) + m.c)
space_is m h =
    let e : exponents m - m.a ≡ m.b + m.c = omega arith in
    let f : exponents m - m.a - m.b ≡ m.c = omega arith in
    let u = tet_is (exponents m) h in
    let v : (exponents m - m.a) * (exponents m - m.a + 1) / 2 ≡ tri (m.b + m.c) = ap (λ t. t * (t + 1) / 2) e ∙ tri_is (m.b + m.c) (omega arith) in
    omega arith

inner : (m : Monomial) → tri (m.b + m.c) + m.c < tri (suc (exponents m))
inner m = omega (arith, tri_gap (m.b + m.c) (suc (exponents m)) (omega arith))

pub below : (d : Dimension) (m : Monomial) → fits d m ≡ true → place_of d m < size_of d
below Plane m f =
    let h : exponents m ≤ 12 = leb-true _ _ (and_parts (leb (exponents m) 12) (eqb m.c 0) f).0 in
    omega (arith, plane_is m h, tri_gap (exponents m) 13 (omega arith), tri_13)
below Space m f =
    let h : exponents m ≤ 12 = leb-true _ _ f in
    omega (arith, space_is m h, inner m, tet_gap (exponents m) 13 (omega arith), tet_13)

pub rising : (d : Dimension) → Rising d
rising Plane m n f g l =
    let h : exponents m ≤ 12 = leb-true _ _ (and_parts (leb (exponents m) 12) (eqb m.c 0) f).0 in
    let k : exponents n ≤ 12 = leb-true _ _ (and_parts (leb (exponents n) 12) (eqb n.c 0) g).0 in
    omega (arith, plane_is m h, plane_is n k, tri_gap (exponents m) (exponents n) l)
rising Space m n f g l =
    let h : exponents m ≤ 12 = leb-true _ _ f in
    let k : exponents n ≤ 12 = leb-true _ _ g in
    omega (arith, space_is m h, space_is n k, inner m, tet_gap (exponents m) (exponents n) l)

pub apart : (d : Dimension) (m n : Monomial) → fits d m ≡ true → fits d n ≡ true → place_of d m ≡ place_of d n → m ≡ n
apart Plane m n f g e =
    let i = and_parts (leb (exponents m) 12) (eqb m.c 0) f in
    let j = and_parts (leb (exponents n) 12) (eqb n.c 0) g in
    let h : exponents m ≤ 12 = leb-true _ _ i.0 in
    let k : exponents n ≤ 12 = leb-true _ _ j.0 in
    let p : m.c ≡ 0 = eqb-true _ _ i.1 in
    let q : n.c ≡ 0 = eqb-true _ _ j.1 in
    let s : exponents m ≡ exponents n = tri_apart (exponents m) (exponents n) m.b n.b (omega arith) (omega arith) (omega (arith, plane_is m h, plane_is n k)) in
    let t : tri (exponents m) ≡ tri (exponents n) = ap tri s in
    let b : m.b ≡ n.b = omega (arith, plane_is m h, plane_is n k) in
    same {a = m.a} {b = m.b} {c = m.c} {x = n.a} {y = n.b} {z = n.c} (omega arith) b (p ∙ sym q)
apart Space m n f g e =
    let h : exponents m ≤ 12 = leb-true _ _ f in
    let k : exponents n ≤ 12 = leb-true _ _ g in
    let s = tet_apart (exponents m) (exponents n) (tri (m.b + m.c) + m.c) (tri (n.b + n.c) + n.c) (inner m) (inner n) (omega (arith, space_is m h, space_is n k)) in
    let t : tet (exponents m) ≡ tet (exponents n) = ap tet s in
    let r : tri (m.b + m.c) + m.c ≡ tri (n.b + n.c) + n.c = omega (arith, space_is m h, space_is n k) in
    let u = tri_apart (m.b + m.c) (n.b + n.c) m.c n.c (omega arith) (omega arith) r in
    let v : tri (m.b + m.c) ≡ tri (n.b + n.c) = ap tri u in
    same {a = m.a} {b = m.b} {c = m.c} {x = n.a} {y = n.b} {z = n.c} (omega arith) (omega arith) (omega arith)

-- a place that is told is that of a monomial which fits
pub placed_fits : (d : Dimension) (n : Monomial) (p : ℕ) → placed d n ≡ Some p → (fits d n ≡ true) × (place_of d n ≡ p)
placed_fits d n p e = go (fits d n) refl
  where
    go : (t : Bool) → fits d n ≡ t → (fits d n ≡ true) × (place_of d n ≡ p)
    go true f = (f, let h : Some (place_of d n) ≡ Some p = sym (cond-true _ _ _ f) ∙ e in cc)
    go false f = let h : None ≡ Some p = sym (cond-false (fits d n) (Some (place_of d n)) None f) ∙ e in cc

pub alone : (d : Dimension) (m : Monomial) (p : ℕ) → fits d m ≡ true → p ≡ place_of d m → Alone d m p
alone d m p f e n q = let h = placed_fits d n p q in apart d n m h.0 f (h.1 ∙ e)

-- the same of an answer: where it tells a place, that lies in the table, and no other monomial has it
pub placed_below : (d : Dimension) (m : Monomial) (r : Option ℕ) → r ≡ placed d m → IfSome r (λ p. p < size_of d)
placed_below d m None e = tt
placed_below d m (Some p) e = let h = placed_fits d m p (sym e) in subst (λ q. q < size_of d) h.1 (below d m h.0)

pub placed_alone : (d : Dimension) (m : Monomial) (r : Option ℕ) → r ≡ placed d m → IfSome r (λ p. Alone d m p)
placed_alone d m None e = tt
placed_alone d m (Some p) e = let h = placed_fits d m p (sym e) in alone d m p h.0 (sym h.1)
