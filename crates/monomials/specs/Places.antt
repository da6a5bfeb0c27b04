-- The place of a monomial x^a y^b z^c in a table: by rising degree, then by falling exponent of x, then of y.
use Rattle.std.specs.Prelude.{◌≡◌, ℕ, zero, suc, ◌+◌, ◌-◌, ◌*◌, ◌/◌, ◌<◌, min, Bool, true, cond, ◌&&◌, List, map, Some, None, Option, ◌==◌, nat_le, nat_lt}
use Rattle.std.specs.List.{range_with_len}
use Rattle.monomials.specs.declared.dimension.Dimension.{Dimension}
use Rattle.monomials.specs.declared.dimension.Dimension.TheVariants.{Plane, Space}
use Rattle.monomials.specs.Dimensions.{size_of}
use Rattle.monomials.specs.declared.monomial.Axis.{Axis}
use Rattle.monomials.specs.declared.monomial.Axis.TheVariants.{X, Y, Z}
use Rattle.monomials.specs.declared.monomial.Monomial.{Monomial}

abbrev pub monomial : ℕ → ℕ → ℕ → Monomial
monomial a b c = record { a = a; b = b; c = c }

-- the total degree
abbrev pub exponents : Monomial → ℕ
exponents m = m.a + m.b + m.c

abbrev pub exponent_of : Axis → Monomial → ℕ
exponent_of X m = m.a
exponent_of Y m = m.b
exponent_of Z m = m.c

-- a table has the monomials of degree at most 12, in the plane those without z
abbrev pub fits : Dimension → Monomial → Bool
fits Plane m = nat_le (exponents m) 12 && m.c == 0
fits Space m = nat_le (exponents m) 12

-- with n the degree: n(n + 1)/2 + b in the plane, n(n + 1)(n + 2)/6 + (n - a)(n - a + 1)/2 + (n - a - b) in space
abbrev pub place_of : Dimension → Monomial → ℕ
place_of Plane m = exponents m * (exponents m + 1) / 2 + m.b
place_of Space m = exponents m * (exponents m + 1) * (exponents m + 2) / 6 + (exponents m - m.a) * (exponents m - m.a + 1) / 2 + (exponents m - m.a - m.b)

abbrev pub placed : Dimension → Monomial → Option ℕ
placed d m = cond (fits d m) (Some (place_of d m)) None

-- the monomial at the next place: in the plane of exponents a and b, in space of b, a and c
abbrev plane_next : ℕ → ℕ → Monomial
plane_next (suc a) b = monomial a (b + 1) 0
plane_next zero b = monomial (b + 1) 0 0

abbrev space_next : ℕ → ℕ → ℕ → Monomial
space_next (suc b) a c = monomial a b (c + 1)
space_next zero (suc a) c = monomial a (c + 1) 0
space_next zero zero c = monomial (c + 1) 0 0

abbrev pub next_of : Dimension → Monomial → Monomial
next_of Plane m = plane_next m.a m.b
next_of Space m = space_next m.b m.a m.c

-- the monomial at a place
unfoldable pub monomial_at : Dimension → ℕ → Monomial
monomial_at d zero = monomial 0 0 0
monomial_at d (suc p) = next_of d (monomial_at d p)

-- the monomial at a place of a table
abbrev pub found_at : Dimension → ℕ → Option Monomial
found_at d p = cond (nat_lt p (size_of d)) (Some (monomial_at d p)) None

-- the monomials at the places of a table from p on
unfoldable pub monomials_from : Dimension → ℕ → List Monomial
monomials_from d p = map (monomial_at d) (range_with_len p (size_of d - p))

-- places rise with the degree
abbrev pub Rising : Dimension → Type 0
Rising d = (m n : Monomial) → fits d m ≡ true → fits d n ≡ true → exponents m < exponents n → place_of d m < place_of d n

-- each place of a table has its monomial, and each monomial of a table its place
abbrev pub Inverse : Dimension → Type 0
Inverse d = ((p : ℕ) → p < size_of d → placed d (monomial_at d p) ≡ Some p) × ((m : Monomial) (p : ℕ) → placed d m ≡ Some p → (p < size_of d) × (monomial_at d p ≡ m))

-- the same with another exponent of one coordinate
abbrev pub with_exponent : Axis → ℕ → Monomial → Monomial
with_exponent X n m = monomial n m.b m.c
with_exponent Y n m = monomial m.a n m.c
with_exponent Z n m = monomial m.a m.b n

-- times a coordinate, with exponents up to 255
abbrev pub raised_of : Axis → Monomial → Monomial
raised_of X m = monomial (min (m.a + 1) 255) m.b m.c
raised_of Y m = monomial m.a (min (m.b + 1) 255) m.c
raised_of Z m = monomial m.a m.b (min (m.c + 1) 255)

-- divided by a coordinate, where it has it
abbrev pub lowered_of : Axis → Monomial → Option Monomial
lowered_of X m = cond (m.a == 0) None (Some (monomial (m.a - 1) m.b m.c))
lowered_of Y m = cond (m.b == 0) None (Some (monomial m.a (m.b - 1) m.c))
lowered_of Z m = cond (m.c == 0) None (Some (monomial m.a m.b (m.c - 1)))

-- no other monomial has the place
abbrev pub Alone : Dimension → Monomial → ℕ → Type 0
Alone d m p = (n : Monomial) → placed d n ≡ Some p → n ≡ m
