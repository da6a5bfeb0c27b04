-- Zero coefficients, and the degree of a table.
use Rattle.std.specs.Prelude.{ℕ, zero, suc, Bool, true, not, ◌&&◌, List, map, filter, zip, None, Option, slice_index_or}
use Rattle.std.specs.List.{last_or}
use Rattle.kinds.specs.Arith.{Arith, zero_test, whole_of}
use Rattle.monomials.specs.declared.dimension.Dimension.{Dimension}
use Rattle.monomials.specs.Places.{exponents, monomials_from}

module _ {V : Type 0} (A : Arith V) where
  -- the coefficient at a place; past the end it is zero
  abbrev pub item : List V → ℕ → V
  item xs p = slice_index_or xs p (whole_of A 0)

  -- the first n coefficients are zero
  unfoldable pub all_zero : List V → ℕ → Bool
  all_zero xs zero = true
  all_zero xs (suc n) = all_zero xs n && zero_test A (item xs n)

  -- the degree of the last monomial, by rising place, whose coefficient is not zero
  abbrev pub last_degree : Dimension → List V → Option ℕ
  last_degree d xs = last_or None (map (λ p. exponents p.0) (filter (λ p. not (zero_test A p.1)) (zip (monomials_from d 0) xs)))
