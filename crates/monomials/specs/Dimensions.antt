-- The plane and space, and how many monomials of degree at most 12 each has.
use Rattle.std.specs.Prelude.{◌≡◌, ℕ, cond, Some, None, Option, Result, MatchResult, ◌==◌}
use Rattle.monomials.specs.declared.dimension.Dimension.{Dimension}
use Rattle.monomials.specs.declared.dimension.Dimension.TheVariants.{Plane, Space}
use Rattle.monomials.specs.declared.dimension.UnknownDimension.{UnknownDimension}

abbrev pub number_of : Dimension → ℕ
number_of Plane = 2
number_of Space = 3

abbrev pub dimension_of : ℕ → Option Dimension
dimension_of d = cond (d == 2) (Some Plane) (cond (d == 3) (Some Space) None)

-- the result is the dimension of this number, or says that there is none
abbrev pub Named : ℕ → Result Dimension UnknownDimension → Type 0
Named d r = MatchResult r (λ k. dimension_of d ≡ Some k) (λ e. (dimension_of d ≡ None) × (e.0 ≡ d))

abbrev pub size_of : Dimension → ℕ
size_of Plane = 91
size_of Space = 455
