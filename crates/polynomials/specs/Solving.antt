-- What a solvable operator means: a symbol, a lift, a solution map and a domain. Maps and domains are told for polynomials of degree
-- below a bound N, and do not depend on which bound is taken.
use Rattle.std.specs.Prelude.{◌≡◌, ℕ, ◌+◌ as ◌+ℕ◌, ◌≤◌}
use Rattle.algebra.specs.Ring.{Ring}
use Rattle.monomials.specs.declared.dimension.Dimension.{Dimension}
use Rattle.polynomials.specs.Series.{Series, Of}
use Rattle.polynomials.specs.Degrees.{Under}
use Rattle.polynomials.specs.Symbols.{Symbol, SymbolOf, action}

pub record Solving {C : Type 0} (R : Ring C) (d : Dimension) : Type 1 where
  pub symbol : Symbol C
  pub lift : ℕ
  pub solution : ℕ → (Series R).M → (Series R).M
  pub domain : ℕ → (Series R).M → Type 0

-- what makes it a solvable operator
pub record Laws {C : Type 0} {R : Ring C} {d : Dimension} (S : Solving R d) : Type 0 where
  pub of_dimension : SymbolOf d S.symbol
  pub respects_sums : (N : ℕ) (f g : (Series R).M) → S.solution N ((Series R).add_m f g) ≡ (Series R).add_m (S.solution N f) (S.solution N g)
  pub respects_multiples : (N : ℕ) (r : C) (f : (Series R).M) → S.solution N ((Series R).smul r f) ≡ (Series R).smul r (S.solution N f)
  pub keeps_dimension : (N : ℕ) (f : (Series R).M) → Of R d f → Of R d (S.solution N f)
  pub lifts : (N : ℕ) (f : (Series R).M) → Under R N f → Under R (N +ℕ S.lift) (S.solution N f)
  pub one_map : (N K : ℕ) (f : (Series R).M) → N ≤ K → Under R N f → S.solution K f ≡ S.solution N f
  pub domain_zero : (N : ℕ) → S.domain N (Series R).0M
  pub domain_sum : (N : ℕ) (f g : (Series R).M) → S.domain N f → S.domain N g → S.domain N ((Series R).add_m f g)
  pub domain_multiple : (N : ℕ) (r : C) (f : (Series R).M) → S.domain N f → S.domain N ((Series R).smul r f)
  pub one_domain : (N K : ℕ) (f : (Series R).M) → N ≤ K → Under R N f → S.domain N f → S.domain K f
  pub one_domain_below : (N K : ℕ) (f : (Series R).M) → N ≤ K → Under R N f → S.domain K f → S.domain N f
  pub gives_back : (N : ℕ) (f : (Series R).M) → Of R d f → Under R N f → S.domain N f → action R S.symbol (S.solution N f) ≡ f
