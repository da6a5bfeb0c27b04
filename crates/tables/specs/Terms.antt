-- Lists of terms, and the question whether each has a place in a table.
use Rattle.std.specs.Prelude.{ℕ, ◌+◌, cond, List, [], ◌∷◌, Some, None, Option}
use Rattle.kinds.specs.declared.fault.Fault.{Fault}
use Rattle.kinds.specs.declared.fault.Question.TheVariants.{Monomial}
use Rattle.kinds.specs.Faults.{fault}
use Rattle.monomials.specs.declared.dimension.Dimension.{Dimension}
use Rattle.tables.specs.declared.terms.Term.{Term}
use Rattle.monomials.specs.Places.{fits}

-- the first term, counted from i, that no table of the dimension has a place for
unfoldable pub misplaced : {V : Type 0} → Dimension → ℕ → List (Term V) → Option Fault
misplaced d i [] = None
misplaced d i (t ∷ ts) = cond (fits d t.monomial) (misplaced d (i + 1) ts) (Some (fault Monomial 0 i))
