use Rattle.monomials.specs.Dimensions.{size_of}
use Rattle.tables.specs.Steps.{Past}
use Rattle.laplace.proofs.quadratic.quadratic.Given as goal

abbrev pub invariant-loop-row : goal.invariant-loop-row
invariant-loop-row g l = Past (size_of l.tables.dimension) l.initial.to l.to
