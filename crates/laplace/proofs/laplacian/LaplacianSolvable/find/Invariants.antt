use Rattle.monomials.specs.Dimensions.{size_of}
use Rattle.tables.specs.Steps.{Past}
use Rattle.laplace.proofs.laplacian.LaplacianSolvable.find.Given as goal

abbrev pub invariant-loop-n : goal.invariant-loop-n
invariant-loop-n g l = Past (size_of l.tables.dimension) l.initial.target l.target
