use Rattle.monomials.specs.Dimensions.{size_of}
use Rattle.tables.specs.Steps.{Past}
use Rattle.laplace.proofs.laplacian.join_terms.Given as goal

abbrev pub invariant-loop-l : goal.invariant-loop-l
invariant-loop-l g l = Past (size_of l.tables.dimension) l.initial.target l.target
