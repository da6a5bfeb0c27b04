use Rattle.monomials.specs.Dimensions.{size_of, dimension_of}
use Rattle.tables.specs.Steps.{Past}
use Rattle.layers.specs.Layers.{OfParts}
use Rattle.layers.proofs.remainder.turns.Given as goal

abbrev pub invariant-loop : goal.invariant-loop
invariant-loop g l =
    OfParts (dimension_of (g.B.Shape.given l.layer.base)) (dimension_of (g.R.Shape.given l.layer.rest)) l.tables.dimension →
    Past (size_of l.tables.dimension) l.initial.source l.source × Past (size_of l.tables.dimension) l.initial.target l.target
