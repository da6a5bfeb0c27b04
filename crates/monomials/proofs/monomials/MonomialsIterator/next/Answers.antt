use Rattle.std.proofs.Common.{◌<◌, rules, sym, ◌∙◌, arith}
use Rattle.monomials.specs.Dimensions.{size_of}
use Rattle.monomials.proofs.Listed.{from_end, from_here}
use Rattle.monomials.proofs.Walks.{at_next}
use Rattle.monomials.proofs.monomials.MonomialsIterator.next.Goals as goal

pub returns-then-self-size-clause-steps : goal.returns-then-self-size-clause-steps
returns-then-self-size-clause-steps c =
    let e = sym c.self.view_is ∙ from_end c.self.inside.dimension c.self.inside.place (omega arith) in (e, e)

pub invariant_of-self : goal.invariant_of-self
invariant_of-self c =
    let lt : c.self.inside.place < size_of c.self.inside.dimension = omega (arith, c.self.invariant.0) in (
      omega arith,
      at_next c.self.inside.dimension c.self.inside.place c.self.inside.here _ c.self.invariant.1 lt c.next-self-inside.ensures,
    )

pub returns-clause-steps : goal.returns-clause-steps
returns-clause-steps c =
    let lt : c.self.inside.place < size_of c.self.inside.dimension = omega (arith, c.self.invariant.0) in
    let e = from_here c.self.inside.dimension c.self.inside.place c.self.inside.here lt c.self.invariant.1 in search rules

pub returns-clause-goes : goal.returns-clause-goes
returns-clause-goes c =
    let lt : c.self.inside.place < size_of c.self.inside.dimension = omega (arith, c.self.invariant.0) in
    let e = sym c.self.view_is ∙ from_here c.self.inside.dimension c.self.inside.place c.self.inside.here lt c.self.invariant.1 in
    search rules
