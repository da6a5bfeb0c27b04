use Rattle.std.proofs.Common.{rules}
use Rattle.monomials.proofs.Placing.{placed_below, placed_alone}
use Rattle.monomials.proofs.monomial.Monomial.place.Goals as goal

pub returns-clause-below : goal.returns-clause-below
returns-clause-below c = placed_below c.args.dimension c.args.self c.then.result (search rules)

pub returns-clause-own : goal.returns-clause-own
returns-clause-own c = placed_alone c.args.dimension c.args.self c.then.result (search rules)
