use Rattle.monomials.proofs.Placing.{rising}
use Rattle.monomials.proofs.places.places_rise_with_the_degree.Goals as goal

pub returns : goal.returns
returns c = rising
