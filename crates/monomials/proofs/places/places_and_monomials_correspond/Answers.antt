use Rattle.monomials.proofs.Walks.{inverse}
use Rattle.monomials.proofs.places.places_and_monomials_correspond.Goals as goal

pub returns : goal.returns
returns c = inverse
