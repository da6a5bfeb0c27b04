use Rattle.algebra.specs.RingLaws.{inv_is}
use Rattle.algebra.proofs.inverses_are_found.Goals as goal

pub returns : goal.returns
returns g c = inv_is
