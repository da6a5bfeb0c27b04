use Rattle.algebra.specs.RingLaws.{inv_unique}
use Rattle.algebra.proofs.inverses_are_unique.Goals as goal

pub returns : goal.returns
returns g c = inv_unique
