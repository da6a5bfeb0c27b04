use Rattle.algebra.proofs.Stands.{apart_stands}
use Rattle.algebra.proofs.reduction_tells_fractions_apart.Goals as goal

pub returns : goal.returns
returns c = apart_stands
