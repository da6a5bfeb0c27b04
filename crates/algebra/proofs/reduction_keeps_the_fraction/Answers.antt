use Rattle.algebra.proofs.Stands.{keeps_stands}
use Rattle.algebra.proofs.reduction_keeps_the_fraction.Goals as goal

pub returns : goal.returns
returns c = keeps_stands
