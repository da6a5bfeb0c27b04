use Rattle.algebra.proofs.Stands.{depends_stands}
use Rattle.algebra.proofs.reduction_depends_on_the_fraction.Goals as goal

pub returns : goal.returns
returns c = depends_stands
