use Rattle.algebra.proofs.Stands.{combination_stands}
use Rattle.algebra.proofs.gcd_is_a_combination.Goals as goal

pub returns : goal.returns
returns c = combination_stands
