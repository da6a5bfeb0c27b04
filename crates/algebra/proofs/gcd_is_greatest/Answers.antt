use Rattle.algebra.specs.Gcd.{gcd_is}
use Rattle.algebra.proofs.gcd_is_greatest.Goals as goal

pub returns : goal.returns
returns c = gcd_is
