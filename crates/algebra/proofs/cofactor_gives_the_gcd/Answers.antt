use Rattle.algebra.specs.Bezout.{cofactor_is}
use Rattle.algebra.proofs.cofactor_gives_the_gcd.Goals as goal

pub returns : goal.returns
returns c = cofactor_is
