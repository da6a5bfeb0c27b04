use Rattle.algebra.specs.Gcd.{gauss}
use Rattle.algebra.proofs.coprime_divisor_divides_the_other_factor.Goals as goal

pub returns : goal.returns
returns c = gauss
