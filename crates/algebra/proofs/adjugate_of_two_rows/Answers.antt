use Rattle.algebra.specs.Adjugate.{adjugate₂}
use Rattle.algebra.proofs.adjugate_of_two_rows.Goals as goal

pub returns : goal.returns
returns g c = adjugate₂
