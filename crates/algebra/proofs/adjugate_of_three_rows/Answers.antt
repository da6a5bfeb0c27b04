use Rattle.algebra.specs.Adjugate.{adjugate₃}
use Rattle.algebra.proofs.adjugate_of_three_rows.Goals as goal

pub returns : goal.returns
returns g c = adjugate₃
