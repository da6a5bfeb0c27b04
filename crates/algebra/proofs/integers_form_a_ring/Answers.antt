use Rattle.algebra.proofs.Stands.{integers_stand}
use Rattle.algebra.proofs.integers_form_a_ring.Goals as goal

pub returns : goal.returns
returns c = integers_stand
