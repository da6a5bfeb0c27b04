use Rattle.algebra.proofs.Stands.{residues_stand}
use Rattle.algebra.proofs.residues_form_a_ring.Goals as goal

pub returns : goal.returns
returns c = residues_stand
