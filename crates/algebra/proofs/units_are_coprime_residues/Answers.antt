use Rattle.algebra.specs.Residues.{unit_iff_coprime}
use Rattle.algebra.proofs.units_are_coprime_residues.Goals as goal

pub returns : goal.returns
returns c = unit_iff_coprime
