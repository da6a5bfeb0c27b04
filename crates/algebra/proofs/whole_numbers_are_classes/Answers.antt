use Rattle.algebra.specs.Residues.{nat_class}
use Rattle.algebra.proofs.whole_numbers_are_classes.Goals as goal

pub returns : goal.returns
returns c = nat_class
