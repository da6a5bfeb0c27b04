use Rattle.algebra.specs.Residues.{class_add}
use Rattle.algebra.proofs.classes_respect_sums.Goals as goal

pub returns : goal.returns
returns c = class_add
