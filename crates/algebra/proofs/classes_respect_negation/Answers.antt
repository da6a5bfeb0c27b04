use Rattle.algebra.specs.Residues.{class_neg}
use Rattle.algebra.proofs.classes_respect_negation.Goals as goal

pub returns : goal.returns
returns c = class_neg
