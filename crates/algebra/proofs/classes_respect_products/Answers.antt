use Rattle.algebra.specs.Residues.{class_mul}
use Rattle.algebra.proofs.classes_respect_products.Goals as goal

pub returns : goal.returns
returns c = class_mul
