use Rattle.algebra.proofs.Stands.{field_stands}
use Rattle.algebra.proofs.rationals_form_a_field.Goals as goal

pub returns : goal.returns
returns c = field_stands
