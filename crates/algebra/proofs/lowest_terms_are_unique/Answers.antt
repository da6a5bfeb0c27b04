use Rattle.algebra.proofs.Stands.{one_form_stands}
use Rattle.algebra.proofs.lowest_terms_are_unique.Goals as goal

pub returns : goal.returns
returns c = one_form_stands
