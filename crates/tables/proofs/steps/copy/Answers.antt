use Rattle.std.proofs.Common.{rules}
use Rattle.std.proofs.lemmas.Slice.{drop-append-drop}
use Rattle.tables.proofs.steps.copy.Goals as goal

pub returns-clause-past : goal.returns-clause-past
returns-clause-past g c = search (rules, drop-append-drop)
