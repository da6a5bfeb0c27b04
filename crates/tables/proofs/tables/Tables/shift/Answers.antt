use Rattle.std.proofs.Common.{rules}
use Rattle.std.proofs.lemmas.Slice.{drop-append-drop}
use Rattle.tables.proofs.tables.Tables.shift.Goals as goal

pub returns : goal.returns
returns g c = record { past = search (rules, drop-append-drop) }
