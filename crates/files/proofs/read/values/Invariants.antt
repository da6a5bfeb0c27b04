use Rattle.files.proofs.Rows.{Through}
use Rattle.files.proofs.read.values.Given as goal

abbrev pub invariant-loop-count : goal.invariant-loop-count
invariant-loop-count l = Through l.initial.reader l.initial.rows l.reader l.rows l.count
