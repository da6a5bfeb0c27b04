use Rattle.std.proofs.Common.{◌+◌}
use Rattle.files.specs.Words.{Reading}
use Rattle.files.proofs.scan.longest.Given as goal

abbrev pub invariant-loop-i : goal.invariant-loop-i
invariant-loop-i l = Reading l.text l.from l.sign (l.from + l.i) l.part
