use Rattle.std.proofs.Common.{◌+◌}
use Rattle.files.specs.Names.{Begun}
use Rattle.files.proofs.reader.Reader.name.Given as goal

abbrev pub invariant-loop-i : goal.invariant-loop-i
invariant-loop-i l = Begun l.text l.from l.want (l.from + l.i) l.i
