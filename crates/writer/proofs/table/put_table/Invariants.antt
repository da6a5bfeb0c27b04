use Rattle.std.proofs.Common.{length}
use Rattle.writer.proofs.Terms.{Begun}
use Rattle.writer.proofs.table.put_table.Given as goal

abbrev pub invariant-loop-m : goal.invariant-loop-m
invariant-loop-m l = Begun l.fn.dimension l.table l.initial.writer l.writer l.m-iterator.a l.m-iterator.b.rest.now (length l.yielded)
