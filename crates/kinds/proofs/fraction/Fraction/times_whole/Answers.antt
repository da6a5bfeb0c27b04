use Rattle.std.proofs.Common.{arith}
use Rattle.std.proofs.lemmas.Int.{ints}
use Rattle.kinds.proofs.Wholes.{times_zero, times_one}
use Rattle.kinds.proofs.fraction.Fraction.times_whole.Goals as goal

pub returns-in-0 : goal.returns-in-0
returns-in-0 c = times_zero c.args.self c.args.whole c.requires (omega (arith, ints))

pub returns-in-1 : goal.returns-in-1
returns-in-1 c = times_one c.args.self c.args.whole c.requires (omega (arith, ints))
