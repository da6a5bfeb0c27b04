use Rattle.std.proofs.Common.{◌∙◌, ap₂, arith}
use Rattle.std.proofs.lemmas.Int.{ints}
use Rattle.algebra.specs.Rationals.{ratio}
use Rattle.kinds.specs.Fractions.{value}
use Rattle.kinds.proofs.Held.{sound_of}
use Rattle.kinds.proofs.Bounds.{minus_ratio}
use Rattle.kinds.proofs.fraction.ops.FractionNeg.neg.Goals as goal

pub returns : goal.returns
unfolding value
returns c = ap₂ ratio (omega (arith, ints)) (omega (arith, ints)) ∙ minus_ratio c.args.self.num c.args.self.den (sound_of c.args.self)
