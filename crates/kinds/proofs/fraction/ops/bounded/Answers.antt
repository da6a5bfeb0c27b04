use Rattle.std.proofs.Common.{ap₂, arith, w64}
use Rattle.std.proofs.lemmas.Int.{ints, to_z-of_z}
use Rattle.algebra.specs.Rationals.{ratio}
use Rattle.kinds.specs.Fractions.{value}
use Rattle.kinds.specs.Sound.{sound_inside}
use Rattle.kinds.proofs.Held.{held, num_outside}
use Rattle.kinds.proofs.fraction.ops.bounded.Goals as goal

pub returns-then-unsigned_abs-gt-LIMIT : goal.returns-then-unsigned_abs-gt-LIMIT
returns-then-unsigned_abs-gt-LIMIT c =
    (num_outside c.args.num c.args.den c.requires.0 c.requires.1.1 (omega (arith, ints)), c.no.ensures)

pub returns : goal.returns
unfolding value
returns c = (
  sound_inside _ _ (held c.args.num c.args.den c.requires.0 c.requires.1.0 (omega (arith, ints)) c.requires.1.1),
  ap₂ ratio (to_z-of_z w64 c.args.num c.ranges.num) (to_z-of_z w64 c.args.den c.ranges.den),
)
