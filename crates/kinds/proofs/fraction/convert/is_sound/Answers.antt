use Rattle.std.proofs.Common.{eqb, nat_abs, sym, ap, ◌∙◌, ap₂, arith, w64}
use Rattle.std.proofs.lemmas.Int.{ints, to_z-of_z}
use Rattle.std.proofs.lemmas.Bool.{eq-eqb}
use Rattle.std.proofs.lemmas.Bool.Decides.{nat_tests}
use Rattle.algebra.specs.Gcd.{gcd}
use Rattle.kinds.specs.Bounded.{sound}
use Rattle.kinds.proofs.Held.{over_one, only_gcd}
use Rattle.kinds.proofs.fraction.convert.is_sound.Goals as goal

pub returns-then-den-lt1 : goal.returns-then-den-lt1
unfolding sound
returns-then-den-lt1 c = grind (arith, ints, nat_tests)

pub returns-else-n-le-LIMIT : goal.returns-else-n-le-LIMIT
unfolding sound
returns-else-n-le-LIMIT c = grind (arith, ints, nat_tests)

pub returns-then-d-eq1 : goal.returns-then-d-eq1
returns-then-d-eq1 c =
    eq-eqb _ 1 c.if-d-eq1.true
    ∙ over_one c.args.num c.args.den (sym (omega (arith, ints))) (omega (arith, ints)) (omega (arith, ints))

pub returns-else-d-eq1 : goal.returns-else-d-eq1
returns-else-d-eq1 c =
    let en = c.unsigned_abs-n.ensures.value ∙ ap nat_abs (to_z-of_z w64 c.args.num c.ranges.num) in
    let ed = c.unsigned_abs-d.ensures.value ∙ ap nat_abs (to_z-of_z w64 c.args.den c.ranges.den) in
    ap (λ t. eqb t 1) (c.common_divisor.ensures ∙ ap₂ gcd en ed)
    ∙ only_gcd c.args.num c.args.den (sym (omega (arith, ints))) (omega (arith, ints)) (omega (arith, ints))
