use Rattle.std.proofs.Common.{◌≡◌, ◌/◌, ◌<◌, pos, nat_abs, Err, sym, refl, ap, ◌∙◌, subst, ap₂, arith, w64, to_z, of_z}
use Rattle.std.proofs.lemmas.Int.{ints, to_z-of_z, to_z_pos}
use Rattle.algebra.specs.Gcd.{gcd_one}
use Rattle.algebra.specs.Rationals.{opposite, signed}
use Rattle.kinds.specs.Fractions.{New}
use Rattle.kinds.proofs.Held.{parts}
use Rattle.kinds.proofs.Newed.{divisor_pos, too_large_told, sound_made, made_told}
use Rattle.kinds.proofs.fraction.Fraction.new.Goals as goal
use Rattle.kinds.proofs.fraction.Fraction.new.Goals.{After-common_divisor-g, After-with_sign}

abs-n : (c : goal.After-common_divisor-g) → c.unsigned_abs-n.result ≡ nat_abs c.args.num
abs-n c = c.unsigned_abs-n.ensures.value ∙ ap nat_abs (to_z-of_z w64 c.args.num c.ranges.num)

abs-d : (c : goal.After-common_divisor-g) → c.unsigned_abs-d.result ≡ nat_abs c.args.den
abs-d c = c.unsigned_abs-d.ensures.value ∙ ap nat_abs (to_z-of_z w64 c.args.den c.ranges.den)

some : (c : goal.After-common_divisor-g) → 0 < c.unsigned_abs-d.result
some c = omega (arith, ints)

pub bounded-requires : goal.bounded-requires
bounded-requires c = (record { lt = tt }, (omega arith, gcd_one _))

pub nonzero_div-top : goal.nonzero_div-top
nonzero_div-top c = divisor_pos c.args.num c.args.den _ _ _ (abs-n c) (abs-d c) c.common_divisor-g.ensures (some c)

pub nonzero_div-bottom : goal.nonzero_div-bottom
nonzero_div-bottom c = nonzero_div-top c

pub returns-then-top-gt-LIMIT : goal.returns-then-top-gt-LIMIT
returns-then-top-gt-LIMIT c =
    let k = (goal.at.returns-then-top-gt-LIMIT c).After-common_divisor-g in
    let t = too_large_told c.args.num c.args.den _ _ _ (abs-n k) (abs-d k) c.common_divisor-g.ensures (some k) c.then-top-gt-LIMIT.either in
    subst (λ e. New c.args.num c.args.den (Err e)) (sym c.no-then-top-gt-LIMIT.ensures) t

top-is : (c : goal.After-with_sign) → to_z w64 (of_z w64 c.with_sign.result) ≡ signed (opposite c.args.num c.args.den) (c.unsigned_abs-n.result / c.common_divisor-g.result)
top-is c =
    to_z-of_z w64 c.with_sign.result (record { sfits = c.with_sign.type_inv }) ∙ c.with_sign.ensures
    ∙ ap (λ t. signed t (c.unsigned_abs-n.result / c.common_divisor-g.result))
    (ap₂ opposite (to_z-of_z w64 c.args.num c.ranges.num) (to_z-of_z w64 c.args.den c.ranges.den))

bottom-is : (c : goal.After-with_sign) → to_z w64 (c.unsigned_abs-d.result / c.common_divisor-g.result) ≡ pos (c.unsigned_abs-d.result / c.common_divisor-g.result)
bottom-is c = to_z_pos w64 _ (omega arith)

pub invariant_of-result : goal.invariant_of-result
invariant_of-result c =
    let k = (goal.at.invariant_of-result c).After-common_divisor-g in
    let s =
    sound_made c.args.num c.args.den _ _ _ (abs-n k) (abs-d k) c.common_divisor-g.ensures (some k)
    c.if-top-gt-LIMIT.false c.if-bottom-gt-LIMIT.false _ _ (top-is c) (bottom-is c) in
    parts _ _ s

pub returns : goal.returns
returns c =
    let k = (goal.at.returns c).After-common_divisor-g in
    let l = (goal.at.returns c).After-with_sign in
    made_told c.args.num c.args.den _ _ _ (abs-n k) (abs-d k) c.common_divisor-g.ensures (some k)
    c.if-top-gt-LIMIT.false c.if-bottom-gt-LIMIT.false _ _ (top-is l) (bottom-is l) _ refl refl
