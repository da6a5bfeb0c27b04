use Rattle.std.proofs.Common.{pos, sym, ap, ◌∙◌, subst, arith}
use Rattle.std.proofs.lemmas.Int.{ints}
use Rattle.algebra.specs.Rationals.{ratio}
use Rattle.kinds.specs.Fractions.{value}
use Rattle.kinds.specs.Sound.{Sound}
use Rattle.kinds.proofs.Held.{parts}
use Rattle.kinds.proofs.Bounds.{whole_sound, back}
use Rattle.kinds.proofs.fraction.convert.FractionFromU8.from.Goals as goal

pub invariant_of-result : goal.invariant_of-result
invariant_of-result c =
    parts _ _ (subst (λ t. Sound t (pos 1)) (sym (back c.from.result (omega (arith, ints)) ∙ c.from.ensures)) (whole_sound c.args.n (omega arith)))

pub returns : goal.returns
unfolding value
returns c = ap (λ t. ratio t (pos 1)) (omega (arith, ints))
