use Rattle.std.proofs.Common.{Err, sym, subst, arith}
use Rattle.std.proofs.lemmas.Int.{ints}
use Rattle.kinds.specs.Fractions.{Inverted, value}
use Rattle.kinds.proofs.Held.{parts}
use Rattle.kinds.proofs.Turned.{turned_sound, turned_sound_neg, turned_told, turned_told_neg, turned_refused}
use Rattle.kinds.proofs.fraction.Fraction.inverse.Goals as goal

pub returns-then-self-eq0 : goal.returns-then-self-eq0
returns-then-self-eq0 c =
    subst (λ e. Inverted (value c.args.self) (Err e)) (sym c.no.ensures) (turned_refused c.args.self (omega (arith, ints)))

pub invariant_of-result : goal.invariant_of-result
invariant_of-result c = parts _ _ (turned_sound_neg c.args.self (omega (arith, ints)))

pub invariant_of-result-else-self-lt0 : goal.invariant_of-result-else-self-lt0
invariant_of-result-else-self-lt0 c = parts _ _ (turned_sound c.args.self (omega (arith, ints)))

pub returns-then-self-lt0 : goal.returns-then-self-lt0
returns-then-self-lt0 c =
    turned_told_neg c.args.self _ (λ e. omega (arith, ints)) (omega (arith, ints)) (omega (arith, ints))

pub returns-else-self-lt0 : goal.returns-else-self-lt0
returns-else-self-lt0 c = turned_told c.args.self _ (λ e. omega (arith, ints)) (omega (arith, ints)) (omega (arith, ints))
