use Rattle.std.proofs.Common.{sym, ◌∙◌, ap₂, w64, SFits, rules}
use Rattle.std.proofs.lemmas.Int.{to_z-of_z}
use Rattle.std.proofs.lemmas.Bool.{cond-true, cond-false}
use Rattle.algebra.specs.Rationals.{ratio, zero_ratio}
use Rattle.kinds.specs.Bounded.{sound}
use Rattle.kinds.specs.Fractions.{value}
use Rattle.kinds.specs.Pairs.{mean}
use Rattle.kinds.specs.Sound.{sound_out}
use Rattle.kinds.proofs.Held.{parts}
use Rattle.kinds.proofs.fraction.convert.FractionFromPair.from.Goals as goal

pub returns-then-not-is_sound : goal.returns-then-not-is_sound
unfolding mean
returns-then-not-is_sound c =
    let f : SFits w64 c.args.p.num = search rules in
    let g : SFits w64 c.args.p.den = search rules in
    c.from.ensures ∙ zero_ratio ∙ sym (cond-false _ _ _ (sym (c.if-not-is_sound.ensures ∙ ap₂ sound (to_z-of_z w64 _ f) (to_z-of_z w64 _ g))))

pub invariant_of-result : goal.invariant_of-result
invariant_of-result c = parts _ _ (sound_out _ _ (sym c.if-not-is_sound.ensures))

pub returns : goal.returns
unfolding value mean
returns c =
    let f : SFits w64 c.args.p.num = search rules in
    let g : SFits w64 c.args.p.den = search rules in
    let e = ap₂ sound (to_z-of_z w64 _ f) (to_z-of_z w64 _ g) in
    ap₂ ratio (to_z-of_z w64 _ f) (to_z-of_z w64 _ g) ∙ sym (cond-true _ _ _ (sym (c.if-not-is_sound.ensures ∙ e)))
