use Rattle.std.proofs.Common.{sym, ◌∙◌, arith}
use Rattle.kinds.specs.Fractions.{value}
use Rattle.kinds.proofs.Held.{sound_of}
use Rattle.kinds.specs.Pairs.{put}
use Rattle.kinds.specs.Sound.{sound_num, sound_den}
use Rattle.kinds.proofs.Bounds.{back}
use Rattle.kinds.proofs.fraction.convert.PairFromFraction.from.Goals as goal

pub returns : goal.returns
unfolding value put
returns c =
    let s = sound_of c.args.f in
    let x = c.args.f.num in
    let y = c.args.f.den in
    λ i. record { num = (back x (omega arith) ∙ sym (sound_num x y s)) i; den = (back y (omega arith) ∙ sym (sound_den x y s)) i }
