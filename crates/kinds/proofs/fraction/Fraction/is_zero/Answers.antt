use Rattle.std.proofs.Common.{sym, arith}
use Rattle.kinds.specs.Fractions.{value}
use Rattle.kinds.proofs.Held.{sound_of}
use Rattle.kinds.proofs.Bounds.{fits_within, zero_test, zero_tested}
use Rattle.kinds.proofs.fraction.Fraction.is_zero.Goals as goal

pub returns : goal.returns
unfolding value
returns c = sym (zero_tested _ _ _ (sound_of c.args.self) (sym (zero_test c.args.self.num (fits_within _ (omega arith)))))
