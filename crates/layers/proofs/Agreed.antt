-- The parts of a layer that has passed the questions are of one dimension.
use Rattle.std.proofs.Common.{◌≡◌, ℕ, Bool, true, false, not, Some, None, Option, refl}
use Rattle.std.specs.Prelude.{◌==◌}
use Rattle.std.proofs.lemmas.Bool.{eqb-true}
use Rattle.kinds.specs.declared.fault.Fault.{Fault}
use Rattle.kinds.specs.declared.fault.Question.TheVariants.{Agreement}
use Rattle.operators.specs.Piles.{or_else, no_if}

neither : (p q : Option Fault) → or_else p q ≡ None → (p ≡ None) × (q ≡ None)
neither None q e = (refl, e)
neither (Some f) q e = cc

same : (t : Bool) → no_if (not t) Agreement ≡ None → t ≡ true
same true e = refl
same false e = cc

pub agreed : (outside below others : Option Fault) (b r : ℕ) → or_else outside (or_else (or_else (no_if (not (b == r)) Agreement) below) others) ≡ None → b ≡ r
agreed outside below others b r e =
    let layers = (neither _ others (neither outside _ e).1).0 in
    eqb-true b r (same (b == r) (neither _ below layers).0)
