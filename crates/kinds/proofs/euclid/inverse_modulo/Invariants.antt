use Rattle.std.proofs.Common.{◌≡◌, ◌*◌, ◌%◌, ◌<◌, ◌≤◌}
use Rattle.algebra.specs.Gcd.{gcd}
use Rattle.kinds.proofs.euclid.inverse_modulo.Given as goal

abbrev pub invariant-loop-y : goal.invariant-loop-y
invariant-loop-y l = (gcd l.x l.y ≡ gcd l.m l.a) × ((l.a * l.s) % l.m ≡ l.x % l.m) × ((l.a * l.t) % l.m ≡ l.y % l.m) × (l.s < l.m) × (l.t < l.m) × (l.x ≤ l.m) × (l.y ≤ l.m)

abbrev pub decreases-loop-y : goal.decreases-loop-y
decreases-loop-y l = l.y
