use Rattle.std.proofs.Common.{◌≡◌, ◌+◌, ◌-◌, ◌%◌, ◌<◌, ◌≤◌, sym, ap, ◌∙◌, mod-lt, arith}
use native.Mathlib.Nat.{mod_self}
use Rattle.algebra.specs.Gcd.{gcd, gcd_mod, gcd_zero, gcd_comm}
use Rattle.algebra.specs.Remainders.{mul_mod_right}
use Rattle.algebra.specs.Residues.{extended_step}
use Rattle.kinds.proofs.euclid.inverse_modulo.Goals as goal

pub loop-y-preserved : goal.loop-y-preserved
loop-y-preserved c =
    let l = c.loop-y in
    let m = c.args.m in
    let h = c.loop-y.invariant in
    let e : l.t + (m - l.t) ≡ m = omega arith in (
      gcd_mod l.x l.y ∙ h.0,
      h.2,
      mul_mod_right c.args.a _ m ∙ extended_step m (omega arith) c.args.a l.s l.t (m - l.t) l.x l.y h.1 h.2 (ap (λ t. t % m) e ∙ mod_self m),
      h.4,
      mod-lt _ (omega arith),
      h.6,
      (let p : l.y ≤ m = h.6 in let q : l.x % l.y < l.y = mod-lt l.x (omega (arith, c.loop-y-test.true)) in omega arith),
    )

pub returns-else-x-eq1 : goal.returns-else-x-eq1
returns-else-x-eq1 c = λ e.
    let x = c.loop-y.x in
    c.if-x-eq1.false
    (sym (gcd_zero x) ∙ ap (gcd x) (sym c.loop-y-test.false) ∙ c.loop-y.invariant.0 ∙ gcd_comm c.args.m c.args.a ∙ e)
