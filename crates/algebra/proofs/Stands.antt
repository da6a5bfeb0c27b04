-- The theorems of specs/Stated that are put together from several lemmas.
use Rattle.std.proofs.Common.{◌≡◌, ℕ, ◌<◌, ℤ, pos, ◌+ℤ◌, ◌*ℤ◌, neg_ℤ, sym, refl, ap, ◌∙◌}
use Rattle.algebra.specs.Integers.{integers, cancelℤ, swap_last}
use Rattle.algebra.specs.Gcd.{gcd}
use Rattle.algebra.specs.Bezout.{bezout, bezout_is}
use Rattle.algebra.specs.Rationals.{ℚ, reduce, reduced, Value, unique, same, rationals, zeroℚ, oneℚ, addℚ, mulℚ, negℚ, invert, mul_invert}
use Rattle.algebra.specs.Residues.{class, residues, add_residues, mul_residues, neg_residue}
use Rattle.algebra.specs.Stated.{RingOf, FieldOf, Combination, Lowest, OneForm, KeepsFraction, DependsOnFraction, TellsApart}

pub integers_stand : RingOf (pos 0) (pos 1) ◌+ℤ◌ ◌*ℤ◌ neg_ℤ
unfolding integers
integers_stand = (integers, refl, refl, refl, refl, refl)

pub combination_stands : (a b : ℕ) → Combination a b (gcd a b)
combination_stands a b = ((bezout a b).0, ((bezout a b).1, bezout_is a b))

pub one_form_stands : OneForm Lowest
one_form_stands n m d e h k p q c =
    let x : ℚ = record { num = n; den = d; positive = h; lowest = p } in
    let y : ℚ = record { num = m; den = e; positive = k; lowest = q } in
    let r = unique x y c in
    (ap (λ (z : ℚ). z.num) r, ap (λ (z : ℚ). z.den) r)

pub keeps_stands : KeepsFraction reduce
keeps_stands n d h = (reduced n d h).cross

pub depends_stands : DependsOnFraction reduce
depends_stands n m d e h k c = same (reduced n d h) (reduced m e k) c

-- fractions of one value are equal as fractions
both : (n m : ℤ) (d e : ℕ) (q : ℚ) → Value n d q → Value m e q → n *ℤ pos e ≡ m *ℤ pos d
both n m d e q v w =
    cancelℤ _ _ q.den q.positive
    (swap_last n (pos e) (pos q.den) ∙ ap (λ t. t *ℤ pos e) v.cross ∙ swap_last q.num (pos d) (pos e)
    ∙ ap (λ t. t *ℤ pos d) (sym w.cross) ∙ swap_last m (pos q.den) (pos d))

pub apart_stands : TellsApart reduce
apart_stands n m d e h k c = both n m d e (reduce n d h) (reduced n d h) (rw c (reduced m e k))

pub field_stands : FieldOf zeroℚ oneℚ addℚ mulℚ negℚ invert
unfolding rationals
field_stands = ((rationals, refl, refl, refl, refl, refl), mul_invert)

pub residues_stand : (m : ℕ) (big : 1 < m) → RingOf (class m big 0) (class m big 1) (add_residues m big) (mul_residues m big) (neg_residue m big)
unfolding residues
residues_stand m big = (residues m big, refl, refl, refl, refl, refl)
