-- How long the line of a coefficient of a table is.
use Rattle.std.proofs.Common.{ℕ, suc, ◌^◌, ◌<◌, ◌≤◌, [], ◌∷◌, ◌++◌, length, ℤ, pos, negsuc, nat_abs, decimal, arith, w64, to_z, of_z}
use Rattle.std.proofs.lemmas.Fmt.{length-decimal-le}
use Rattle.std.proofs.lemmas.List.{length-append}
use Rattle.std.specs.Fmt.{signed_decimal}
use Rattle.files.specs.declared.row.Row.{Row}
use Rattle.files.specs.Form.{line}
use Rattle.files.proofs.Stand.{from_b, from_c, from_num, from_den}
use Rattle.kinds.specs.declared.pairs.Pair.{Pair}
use Rattle.kinds.specs.Bounded.{limit}
use Rattle.kinds.specs.Meanings.{mean_inside}
use Rattle.kinds.specs.Pairs.{mean, put}
use Rattle.kinds.specs.Sound.{put_held}
use Rattle.monomials.specs.declared.monomial.Monomial.{Monomial}
use Rattle.monomials.specs.Places.{exponents}
use Rattle.writer.specs.Terms.{row_of}

pub number_long : (n b : ℕ) → n < 2 ^ 64 → length (decimal n ++ (b ∷ [])) ≤ 21
number_long n b h = omega (arith, length-append (decimal n) (b ∷ []), length-decimal-le 20 n (omega arith) (omega arith) h)

signed_long : (z : ℤ) → nat_abs z ≤ limit → length (signed_decimal z) ≤ 11
signed_long (pos n) h = omega (arith, length-decimal-le 10 n (omega arith) (omega arith) (omega arith))
signed_long (negsuc n) h = omega (arith, length-decimal-le 10 (suc n) (omega arith) (omega arith) (omega arith))

-- exponents of at most two digits, and a numerator and a denominator of at most ten
line_long : (r : Row) → r.a ≤ 12 → r.b ≤ 12 → r.c ≤ 12 → nat_abs r.num ≤ limit → nat_abs r.den ≤ limit → length (line r) ≤ 33
line_long r a b c n d =
    omega (arith, length-append (decimal r.a) (32 ∷ from_b r), length-append (decimal r.b) (32 ∷ from_c r), length-append (decimal r.c) (32 ∷ from_num r), length-append (signed_decimal r.num) (32 ∷ from_den r), length-append (signed_decimal r.den) (10 ∷ []), length-decimal-le 2 r.a (omega arith) (omega arith) (omega arith), length-decimal-le 2 r.b (omega arith) (omega arith) (omega arith), length-decimal-le 2 r.c (omega arith) (omega arith) (omega arith), signed_long r.num n, signed_long r.den d)

-- a pair that a fraction is written as is within the limit
num_small : (p : Pair) → nat_abs (put (mean p)).num ≤ limit
unfolding put
num_small p = (put_held (mean p) (mean_inside p)).small_num

den_small : (p : Pair) → nat_abs (put (mean p)).den ≤ limit
unfolding put
den_small p = (put_held (mean p) (mean_inside p)).small_den

-- the row of a monomial and a pair, as a call has it by its bits
abbrev pub row_bits : Monomial → Pair → Row
row_bits m q = record { a = m.a; b = m.b; c = m.c; num = to_z w64 (of_z w64 q.num); den = to_z w64 (of_z w64 q.den) }

pub row_long : (m : Monomial) (p : Pair) → exponents m ≤ 12 → length (line (row_of m (put (mean p)))) ≤ 33
row_long m p h = line_long (row_of m (put (mean p))) (omega arith) (omega arith) (omega arith) (num_small p) (den_small p)
