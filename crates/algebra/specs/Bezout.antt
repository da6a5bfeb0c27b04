-- Bézout's identity by the extended Euclid's algorithm, and what it says modulo m.
use Rattle.std.specs.Prelude.{◌≡◌, ℕ, zero, suc, ◌+◌, ◌-◌, ◌*◌, ◌/◌, ◌%◌, ◌<◌, ℤ, pos, negsuc, ◌+ℤ◌, ◌*ℤ◌, neg_ℤ, refl}
use Rattle.std.proofs.Common.{sym, ◌∙◌, ap, subst, mod-lt, add-zero, mul-zero, mul-add, add_assoc, arith}
use Rattle.std.specs.Int.{◌∣◌}
use Rattle.std.proofs.Math.Nat.{mod-add-div', dvd-mod_iff, dvd-mul_right_of_dvd, eq-one_of_dvd-one}
use Rattle.algebra.specs.Solver.{:0, :1, ◌:+◌, ◌:*◌, :-◌, ◌:-◌, ◌:=◌, solve₂, solve₅}
use Rattle.algebra.specs.Integers.{integers, pos_inj}
use Rattle.algebra.specs.Gcd.{euclid, gcd, gcd_is}
use Rattle.algebra.specs.Remainders.{same_remainder, mul_mod_right, one_mod}

-- the two factors; the first number bounds how many steps it takes, as in Euclid's algorithm
unfoldable pub extended : ℕ → ℕ → ℕ → ℤ × ℤ
extended zero a b = (pos 1, pos 0)
extended (suc f) a zero = (pos 1, pos 0)
extended (suc f) a (suc b) =
    let c = extended f (suc b) (a % suc b) in (c.1, c.0 +ℤ neg_ℤ (pos (a / suc b) *ℤ c.1))

first : (a b : ℤ) → a *ℤ pos 1 +ℤ b *ℤ pos 0 ≡ a
unfolding integers
first = solve₂ integers (λ a b. a :* :1 :+ b :* :0 := a) tt

-- r + q b is the number before the step
step : (r q b x y : ℤ) → (r +ℤ q *ℤ b) *ℤ y +ℤ b *ℤ (x +ℤ neg_ℤ (q *ℤ y)) ≡ b *ℤ x +ℤ r *ℤ y
unfolding integers
step = solve₅ integers (λ r q b x y. (r :+ q :* b) :* y :+ b :* (x :- q :* y) := b :* x :+ r :* y) tt

pub extended_is : (f a b : ℕ) → pos a *ℤ (extended f a b).0 +ℤ pos b *ℤ (extended f a b).1 ≡ pos (euclid f a b)
unfolding extended euclid
extended_is zero a b = first (pos a) (pos b)
extended_is (suc f) a zero = first (pos a) (pos 0)
extended_is (suc f) a (suc b) =
    let c = extended f (suc b) (a % suc b) in
    ap (λ t. pos t *ℤ c.1 +ℤ pos (suc b) *ℤ (c.0 +ℤ neg_ℤ (pos (a / suc b) *ℤ c.1))) (sym (mod-add-div' a (suc b)))
    ∙ step (pos (a % suc b)) (pos (a / suc b)) (pos (suc b)) c.0 c.1
    ∙ extended_is f (suc b) (a % suc b)

unfoldable pub bezout : ℕ → ℕ → ℤ × ℤ
bezout a b = extended b a b

pub bezout_is : (a b : ℕ) → pos a *ℤ (bezout a b).0 +ℤ pos b *ℤ (bezout a b).1 ≡ pos (gcd a b)
unfolding bezout gcd
bezout_is a b = extended_is b a b

-- ---- modulo m

-- a natural number congruent to an integer: -1 is congruent to m - 1
unfoldable pub natural : ℕ → ℤ → ℕ
natural m (pos n) = n
natural m (negsuc n) = suc n * (m - 1)

-- how many times m it is above
turns : ℤ → ℕ
turns (pos n) = 0
turns (negsuc n) = suc n

natural_is : (m : ℕ) (z : ℤ) → 0 < m → pos (natural m z) ≡ z +ℤ pos m *ℤ pos (turns z)
unfolding natural turns integers
natural_is m (pos n) h = ap pos (sym (ap (λ t. n + t) (mul-zero m) ∙ add-zero n))
natural_is m (negsuc n) h =
    solve₂ integers (λ n p. n :* p := (:-◌ n) :+ (:1 :+ p) :* n) tt (pos (suc n)) (pos (m - 1))
    ∙ ap (λ t. negsuc n +ℤ pos (t * suc n)) (let e : 1 + (m - 1) ≡ m = omega arith in e)

-- an equation of integers with multiples of m, read as one of remainders
remainders : (m u g k : ℕ) (y : ℤ) → pos u +ℤ pos m *ℤ y ≡ pos g +ℤ pos (m * k) → u % m ≡ g % m
unfolding integers
remainders m u g k (pos v) e = same_remainder m u g v k (pos_inj (u + m * v) (g + m * k) e)
remainders m u g k (negsuc v) e =
    same_remainder m u g 0 (k + suc v)
    (ap (λ t. u + t) (mul-zero m) ∙ add-zero u
    ∙ pos_inj u (g + m * k + m * suc v)
    (solve₂ integers (λ u v. u := (u :- v) :+ v) tt (pos u) (pos (m * suc v)) ∙ ap (λ t. t +ℤ pos (m * suc v)) e)
    ∙ add_assoc g (m * k) (m * suc v) ∙ ap (λ t. g + t) (sym (mul-add m k (suc v))))

unfoldable pub cofactor : ℕ → ℕ → ℕ
cofactor a m = natural m (bezout a m).0 % m

pub cofactor_lt : (a m : ℕ) → 0 < m → cofactor a m < m
unfolding cofactor
cofactor_lt a m h = mod-lt _ h

-- Bézout modulo m: some multiple of a is congruent to the greatest common divisor
pub cofactor_is : (a m : ℕ) → 0 < m → (a * cofactor a m) % m ≡ gcd a m % m
unfolding cofactor integers
cofactor_is a m h =
    let x = (bezout a m).0 in
    let y = (bezout a m).1 in
    let k = turns x in
    mul_mod_right a (natural m x) m
    ∙ remainders m (a * natural m x) (gcd a m) (a * k) y
    (ap (λ t. pos a *ℤ t +ℤ pos m *ℤ y) (natural_is m x h)
    ∙ solve₅ integers (λ a m x y k. a :* (x :+ m :* k) :+ m :* y := (a :* x :+ m :* y) :+ m :* (a :* k)) tt (pos a) (pos m) x y (pos k)
    ∙ ap (λ t. t +ℤ pos (m * (a * k))) (bezout_is a m))

-- a number coprime to m has an inverse modulo m, and no other has
pub coprime_inverse : (a m : ℕ) → 1 < m → gcd a m ≡ 1 → (a * cofactor a m) % m ≡ 1
coprime_inverse a m h e = cofactor_is a m (omega arith) ∙ ap (λ t. t % m) e ∙ one_mod m h

pub inverse_coprime : (a x m : ℕ) → (a * x) % m ≡ 1 → gcd a m ≡ 1
inverse_coprime a x m e =
    let g = gcd_is a m in
    eq-one_of_dvd-one (subst (λ t. gcd a m ∣ t) e ((dvd-mod_iff (gcd a m) {m = a * x} {n = m} g.right).1 (dvd-mul_right_of_dvd (gcd a m) g.left x)))

-- it computes, at a modulus that is no prime too
seven : cofactor 7 30 ≡ 13
unfolding cofactor natural bezout extended
seven = refl

large : cofactor 701408733 1134903170 ≡ 433494437
unfolding cofactor natural bezout extended
large = refl
