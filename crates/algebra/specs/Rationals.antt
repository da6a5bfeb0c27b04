-- The rational numbers: fractions in lowest terms, without limit of size.
use Rattle.std.specs.Prelude.{◌≡◌, ℕ, zero, suc, ◌*◌, ◌/◌, ◌<◌, Bool, true, false, cond, not, ℤ, pos, negsuc, ◌+ℤ◌, ◌*ℤ◌, neg_ℤ, int_div, unsigned_abs, refl}
use Rattle.std.proofs.Common.{sym, ◌∙◌, ap, ap₂, subst, mul-pos, div-one, zero-lt-suc, arith}
use mathlib.Core.HLevel.{is_prop→PathP, hedberg, Discrete}
use Rattle.std.proofs.Math.Option.{Option, some, none}
use Rattle.std.specs.Int.{◌∣◌}
use Rattle.std.proofs.Math.Nat.{mul-div_cancel', dvd-mul_left, pos_of_dvd_of_pos, zero-div}
use Rattle.std.proofs.Math.Bridge.{le_prop}
use Rattle.std.proofs.Math.Decide.{ℕ_discrete}
use Rattle.std.proofs.Math.IntN.{ℤ_discrete, neg_ℤ-neg_ℤ}
use Rattle.algebra.specs.Ring.{Ring}
use Rattle.algebra.specs.RingLaws.{nat, nat_zero, nat_suc, neg_mul, inv_is}
use Rattle.algebra.specs.Solver.{:0, :1, ◌:+◌, ◌:*◌, :-◌, ◌:=◌, solve₁, solve₂, solve₄, solve₆}
use Rattle.algebra.specs.Integers.{integers, mul_assocℤ, pos_inj, abs_neg, abs_mul, abs_zero, abs_quot, quot_times, cancelℤ, swap_last}
use Rattle.algebra.specs.Gcd.{gcd, gcd_is, gcd_one, gcd_comm, gcd_quotients, lowest_den}

pub record ℚ : Type 0 where
  pub num : ℤ
  pub den : ℕ
  pub positive : 0 < den
  pub lowest : gcd (unsigned_abs num) den ≡ 1

pub ℚ_same : (x y : ℚ) → x.num ≡ y.num → x.den ≡ y.den → x ≡ y
ℚ_same x y p q = λ i. record {
  num = p i;
  den = q i;
  positive = is_prop→PathP (λ i. 0 < q i) (λ i. le_prop) x.positive y.positive i;
  lowest = is_prop→PathP (λ i. gcd (unsigned_abs (p i)) (q i) ≡ 1) (λ i. hedberg ℕ_discrete (gcd (unsigned_abs (p i)) (q i)) 1) x.lowest y.lowest i;
}

-- ---- lowest terms

-- fractions in lowest terms that are equal as fractions are equal
pub unique : (x y : ℚ) → x.num *ℤ pos y.den ≡ y.num *ℤ pos x.den → x ≡ y
unique x y h =
    let e = sym (abs_mul x.num (pos y.den)) ∙ ap unsigned_abs h ∙ abs_mul y.num (pos x.den) in
    let d = lowest_den (unsigned_abs x.num) x.den (unsigned_abs y.num) y.den x.lowest y.lowest e in
    ℚ_same x y (cancelℤ x.num y.num y.den y.positive (h ∙ ap (λ t. y.num *ℤ pos t) d)) d

pub quotient_pos : (a d : ℕ) → 0 < d → 0 < d / gcd a d
quotient_pos a d h =
    pos_of_dvd_of_pos (subst (λ t. d / gcd a d ∣ t) (mul-div_cancel' (gcd a d) (gcd_is a d).right) (dvd-mul_left (d / gcd a d) (gcd a d))) h

unfoldable pub reduce : ℤ → (d : ℕ) → 0 < d → ℚ
reduce n d h = record {
  num = int_div n (pos (gcd (unsigned_abs n) d));
  den = d / gcd (unsigned_abs n) d;
  positive = quotient_pos (unsigned_abs n) d h;
  lowest = ap (λ t. gcd t (d / gcd (unsigned_abs n) d)) (abs_quot n (gcd (unsigned_abs n) d)) ∙ gcd_quotients (unsigned_abs n) d h;
}

-- q is the value of n / d
pub record Value (n : ℤ) (d : ℕ) (q : ℚ) : Type 0 where
  pub positive : 0 < d
  pub cross : n *ℤ pos q.den ≡ q.num *ℤ pos d

pub own : (q : ℚ) → Value q.num q.den q
own q = record { positive = q.positive; cross = refl }

pub reduced : (n : ℤ) (d : ℕ) (h : 0 < d) → Value n d (reduce n d h)
unfolding reduce
reduced n d h =
    let g = gcd (unsigned_abs n) d in
    let m = int_div n (pos g) in
    let is = gcd_is (unsigned_abs n) d in
    record {
      positive = h;
      cross = ap (λ t. t *ℤ pos (d / g)) (sym (quot_times n g is.left)) ∙ mul_assocℤ m (pos g) (pos (d / g)) ∙ ap (λ t. m *ℤ pos t) (mul-div_cancel' g is.right);
    }

pub change : {n m : ℤ} {d e : ℕ} {q : ℚ} → Value n d q → 0 < e → n *ℤ pos e ≡ m *ℤ pos d → Value m e q
change {n} {m} {d} {e} {q} v h c = record {
  positive = h;
  cross = cancelℤ _ _ d v.positive
      (swap_last m (pos q.den) (pos d) ∙ ap (λ t. t *ℤ pos q.den) (sym c) ∙ swap_last n (pos e) (pos q.den)
      ∙ ap (λ t. t *ℤ pos e) v.cross ∙ swap_last q.num (pos d) (pos e));
}

pub same : {n m : ℤ} {d e : ℕ} {x y : ℚ} → Value n d x → Value m e y → n *ℤ pos e ≡ m *ℤ pos d → x ≡ y
same {x = x} {y = y} v w c = unique x y (change (change w v.positive (sym c)) x.positive v.cross).cross

-- ---- the operations

unfoldable pub zeroℚ : ℚ
zeroℚ = record { num = pos 0; den = 1; positive = zero-lt-suc 0; lowest = gcd_one 0 }

unfoldable pub oneℚ : ℚ
oneℚ = record { num = pos 1; den = 1; positive = zero-lt-suc 0; lowest = gcd_one 1 }

unfoldable pub addℚ : ℚ → ℚ → ℚ
addℚ x y = reduce (x.num *ℤ pos y.den +ℤ y.num *ℤ pos x.den) (x.den * y.den) (mul-pos x.positive y.positive)

unfoldable pub mulℚ : ℚ → ℚ → ℚ
mulℚ x y = reduce (x.num *ℤ y.num) (x.den * y.den) (mul-pos x.positive y.positive)

unfoldable pub negℚ : ℚ → ℚ
negℚ x = record { num = neg_ℤ x.num; den = x.den; positive = x.positive; lowest = ap (λ t. gcd t x.den) (abs_neg x.num) ∙ x.lowest }

pub zero_value : Value (pos 0) 1 zeroℚ
unfolding zeroℚ
zero_value = own zeroℚ

pub one_value : Value (pos 1) 1 oneℚ
unfolding oneℚ
one_value = own oneℚ

sum_pair : (n m xn xd yn yd d e : ℤ) → n *ℤ xd ≡ xn *ℤ d → m *ℤ yd ≡ yn *ℤ e → (xn *ℤ yd +ℤ yn *ℤ xd) *ℤ (d *ℤ e) ≡ (n *ℤ e +ℤ m *ℤ d) *ℤ (xd *ℤ yd)
unfolding integers
sum_pair n m xn xd yn yd d e p q =
    solve₆ integers (λ xn xd yn yd d e. (xn :* yd :+ yn :* xd) :* (d :* e) := (xn :* d) :* (yd :* e) :+ (yn :* e) :* (xd :* d)) tt xn xd yn yd d e
    ∙ ap₂ (λ s t. s *ℤ (yd *ℤ e) +ℤ t *ℤ (xd *ℤ d)) (sym p) (sym q)
    ∙ solve₆ integers (λ n m xd yd d e. (n :* xd) :* (yd :* e) :+ (m :* yd) :* (xd :* d) := (n :* e :+ m :* d) :* (xd :* yd)) tt n m xd yd d e

product_pair : (n m xn xd yn yd d e : ℤ) → n *ℤ xd ≡ xn *ℤ d → m *ℤ yd ≡ yn *ℤ e → (xn *ℤ yn) *ℤ (d *ℤ e) ≡ (n *ℤ m) *ℤ (xd *ℤ yd)
unfolding integers
product_pair n m xn xd yn yd d e p q =
    solve₄ integers (λ xn yn d e. (xn :* yn) :* (d :* e) := (xn :* d) :* (yn :* e)) tt xn yn d e
    ∙ ap₂ ◌*ℤ◌ (sym p) (sym q)
    ∙ solve₄ integers (λ n m xd yd. (n :* xd) :* (m :* yd) := (n :* m) :* (xd :* yd)) tt n m xd yd

pub add_value : {n m : ℤ} {d e : ℕ} {x y : ℚ} → Value n d x → Value m e y → Value (n *ℤ pos e +ℤ m *ℤ pos d) (d * e) (addℚ x y)
unfolding addℚ
add_value {n} {m} {d} {e} {x} {y} v w =
    change (reduced _ (x.den * y.den) (mul-pos x.positive y.positive)) (mul-pos v.positive w.positive)
    (sum_pair n m x.num (pos x.den) y.num (pos y.den) (pos d) (pos e) v.cross w.cross)

pub mul_value : {n m : ℤ} {d e : ℕ} {x y : ℚ} → Value n d x → Value m e y → Value (n *ℤ m) (d * e) (mulℚ x y)
unfolding mulℚ
mul_value {n} {m} {d} {e} {x} {y} v w =
    change (reduced _ (x.den * y.den) (mul-pos x.positive y.positive)) (mul-pos v.positive w.positive)
    (product_pair n m x.num (pos x.den) y.num (pos y.den) (pos d) (pos e) v.cross w.cross)

pub neg_value : {n : ℤ} {d : ℕ} {x : ℚ} → Value n d x → Value (neg_ℤ n) d (negℚ x)
unfolding negℚ integers
neg_value {n} {d} {x} v = record {
  positive = v.positive;
  cross = neg_mul integers n (pos x.den) ∙ ap neg_ℤ v.cross ∙ sym (neg_mul integers x.num (pos d));
}

-- ---- the laws

pub add_assoc : (a b c : ℚ) → addℚ (addℚ a b) c ≡ addℚ a (addℚ b c)
unfolding integers
add_assoc a b c =
    same (add_value (add_value (own a) (own b)) (own c)) (add_value (own a) (add_value (own b) (own c)))
    (solve₆ integers (λ n d m e k f. ((n :* e :+ m :* d) :* f :+ k :* (d :* e)) :* (d :* (e :* f)) := (n :* (e :* f) :+ (m :* f :+ k :* e) :* d) :* ((d :* e) :* f)) tt
    a.num (pos a.den) b.num (pos b.den) c.num (pos c.den))

pub add_comm : (a b : ℚ) → addℚ a b ≡ addℚ b a
unfolding integers
add_comm a b =
    same (add_value (own a) (own b)) (add_value (own b) (own a))
    (solve₄ integers (λ n d m e. (n :* e :+ m :* d) :* (e :* d) := (m :* d :+ n :* e) :* (d :* e)) tt a.num (pos a.den) b.num (pos b.den))

pub add_zero : (a : ℚ) → addℚ a zeroℚ ≡ a
unfolding integers
add_zero a =
    same (add_value (own a) zero_value) (own a)
    (solve₂ integers (λ n d. (n :* :1 :+ :0 :* d) :* d := n :* (d :* :1)) tt a.num (pos a.den))

pub add_neg : (a : ℚ) → addℚ a (negℚ a) ≡ zeroℚ
unfolding integers
add_neg a =
    same (add_value (own a) (neg_value (own a))) zero_value
    (solve₂ integers (λ n d. (n :* d :+ (:-◌ n) :* d) :* :1 := :0 :* (d :* d)) tt a.num (pos a.den))

pub mul_assoc : (a b c : ℚ) → mulℚ (mulℚ a b) c ≡ mulℚ a (mulℚ b c)
unfolding integers
mul_assoc a b c =
    same (mul_value (mul_value (own a) (own b)) (own c)) (mul_value (own a) (mul_value (own b) (own c)))
    (solve₆ integers (λ n d m e k f. ((n :* m) :* k) :* (d :* (e :* f)) := (n :* (m :* k)) :* ((d :* e) :* f)) tt
    a.num (pos a.den) b.num (pos b.den) c.num (pos c.den))

pub mul_comm : (a b : ℚ) → mulℚ a b ≡ mulℚ b a
unfolding integers
mul_comm a b =
    same (mul_value (own a) (own b)) (mul_value (own b) (own a))
    (solve₄ integers (λ n d m e. (n :* m) :* (e :* d) := (m :* n) :* (d :* e)) tt a.num (pos a.den) b.num (pos b.den))

pub mul_oneℚ : (a : ℚ) → mulℚ a oneℚ ≡ a
unfolding integers
mul_oneℚ a =
    same (mul_value (own a) one_value) (own a)
    (solve₂ integers (λ n d. (n :* :1) :* d := n :* (d :* :1)) tt a.num (pos a.den))

pub distrib : (a b c : ℚ) → mulℚ a (addℚ b c) ≡ addℚ (mulℚ a b) (mulℚ a c)
unfolding integers
distrib a b c =
    same (mul_value (own a) (add_value (own b) (own c))) (add_value (mul_value (own a) (own b)) (mul_value (own a) (own c)))
    (solve₆ integers (λ n d m e k f. (n :* (m :* f :+ k :* e)) :* ((d :* e) :* (d :* f)) := ((n :* m) :* (d :* f) :+ (n :* k) :* (d :* e)) :* (d :* (e :* f))) tt
    a.num (pos a.den) b.num (pos b.den) c.num (pos c.den))

pub one≢zero : ¬ (oneℚ ≡ zeroℚ)
unfolding oneℚ zeroℚ
one≢zero e = let z : ◌≡◌ {A = ℕ} 1 0 = pos_inj 1 0 (ap (λ (q : ℚ). q.num) e) in omega arith

pub ℚ_discrete : Discrete ℚ
ℚ_discrete x y = go (ℤ_discrete x.num y.num) (ℕ_discrete x.den y.den)
  where
    go : Dec (x.num ≡ y.num) → Dec (x.den ≡ y.den) → Dec (x ≡ y)
    go (yes p) (yes q) = yes (ℚ_same x y p q)
    go (yes p) (no q) = no (λ e. q (ap (λ (r : ℚ). r.den) e))
    go (no p) d = no (λ e. p (ap (λ (r : ℚ). r.num) e))

-- the inverse of n / d is d / n
abbrev turn : (n : ℤ) (d : ℕ) → 0 < d → gcd (unsigned_abs n) d ≡ 1 → Option ℚ
turn (pos zero) d h e = none
turn (pos (suc n)) d h e = some (record { num = pos d; den = suc n; positive = zero-lt-suc n; lowest = gcd_comm d (suc n) ∙ e })
turn (negsuc n) d h e = some (record { num = neg_ℤ (pos d); den = suc n; positive = zero-lt-suc n; lowest = ap (λ t. gcd t (suc n)) (abs_neg (pos d)) ∙ gcd_comm d (suc n) ∙ e })

unfoldable pub invℚ : ℚ → Option ℚ
invℚ q = turn q.num q.den q.positive q.lowest

some_inj : (a b : ℚ) → some a ≡ some b → a ≡ b
some_inj a b e = cc

none≢some : (a : ℚ) → ¬ (none ≡ some a)
none≢some a e = let z : ◌≡◌ {A = ℕ} 0 1 = cc in omega arith

-- with num and den apart, so that their signs can be told
turned : (n : ℤ) (d : ℕ) (h : 0 < d) (e : gcd (unsigned_abs n) d ≡ 1) (b : ℚ) → turn n d h e ≡ some b → mulℚ (record { num = n; den = d; positive = h; lowest = e }) b ≡ oneℚ
unfolding integers
turned (pos zero) d h e b s = absurd (none≢some b s)
turned (pos (suc n)) d h e b s =
    same (mul_value (own _) (own b)) one_value
    (ap (λ (q : ℚ). (pos (suc n) *ℤ q.num) *ℤ pos 1) (sym (some_inj _ b s))
    ∙ solve₂ integers (λ n d. (n :* d) :* :1 := :1 :* (d :* n)) tt (pos (suc n)) (pos d)
    ∙ ap (λ (q : ℚ). pos 1 *ℤ (pos d *ℤ pos q.den)) (some_inj _ b s))
turned (negsuc n) d h e b s =
    same (mul_value (own _) (own b)) one_value
    (ap (λ (q : ℚ). (negsuc n *ℤ q.num) *ℤ pos 1) (sym (some_inj _ b s))
    ∙ solve₂ integers (λ n d. ((:-◌ n) :* (:-◌ d)) :* :1 := :1 :* (d :* n)) tt (pos (suc n)) (pos d)
    ∙ ap (λ (q : ℚ). pos 1 *ℤ (pos d *ℤ pos q.den)) (some_inj _ b s))

pub inv_some : (a b : ℚ) → invℚ a ≡ some b → mulℚ a b ≡ oneℚ
unfolding invℚ
inv_some a b s = turned a.num a.den a.positive a.lowest b s

unturned : (n : ℤ) (d : ℕ) (h : 0 < d) (e : gcd (unsigned_abs n) d ≡ 1) → turn n d h e ≡ none → n ≡ pos 0
unturned (pos zero) d h e s = refl
unturned (pos (suc n)) d h e s = absurd (none≢some _ (sym s))
unturned (negsuc n) d h e s = absurd (none≢some _ (sym s))

-- only zero has the numerator zero
pub zero_num : (a : ℚ) → a.num ≡ pos 0 → a ≡ zeroℚ
unfolding integers
zero_num a e = same (own a) zero_value (ap (λ t. t *ℤ pos 1) e ∙ solve₁ integers (λ d. :0 :* :1 := :0 :* d) tt (pos a.den))

zero_mulℚ : (a b : ℚ) → a.num ≡ pos 0 → mulℚ a b ≡ zeroℚ
unfolding integers
zero_mulℚ a b e =
    same (mul_value (own a) (own b)) zero_value
    (ap (λ t. (t *ℤ b.num) *ℤ pos 1) e ∙ solve₂ integers (λ n d. (:0 :* n) :* :1 := :0 :* d) tt b.num (pos (a.den * b.den)))

pub inv_none : (a : ℚ) → invℚ a ≡ none → (b : ℚ) → ¬ (mulℚ a b ≡ oneℚ)
unfolding invℚ
inv_none a s b e = one≢zero (sym e ∙ zero_mulℚ a b (unturned a.num a.den a.positive a.lowest s))

unfoldable pub rationals : Ring ℚ
rationals = record {
  is_set = hedberg ℚ_discrete;
  𝟘 = zeroℚ;
  𝟙 = oneℚ;
  add = addℚ;
  mul = mulℚ;
  neg = negℚ;
  add_assoc = add_assoc;
  add_comm = add_comm;
  add_zero = add_zero;
  add_neg = add_neg;
  mul_assoc = mul_assoc;
  mul_comm = mul_comm;
  mul_one = mul_oneℚ;
  distrib = distrib;
  one≢zero = one≢zero;
  dec_eq = ℚ_discrete;
  inv = invℚ;
  inv_some = inv_some;
  inv_none = inv_none;
}

-- ---- ratios

-- n / d, and 0 for d = 0
unfoldable pub ratio : ℤ → ℤ → ℚ
ratio n (pos zero) = zeroℚ
ratio n (pos (suc d)) = reduce n (suc d) (zero-lt-suc d)
ratio n (negsuc d) = reduce (neg_ℤ n) (suc d) (zero-lt-suc d)

pub ratio_value : (n : ℤ) (d : ℕ) → 0 < d → Value n d (ratio n (pos d))
unfolding ratio
ratio_value n zero h = absurd (omega arith)
ratio_value n (suc d) h = reduced n (suc d) (zero-lt-suc d)

pub ratio_own : (q : ℚ) → ratio q.num (pos q.den) ≡ q
ratio_own q = same (ratio_value q.num q.den q.positive) (own q) refl

-- the sign of the denominator goes over to the numerator
pub ratio_sign : (n d : ℤ) → ratio (neg_ℤ n) (neg_ℤ d) ≡ ratio n d
unfolding ratio
ratio_sign n (pos zero) = refl
ratio_sign n (pos (suc d)) = ap (λ t. reduce t (suc d) (zero-lt-suc d)) (neg_ℤ-neg_ℤ n)
ratio_sign n (negsuc d) = refl

pub ratio_add : (a c : ℤ) (b d : ℕ) → 0 < b → 0 < d → addℚ (ratio a (pos b)) (ratio c (pos d)) ≡ ratio (a *ℤ pos d +ℤ c *ℤ pos b) (pos (b * d))
ratio_add a c b d h k =
    same (add_value (ratio_value a b h) (ratio_value c d k)) (ratio_value (a *ℤ pos d +ℤ c *ℤ pos b) (b * d) (mul-pos h k)) refl

pub ratio_mul : (a c : ℤ) (b d : ℕ) → 0 < b → 0 < d → mulℚ (ratio a (pos b)) (ratio c (pos d)) ≡ ratio (a *ℤ c) (pos (b * d))
ratio_mul a c b d h k =
    same (mul_value (ratio_value a b h) (ratio_value c d k)) (ratio_value (a *ℤ c) (b * d) (mul-pos h k)) refl

pub ratio_neg : (a : ℤ) (b : ℕ) → 0 < b → negℚ (ratio a (pos b)) ≡ ratio (neg_ℤ a) (pos b)
ratio_neg a b h = same (neg_value (ratio_value a b h)) (ratio_value (neg_ℤ a) b h) refl

pub ratio_same : (a c : ℤ) (b d : ℕ) → 0 < b → 0 < d → a *ℤ pos d ≡ c *ℤ pos b → ratio a (pos b) ≡ ratio c (pos d)
ratio_same a c b d h k e = same (ratio_value a b h) (ratio_value c d k) e

quot_one : (n : ℤ) → int_div n (pos 1) ≡ n
quot_one (pos n) = ap pos (div-one n)
quot_one (negsuc n) = ap (λ t. neg_ℤ (pos t)) (div-one (suc n))

-- a pair in lowest terms is what it is the ratio of
pub ratio_num : (n : ℤ) (d : ℕ) → 0 < d → gcd (unsigned_abs n) d ≡ 1 → (ratio n (pos d)).num ≡ n
unfolding ratio reduce
ratio_num n zero h e = absurd (omega arith)
ratio_num n (suc d) h e = ap (λ t. int_div n (pos t)) e ∙ quot_one n

pub ratio_den : (n : ℤ) (d : ℕ) → 0 < d → gcd (unsigned_abs n) d ≡ 1 → (ratio n (pos d)).den ≡ d
unfolding ratio reduce
ratio_den n zero h e = absurd (omega arith)
ratio_den n (suc d) h e = ap (λ t. suc d / t) e ∙ div-one (suc d)

-- ---- a ratio by sign and magnitude, as code computes it

abbrev pub negative : ℤ → Bool
negative (pos n) = false
negative (negsuc n) = true

-- whether the quotient of n and d is negative, or zero
abbrev pub opposite : ℤ → ℤ → Bool
opposite n d = cond (negative n) (not (negative d)) (negative d)

abbrev pub signed : Bool → ℕ → ℤ
signed false m = pos m
signed true m = neg_ℤ (pos m)

pub abs_signed : (s : Bool) (m : ℕ) → unsigned_abs (signed s m) ≡ m
abs_signed true m = abs_neg (pos m)
abs_signed false m = refl

pub ratio_num_is : (n d : ℤ) → 0 < unsigned_abs d → (ratio n d).num ≡ signed (opposite n d) (unsigned_abs n / gcd (unsigned_abs n) (unsigned_abs d))
unfolding ratio reduce
ratio_num_is n (pos zero) h = absurd (omega arith)
ratio_num_is (pos a) (pos (suc d)) h = refl
ratio_num_is (negsuc a) (pos (suc d)) h = refl
ratio_num_is (pos zero) (negsuc d) h = ap pos (zero-div _) ∙ ap (λ t. neg_ℤ (pos t)) (sym (zero-div (gcd 0 (suc d))))
ratio_num_is (pos (suc a)) (negsuc d) h = refl
ratio_num_is (negsuc a) (negsuc d) h = refl

pub ratio_den_is : (n d : ℤ) → 0 < unsigned_abs d → (ratio n d).den ≡ unsigned_abs d / gcd (unsigned_abs n) (unsigned_abs d)
unfolding ratio reduce
ratio_den_is n (pos zero) h = absurd (omega arith)
ratio_den_is n (pos (suc d)) h = refl
ratio_den_is n (negsuc d) h = ap (λ t. suc d / gcd t (suc d)) (abs_neg n)

-- ---- whole numbers

pub nat_value : (n : ℕ) → Value (pos n) 1 (nat rationals n)
unfolding rationals
nat_value zero = rw (nat_zero rationals) zero_value
nat_value (suc n) = rw (nat_suc rationals n) (change (add_value one_value (nat_value n)) (zero-lt-suc 0) (ap pos (omega arith)))

pub nat_ratio : (n : ℕ) → nat rationals n ≡ ratio (pos n) (pos 1)
nat_ratio n = same (nat_value n) (ratio_value (pos n) 1 (zero-lt-suc 0)) refl

pub zero_ratio : ratio (pos 0) (pos 1) ≡ zeroℚ
zero_ratio = same (ratio_value (pos 0) 1 (zero-lt-suc 0)) zero_value refl

pub one_ratio : ratio (pos 1) (pos 1) ≡ oneℚ
one_ratio = same (ratio_value (pos 1) 1 (zero-lt-suc 0)) one_value refl

-- ---- the inverse

-- the inverse, and 0 for 0
unfoldable pub invert : ℚ → ℚ
invert q = ratio (pos q.den) q.num

pub num_not_zero : (q : ℚ) → ¬ (q ≡ zeroℚ) → ¬ (unsigned_abs q.num ≡ 0)
num_not_zero q h e = h (zero_num q (abs_zero q.num e))

inverted : (n : ℤ) (d : ℕ) (h : 0 < d) (e : gcd (unsigned_abs n) d ≡ 1) → ¬ (unsigned_abs n ≡ 0) → mulℚ (record { num = n; den = d; positive = h; lowest = e }) (ratio (pos d) n) ≡ oneℚ
unfolding ratio integers
inverted (pos zero) d h e k = absurd (k refl)
inverted (pos (suc n)) d h e k =
    same (mul_value (own _) (reduced (pos d) (suc n) _)) one_value (solve₂ integers (λ n d. (n :* d) :* :1 := :1 :* (d :* n)) tt (pos (suc n)) (pos d))
inverted (negsuc n) d h e k =
    same (mul_value (own _) (reduced (neg_ℤ (pos d)) (suc n) _)) one_value (solve₂ integers (λ n d. ((:-◌ n) :* (:-◌ d)) :* :1 := :1 :* (d :* n)) tt (pos (suc n)) (pos d))

pub mul_invert : (q : ℚ) → ¬ (q ≡ zeroℚ) → mulℚ q (invert q) ≡ oneℚ
unfolding invert
mul_invert q h = inverted q.num q.den q.positive q.lowest (num_not_zero q h)

pub inv_invert : (q : ℚ) → ¬ (q ≡ zeroℚ) → rationals.inv q ≡ some (invert q)
unfolding rationals
inv_invert q h = inv_is rationals q (invert q) (mul_invert q h)

pub invert_zero : invert zeroℚ ≡ zeroℚ
unfolding invert zeroℚ ratio
invert_zero = refl
