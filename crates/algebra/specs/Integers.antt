-- The ring of the integers, and its image in every ring.
use Rattle.std.specs.Prelude.{◌≡◌, ℕ, zero, suc, ◌+◌, ◌*◌, ◌/◌, ◌<◌, ℤ, pos, negsuc, ◌+ℤ◌, ◌*ℤ◌, neg_ℤ, int_div, unsigned_abs, refl}
use Rattle.std.proofs.Common.{sym, ◌∙◌, ap, ap₂, arith}
use Rattle.std.proofs.Math.Option.{Option, some, none}
use Rattle.std.specs.Int.{◌∣◌}
use Rattle.std.proofs.Math.Nat as N
use Rattle.std.proofs.Math.Nat.{div-mul_cancel, eq_of_mul-eq-mul_right}
use lib.IntN.{suc_ℤ, pred_ℤ, ℤ_set, ℤ_discrete, +ℤ_assoc, +ℤ_comm, +ℤ_idr, +ℤ_idl, +ℤ_invr, *ℤ-one, *ℤ_comm, zero-*ℤ, suc_ℤ-*ℤ, pred_ℤ-*ℤ, +ℤ-suc_ℤ, +ℤ-pred_ℤ, neg_ℤ-neg_ℤ, pos-ne-negsuc}
use borrow.Author.Differences.{up, down, same_out, same_in, product_is}
use Rattle.algebra.specs.Ring.{Ring}
use Rattle.algebra.specs.Solver.{◌:*◌, ◌:=◌, solve₃}

-- what holds of 0, and goes over to the successor and to the predecessor
pub ℤ_ind : (P : ℤ → Type 0) → P (pos 0) → ((k : ℤ) → P k → P (suc_ℤ k)) → ((k : ℤ) → P k → P (pred_ℤ k)) → (k : ℤ) → P k
ℤ_ind P z s p (pos zero) = z
ℤ_ind P z s p (pos (suc n)) = s (pos n) (ℤ_ind P z s p (pos n))
ℤ_ind P z s p (negsuc zero) = p (pos 0) z
ℤ_ind P z s p (negsuc (suc n)) = p (negsuc n) (ℤ_ind P z s p (negsuc n))

pub add_mulℤ : (a b c : ℤ) → (a +ℤ b) *ℤ c ≡ (a *ℤ c) +ℤ (b *ℤ c)
add_mulℤ a b c =
    ℤ_ind (λ b. (a +ℤ b) *ℤ c ≡ (a *ℤ c) +ℤ (b *ℤ c))
    (ap (λ x. x *ℤ c) (+ℤ_idr a) ∙ sym (ap (λ x. (a *ℤ c) +ℤ x) (zero-*ℤ c) ∙ +ℤ_idr (a *ℤ c)))
    (λ k h. ap (λ x. x *ℤ c) (+ℤ-suc_ℤ a k) ∙ suc_ℤ-*ℤ (a +ℤ k) c ∙ ap (λ x. x +ℤ c) h ∙ +ℤ_assoc (a *ℤ c) (k *ℤ c) c ∙ ap (λ x. (a *ℤ c) +ℤ x) (sym (suc_ℤ-*ℤ k c)))
    (λ k h. ap (λ x. x *ℤ c) (+ℤ-pred_ℤ a k) ∙ pred_ℤ-*ℤ (a +ℤ k) c ∙ ap (λ x. x +ℤ neg_ℤ c) h ∙ +ℤ_assoc (a *ℤ c) (k *ℤ c) (neg_ℤ c) ∙ ap (λ x. (a *ℤ c) +ℤ x) (sym (pred_ℤ-*ℤ k c)))
    b

pub mul_addℤ : (a b c : ℤ) → a *ℤ (b +ℤ c) ≡ (a *ℤ b) +ℤ (a *ℤ c)
mul_addℤ a b c = *ℤ_comm a (b +ℤ c) ∙ add_mulℤ b c a ∙ ap₂ ◌+ℤ◌ (*ℤ_comm b a) (*ℤ_comm c a)

pub neg_mulℤ : (a b : ℤ) → neg_ℤ a *ℤ b ≡ neg_ℤ (a *ℤ b)
neg_mulℤ a b =
    let e : (neg_ℤ a *ℤ b) +ℤ (a *ℤ b) ≡ pos 0 = sym (add_mulℤ (neg_ℤ a) a b) ∙ ap (λ x. x *ℤ b) (+ℤ_comm (neg_ℤ a) a ∙ +ℤ_invr a) ∙ zero-*ℤ b in
    sym (+ℤ_idr _) ∙ ap (λ x. (neg_ℤ a *ℤ b) +ℤ x) (sym (+ℤ_invr (a *ℤ b))) ∙ sym (+ℤ_assoc (neg_ℤ a *ℤ b) (a *ℤ b) (neg_ℤ (a *ℤ b))) ∙ ap (λ x. x +ℤ neg_ℤ (a *ℤ b)) e ∙ +ℤ_idl (neg_ℤ (a *ℤ b))

pub mul_assocℤ : (a b c : ℤ) → (a *ℤ b) *ℤ c ≡ a *ℤ (b *ℤ c)
mul_assocℤ a b c =
    ℤ_ind (λ a. (a *ℤ b) *ℤ c ≡ a *ℤ (b *ℤ c))
    (ap (λ x. x *ℤ c) (zero-*ℤ b) ∙ zero-*ℤ c ∙ sym (zero-*ℤ (b *ℤ c)))
    (λ k h. ap (λ x. x *ℤ c) (suc_ℤ-*ℤ k b) ∙ add_mulℤ (k *ℤ b) b c ∙ ap (λ x. x +ℤ (b *ℤ c)) h ∙ sym (suc_ℤ-*ℤ k (b *ℤ c)))
    (λ k h. ap (λ x. x *ℤ c) (pred_ℤ-*ℤ k b) ∙ add_mulℤ (k *ℤ b) (neg_ℤ b) c ∙ ap₂ ◌+ℤ◌ h (neg_mulℤ b c) ∙ sym (pred_ℤ-*ℤ k (b *ℤ c)))
    a

abbrev pub invertℤ : ℤ → Option ℤ
invertℤ (pos zero) = none
invertℤ (pos (suc zero)) = some (pos 1)
invertℤ (pos (suc (suc n))) = none
invertℤ (negsuc zero) = some (negsuc 0)
invertℤ (negsuc (suc n)) = none

pub invertℤ_some : (a b : ℤ) → invertℤ a ≡ some b → a *ℤ b ≡ pos 1
invertℤ_some (pos zero) b e = cc
invertℤ_some (pos (suc zero)) b e = let h : pos 1 ≡ b = cc in ap (λ x. pos 1 *ℤ x) (sym h)
invertℤ_some (pos (suc (suc n))) b e = cc
invertℤ_some (negsuc zero) b e = let h : negsuc 0 ≡ b = cc in ap (λ x. negsuc 0 *ℤ x) (sym h)
invertℤ_some (negsuc (suc n)) b e = cc

large : (n m : ℕ) → ¬ (suc (suc n) * m ≡ 1)
large n zero e = let h : suc (suc n) * 0 ≡ 0 = N.mul-zero (suc (suc n)) in omega arith
large n (suc m) e = omega arith

pub pos_inj : (m n : ℕ) → pos m ≡ pos n → m ≡ n
pos_inj m n e = cc

not_neg : (k : ℕ) → ¬ (neg_ℤ (pos k) ≡ pos 1)
not_neg k e = pos-ne-negsuc k 0 (sym (neg_ℤ-neg_ℤ (pos k)) ∙ ap neg_ℤ e)

pub invertℤ_none : (a : ℤ) → invertℤ a ≡ none → (b : ℤ) → ¬ (a *ℤ b ≡ pos 1)
invertℤ_none (pos zero) e b h = let z : ◌≡◌ {A = ℕ} 0 1 = pos_inj 0 1 (sym (zero-*ℤ b) ∙ h) in omega arith
invertℤ_none (pos (suc zero)) e b h = let z : ◌≡◌ {A = ℕ} 0 1 = cc in omega arith
invertℤ_none (pos (suc (suc n))) e (pos m) h = large n m (pos_inj (suc (suc n) * m) 1 h)
invertℤ_none (pos (suc (suc n))) e (negsuc m) h = not_neg (suc (suc n) * suc m) h
invertℤ_none (negsuc zero) e b h = let z : ◌≡◌ {A = ℕ} 0 1 = cc in omega arith
invertℤ_none (negsuc (suc n)) e (pos m) h = not_neg (suc (suc n) * m) h
invertℤ_none (negsuc (suc n)) e (negsuc m) h = large n (suc m) (pos_inj (suc (suc n) * suc m) 1 h)

pub mul_oneℤ : (a : ℤ) → a *ℤ pos 1 ≡ a
unfolding lib.IntN.one
mul_oneℤ a = *ℤ-one a

unfoldable pub integers : Ring ℤ
integers = record {
  is_set = ℤ_set;
  𝟘 = pos 0;
  𝟙 = pos 1;
  add = ◌+ℤ◌;
  mul = ◌*ℤ◌;
  neg = neg_ℤ;
  add_assoc = +ℤ_assoc;
  add_comm = +ℤ_comm;
  add_zero = +ℤ_idr;
  add_neg = +ℤ_invr;
  mul_assoc = mul_assocℤ;
  mul_comm = *ℤ_comm;
  mul_one = mul_oneℤ;
  distrib = mul_addℤ;
  one≢zero = λ e. let z : ◌≡◌ {A = ℕ} 0 1 = pos_inj 0 1 (sym e) in omega arith;
  dec_eq = ℤ_discrete;
  inv = invertℤ;
  inv_some = invertℤ_some;
  inv_none = invertℤ_none;
}

-- ---- absolute values and quotients

pub abs_neg : (z : ℤ) → unsigned_abs (neg_ℤ z) ≡ unsigned_abs z
abs_neg (pos zero) = refl
abs_neg (pos (suc n)) = refl
abs_neg (negsuc n) = refl

pub abs_mul : (a b : ℤ) → unsigned_abs (a *ℤ b) ≡ unsigned_abs a * unsigned_abs b
abs_mul (pos a) (pos b) = refl
abs_mul (pos a) (negsuc b) = abs_neg (pos (a * suc b))
abs_mul (negsuc a) (pos b) = abs_neg (pos (suc a * b))
abs_mul (negsuc a) (negsuc b) = refl

pub abs_zero : (z : ℤ) → unsigned_abs z ≡ 0 → z ≡ pos 0
abs_zero (pos n) h = ap pos h
abs_zero (negsuc n) h = absurd (omega arith)

pub cancelℤ : (a b : ℤ) (d : ℕ) → 0 < d → a *ℤ pos d ≡ b *ℤ pos d → a ≡ b
cancelℤ a b d h e =
    let s = same_out (a *ℤ pos d) (b *ℤ pos d) e in
    let p = product_is a (pos d) in
    let q = product_is b (pos d) in
    let u : up a * d ≡ up b * d = omega arith in
    let v : down a * d ≡ down b * d = omega arith in
    same_in a b (ap₂ ◌+◌ (eq_of_mul-eq-mul_right d h (up a) (up b) u) (sym (eq_of_mul-eq-mul_right d h (down a) (down b) v)))

pub abs_quot : (n : ℤ) (g : ℕ) → unsigned_abs (int_div n (pos g)) ≡ unsigned_abs n / g
abs_quot (pos a) g = refl
abs_quot (negsuc a) g = abs_neg (pos (suc a / g))

pub quot_times : (n : ℤ) (g : ℕ) → g ∣ unsigned_abs n → int_div n (pos g) *ℤ pos g ≡ n
quot_times (pos a) g h = ap pos (div-mul_cancel g h)
quot_times (negsuc a) g h = neg_mulℤ (pos (suc a / g)) (pos g) ∙ ap (λ t. neg_ℤ (pos t)) (div-mul_cancel g h)

pub swap_last : (a b c : ℤ) → (a *ℤ b) *ℤ c ≡ (a *ℤ c) *ℤ b
unfolding integers
swap_last = solve₃ integers (λ a b c. (a :* b) :* c := (a :* c) :* b) tt
