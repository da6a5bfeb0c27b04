-- Remainders of sums and products.
use Rattle.std.specs.Prelude.{◌≡◌, ℕ, ◌+◌, ◌*◌, ◌/◌, ◌%◌, ◌<◌}
use Rattle.std.proofs.Common.{sym, ◌∙◌, ap, mod-eq_of_lt, mul_assoc, mul_comm, add-mul}
use Rattle.std.proofs.Math.Nat.{mod-add-div', add-mul-mod_self_left, add-mul-mod_self_right}

-- numbers that differ by multiples of m have the same remainder
pub same_remainder : (m x y k l : ℕ) → x + m * k ≡ y + m * l → x % m ≡ y % m
same_remainder m x y k l e = sym (add-mul-mod_self_left x m k) ∙ ap (λ t. t % m) e ∙ add-mul-mod_self_left y m l

pub mul_mod_left : (a b m : ℕ) → (a % m * b) % m ≡ (a * b) % m
mul_mod_left a b m =
    sym (add-mul-mod_self_right (a % m * b) (a / m * b) m)
    ∙ ap (λ t. t % m) (ap (λ t. a % m * b + t) (mul_assoc (a / m) b m ∙ ap (λ t. a / m * t) (mul_comm b m) ∙ sym (mul_assoc (a / m) m b))
    ∙ sym (add-mul (a % m) (a / m * m) b) ∙ ap (λ t. t * b) (mod-add-div' a m))

pub mul_mod_right : (a b m : ℕ) → (a * (b % m)) % m ≡ (a * b) % m
mul_mod_right a b m = ap (λ t. t % m) (mul_comm a (b % m)) ∙ mul_mod_left b a m ∙ ap (λ t. t % m) (mul_comm b a)

pub mul_mod : (a b m : ℕ) → (a * b) % m ≡ (a % m * (b % m)) % m
mul_mod a b m = sym (mul_mod_left a b m) ∙ sym (mul_mod_right (a % m) b m)

pub one_mod : (m : ℕ) → 1 < m → 1 % m ≡ 1
one_mod m h = mod-eq_of_lt h
