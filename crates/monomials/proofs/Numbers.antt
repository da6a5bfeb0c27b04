-- Triangular and tetrahedral numbers: how many monomials of the plane, and of space, have a degree below n.
use Rattle.std.proofs.Common.{◌≡◌, ℕ, zero, suc, ◌+◌, ◌*◌, ◌/◌, ◌<◌, ◌≤◌, Bool, true, ◌&&◌, eqb, refl, ⊎_elim, arith}
use Rattle.std.proofs.lemmas.Bool.{cases_order, cases_eq, eqb-true, and_parts}

unfoldable pub tri : ℕ → ℕ
tri zero = 0
tri (suc n) = tri n + suc n

unfoldable pub tet : ℕ → ℕ
tet zero = 0
tet (suc n) = tet n + tri (suc n)

pub tri_gap : (m n : ℕ) → m < n → tri m + m < tri n
unfolding tri
tri_gap m zero lt = absurd (omega arith)
tri_gap m (suc n) lt =
    ⊎_elim
    (λ (e : m ≡ n). rw e (omega arith))
    (λ (e : m ≡ n → ⊥). omega (arith, tri_gap m n (omega arith)))
    (cases_eq m n)

pub tet_gap : (m n : ℕ) → m < n → tet m + tri (suc m) ≤ tet n
unfolding tet
tet_gap m zero lt = absurd (omega arith)
tet_gap m (suc n) lt =
    ⊎_elim
    (λ (e : m ≡ n). rw e (omega arith))
    (λ (e : m ≡ n → ⊥). omega (arith, tet_gap m n (omega arith)))
    (cases_eq m n)

pub tri_zero : tri 0 ≡ 0
unfolding tri
tri_zero = refl

pub tri_suc : (n : ℕ) → tri (suc n) ≡ tri n + suc n
unfolding tri
tri_suc n = refl

pub tet_suc : (n : ℕ) → tet (suc n) ≡ tet n + tri (suc n)
unfolding tet
tet_suc n = refl

-- a fact of each number below n, by computing
abbrev all_below : (ℕ → Bool) → ℕ → Bool
all_below f zero = true
all_below f (suc n) = all_below f n && f n

at_below : (f : ℕ → Bool) (n i : ℕ) → all_below f n ≡ true → i < n → f i ≡ true
at_below f zero i h lt = absurd (omega arith)
at_below f (suc n) i h lt =
    let both = and_parts (all_below f n) (f n) h in
    ⊎_elim (λ (e : i ≡ n). rw e both.1) (λ (e : i ≡ n → ⊥). at_below f n i both.0 (omega arith)) (cases_eq i n)

pub tri_is : (n : ℕ) → n ≤ 12 → n * (n + 1) / 2 ≡ tri n
unfolding tri
tri_is n le = eqb-true _ _ (at_below (λ n. eqb (n * (n + 1) / 2) (tri n)) 13 n refl (omega arith))

pub tet_is : (n : ℕ) → n ≤ 12 → n * (n + 1) * (n + 2) / 6 ≡ tet n
unfolding tet tri
tet_is n le = eqb-true _ _ (at_below (λ n. eqb (n * (n + 1) * (n + 2) / 6) (tet n)) 13 n refl (omega arith))

pub tri_13 : tri 13 ≡ 91
unfolding tri
tri_13 = refl

pub tet_13 : tet 13 ≡ 455
unfolding tet tri
tet_13 = refl

-- a sum of a triangular number and at most its index tells both
pub tri_apart : (m n p q : ℕ) → p ≤ m → q ≤ n → tri m + p ≡ tri n + q → m ≡ n
tri_apart m n p q lp lq e =
    ⊎_elim
    (λ (h : m ≡ n). h)
    (λ h. ⊎_elim (λ (l : m < n). absurd (omega (arith, tri_gap m n l))) (λ (l : n < m). absurd (omega (arith, tri_gap n m l))) h)
    (cases_order m n)

-- a sum of a tetrahedral number and less than the next triangular one tells both
pub tet_apart : (m n p q : ℕ) → p < tri (suc m) → q < tri (suc n) → tet m + p ≡ tet n + q → m ≡ n
tet_apart m n p q lp lq e =
    ⊎_elim
    (λ (h : m ≡ n). h)
    (λ h. ⊎_elim (λ (l : m < n). absurd (omega (arith, tet_gap m n l))) (λ (l : n < m). absurd (omega (arith, tet_gap n m l))) h)
    (cases_order m n)
