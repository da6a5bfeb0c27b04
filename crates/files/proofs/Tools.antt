use Rattle.std.proofs.Common.{◌≡◌, ℕ, ◌+◌, ◌-◌, ◌*◌, ◌/◌, ◌%◌, ◌^◌, ◌<◌, ◌≤◌, true, List, [], ◌∷◌, ◌++◌, take, drop, decimal, sym, ap, ◌∙◌, arith}
use Rattle.std.proofs.lemmas.List.{take-append-drop, drop-drop}
use Rattle.std.proofs.lemmas.Bool.Decides.{nat_tests}
use Rattle.std.proofs.lemmas.Fmt.{decimal_digit, decimal_step}
use Rattle.files.specs.Words.{is_digit}

-- Small lemmas on digits, decimals and parts of a text.
pub digit_bounds : (b : ℕ) → is_digit b ≡ true → (48 ≤ b) × (b ≤ 57)
digit_bounds b h = grind (arith, nat_tests)

pub decimal_one : (b : ℕ) → 48 ≤ b → b ≤ 57 → decimal (b - 48) ≡ b ∷ []
decimal_one b l h =
    let e : 48 + (b - 48) ≡ b = omega arith in
    decimal_digit (b - 48) (omega arith) ∙ ap (λ (x : ℕ). x ∷ []) e

pub decimal_grow : (n b : ℕ) → 0 < n → 48 ≤ b → b ≤ 57 → 10 * n + (b - 48) < 2 ^ 64 → decimal (10 * n + (b - 48)) ≡ decimal n ++ (b ∷ [])
decimal_grow n b p l h small =
    let q : (10 * n + (b - 48)) / 10 ≡ n = omega arith in
    let m : 48 + (10 * n + (b - 48)) % 10 ≡ b = omega arith in
    cc (decimal_step (10 * n + (b - 48)) (omega arith) small)

pub cut : (text : List ℕ) (at to : ℕ) → at ≤ to → drop at text ≡ take (to - at) (drop at text) ++ drop to text
cut text at to h =
    let e : at + (to - at) ≡ to = omega arith in
    sym (take-append-drop (to - at) (drop at text)) ∙ ap (λ (x : List ℕ). take (to - at) (drop at text) ++ x) (drop-drop (to - at) at text ∙ ap (λ (x : ℕ). drop x text) e)
