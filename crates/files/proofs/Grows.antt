-- A word that grows by a byte is written with that byte more, and stays in range.
use Rattle.std.proofs.Common.{◌≡◌, ℕ, ◌+◌, ◌-◌, ◌*◌, ◌^◌, ◌<◌, ◌≤◌, Bool, not, ◌&&◌, eqb, ltb, leb, List, [], ◌∷◌, ◌++◌, IfSome, Option, sym, ap, arith}
use Rattle.std.proofs.lemmas.Bool.{and_parts, cond_both}
use Rattle.std.proofs.lemmas.Bool.Decides.{nat_tests}
use Rattle.files.specs.declared.part.Part.{Part}
use Rattle.files.specs.declared.part.Part.TheVariants.{Nothing, Minus, Natural, Negative}
use Rattle.files.specs.Words.{is_digit, grow, word, Allowed, InRange}
use Rattle.files.proofs.Tools.{digit_bounds, decimal_one, decimal_grow}

pub record Good (sign : Bool) (w : Part) (b : ℕ) (v : Part) : Type 0 where
  pub reads : word v ≡ word w ++ (b ∷ [])
  pub allowed : Allowed sign v
  pub range : InRange v

abbrev pub Grown : Bool → Part → ℕ → Option Part → Type 0
Grown sign w b o = IfSome o (Good sign w b)

pub grow_good : (sign : Bool) (w : Part) (b : ℕ) → Allowed sign w → InRange w → Grown sign w b (grow sign w b)
grow_good sign Nothing b a s =
    cond_both (is_digit b) _ _ (Grown sign Nothing b)
    (λ h. let k = digit_bounds b h in record { reads = decimal_one b k.0 k.1; allowed = tt; range = omega arith })
    (λ _. cond_both (sign && eqb b 45) _ _ (Grown sign Nothing b)
    (λ h. let k = and_parts sign (eqb b 45) h in
    let e : b ≡ 45 = grind (arith, nat_tests) in
    record { reads = ap (λ (x : ℕ). x ∷ []) (sym e); allowed = k.0; range = tt })
    (λ _. tt))
grow_good sign Minus b a s =
    cond_both (is_digit b && not (eqb b 48)) _ _ (Grown sign Minus b)
    (λ h. let k = and_parts (is_digit b) (not (eqb b 48)) h in
    let d = digit_bounds b k.0 in
    let ne : 48 < b = grind (arith, nat_tests) in
    record { reads = ap (λ (x : List ℕ). 45 ∷ x) (decimal_one b d.0 d.1); allowed = a; range = (omega arith, omega arith) })
    (λ _. tt)
grow_good sign (Natural n) b a s =
    cond_both (is_digit b && (ltb 0 n && ltb (10 * n + (b - 48)) (2 ^ 63))) _ _ (Grown sign (Natural n) b)
    (λ h. let k = and_parts (is_digit b) (ltb 0 n && ltb (10 * n + (b - 48)) (2 ^ 63)) h in
    let d = digit_bounds b k.0 in
    let m = and_parts (ltb 0 n) (ltb (10 * n + (b - 48)) (2 ^ 63)) k.1 in
    let p : 0 < n = grind (arith, nat_tests) in
    let q : 10 * n + (b - 48) < 2 ^ 63 = grind (arith, nat_tests) in
    record { reads = decimal_grow n b p d.0 d.1 (omega arith); allowed = tt; range = q })
    (λ _. tt)
grow_good sign (Negative n) b a s =
    cond_both (is_digit b && leb (10 * n + (b - 48)) (2 ^ 63)) _ _ (Grown sign (Negative n) b)
    (λ h. let k = and_parts (is_digit b) (leb (10 * n + (b - 48)) (2 ^ 63)) h in
    let d = digit_bounds b k.0 in
    let q : 10 * n + (b - 48) ≤ 2 ^ 63 = grind (arith, nat_tests) in
    record { reads = ap (λ (x : List ℕ). 45 ∷ x) (decimal_grow n b s.0 d.0 d.1 (omega arith)); allowed = a; range = (omega arith, q) })
    (λ _. tt)
