-- A table that is kept elsewhere, and put back after the writes into it.
use Rattle.std.proofs.Common.{◌≡◌, ℕ, ◌+◌, ◌≤◌, min, List, ◌++◌, length, take, drop, sym, ap, ap₂, ◌∙◌, arith, length-append, length-take-le}
use Rattle.std.proofs.lemmas.List.{take-append-drop}
use Rattle.std.proofs.Math.Seq.{take-append_seam}
use Rattle.tables.specs.Steps.{Past, copied}

restored : {V : Type 0} (n : ℕ) (xs ys kept : List V) → n ≤ length xs → n ≤ length kept → length ys ≡ length xs → Past n xs ys → copied n (copied n xs kept) ys ≡ xs
restored n xs ys kept h i l p =
    let front = take n xs in
    let all = front ++ drop n kept in
    let m : min n (min (length xs) (length kept)) ≡ n = omega arith in
    let long : length all ≡ n + length (drop n kept) = length-append front (drop n kept) ∙ ap (λ k. k + length (drop n kept)) (length-take-le n xs h) in
    let m' : min n (min (length all) (length ys)) ≡ n = omega arith in
    let again : take n all ≡ front = ap (λ k. take k all) (sym (length-take-le n xs h)) ∙ take-append_seam front (drop n kept) in
    ap (λ k. copied n (take k xs ++ drop k kept) ys) m ∙ ap (λ k. take k all ++ drop k ys) m' ∙ ap₂ ◌++◌ again p ∙ take-append-drop n xs

pub put_back : {V : Type 0} (n : ℕ) (xs ys before kept after : List V) → kept ≡ copied n xs before → after ≡ copied n kept ys → n ≤ length xs → n ≤ length before → length ys ≡ length xs → Past n xs ys → after ≡ xs
put_back n xs ys before kept after e f h i l p = f ∙ ap (λ k. copied n k ys) e ∙ restored n xs ys before h i l p
