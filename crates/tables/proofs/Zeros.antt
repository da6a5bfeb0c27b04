-- The test of each coefficient for zero.
use Rattle.std.proofs.Common.{◌≡◌, ℕ, zero, suc, ◌≤◌, ◌<◌, min, List, [], ◌∷◌, length, take, refl, ap, ◌∙◌, arith}
use Rattle.std.proofs.Math.Seq.{take-suc}
use Rattle.std.proofs.lemmas.Grind.{common_steps}
use Rattle.std.proofs.lemmas.List.Folds.{list_all-append}
use Rattle.std.specs.List.{list_all}
use Rattle.kinds.specs.Arith.{Arith, zero_test, whole_of}
use Rattle.tables.specs.Degrees.{item, all_zero}

module _ {V : Type 0} (A : Arith V) where
  all_zero_take : (xs : List V) (k : ℕ) → k ≤ length xs → all_zero A xs k ≡ list_all (zero_test A) (take k xs)
  unfolding all_zero
  all_zero_take xs zero h = refl
  all_zero_take xs (suc k) h =
      let lt : k < length xs = omega arith in
      let e = all_zero_take xs k (omega arith) in
      let t = take-suc xs k (whole_of A 0) lt in
      let s = list_all-append (zero_test A) (take k xs) (item A xs k ∷ []) in
      grind (arith, common_steps)

  pub all_zero_is : (xs : List V) (n : ℕ) → all_zero A xs (min n (length xs)) ≡ list_all (zero_test A) (take n xs)
  all_zero_is xs n = all_zero_take xs (min n (length xs)) (omega arith) ∙ ap (list_all (zero_test A)) (grind (arith, common_steps))
