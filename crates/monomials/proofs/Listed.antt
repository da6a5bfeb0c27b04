-- The list of a table's monomials, as its iterator gives them.
use Rattle.std.proofs.Common.{◌≡◌, ℕ, suc, ◌+◌, ◌-◌, ◌<◌, ◌≤◌, Bool, true, false, [], ◌∷◌, length, get_or, map, nat_lt, Some, slice_get, sym, refl, ap, ◌∙◌, subst, arith}
use Rattle.std.specs.Iterator.{YieldsFirst}
use Rattle.std.specs.Iterator.Runs.{YieldsInOrder}
use Rattle.std.specs.List.{All, range_with_len}
use Rattle.std.proofs.iter.runs.Sources.{from_front, as_is}
use Rattle.std.proofs.lemmas.Bool.{ltb-true, ltb-false, cond-true, cond-false}
use Rattle.std.proofs.lemmas.List.FromFn.{length-map-range_with_len, get_or-map-range_with_len}
use Rattle.std.proofs.lemmas.Option.{slice_get-get_or, slice_get_past}
use Rattle.monomials.specs.declared.dimension.Dimension.{Dimension}
use Rattle.monomials.specs.declared.monomial.Monomial.{Monomial}
use Rattle.monomials.specs.Dimensions.{size_of}
use Rattle.monomials.specs.Places.{exponents, monomial_at, monomials_from, found_at}
use Rattle.monomials.proofs.Walks.{at_low}

pub count_from : (d : Dimension) (p : ℕ) → length (monomials_from d p) ≡ size_of d - p
unfolding monomials_from
count_from d p = length-map-range_with_len (monomial_at d) p (size_of d - p)

pub from_end : (d : Dimension) (p : ℕ) → size_of d ≤ p → monomials_from d p ≡ []
unfolding monomials_from
from_end d p h = let e : size_of d - p ≡ 0 = omega arith in ap (λ n. map (monomial_at d) (range_with_len p n)) e

pub from_here : (d : Dimension) (p : ℕ) (m : Monomial) → p < size_of d → m ≡ monomial_at d p → monomials_from d p ≡ m ∷ monomials_from d (p + 1)
unfolding monomials_from
from_here d p m h e =
    let n : size_of d - p ≡ suc (size_of d - (p + 1)) = omega arith in
    ap (λ n. map (monomial_at d) (range_with_len p n)) n ∙ ap (λ k. k ∷ map (monomial_at d) (range_with_len (p + 1) (size_of d - (p + 1)))) (sym e)

-- the item at i of all a table's monomials
pub item_at : (d : Dimension) (i : ℕ) (m : Monomial) → i < size_of d → get_or (monomials_from d 0) i m ≡ monomial_at d i
unfolding monomials_from
item_at d i m h = get_or-map-range_with_len (monomial_at d) 0 (size_of d - 0) i i m (omega arith) (omega arith)

pub found : (d : Dimension) (i : ℕ) → slice_get (monomials_from d 0) i ≡ found_at d i
found d i = go (nat_lt i (size_of d)) refl
  where
    go : (t : Bool) → nat_lt i (size_of d) ≡ t → slice_get (monomials_from d 0) i ≡ found_at d i
    go true e =
        let lt : i < size_of d = ltb-true _ _ e in
        slice_get-get_or (monomials_from d 0) i (monomial_at d i) (omega (arith, count_from d 0))
        ∙ ap Some (item_at d i (monomial_at d i) lt)
        ∙ sym (cond-true _ _ _ e)
    go false e =
        let le : size_of d ≤ i = ltb-false _ _ e in
        slice_get_past (monomials_from d 0) i (omega (arith, count_from d 0)) ∙ sym (cond-false (nat_lt i (size_of d)) _ _ e)

-- each run of the iterator gives the items that it has left
pub runs_in_order : YieldsInOrder (YieldsFirst {A = Monomial} (λ rest. rest)) (λ rest. rest)
runs_in_order p s =
    as_is p p.from
    (from_front (YieldsFirst {A = Monomial} (λ rest. rest)) (λ x. x) (λ rest. rest) (λ s t h. ap length h.0) (λ s x t h. h) p s)

pub all_low : (d : Dimension) → All (λ m. exponents m ≤ 12) (monomials_from d 0)
all_low d k m h = subst (λ n. exponents n ≤ 12) (sym (item_at d k m (omega (arith, count_from d 0)))) (at_low d k (omega (arith, count_from d 0)))
