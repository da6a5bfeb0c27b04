-- The last degree of a chain through the coefficients that are not zero.
use Rattle.std.proofs.Common.{◌≡◌, ℕ, suc, ◌≤◌, Bool, true, false, not, List, [], ◌∷◌, map, filter, zip, Some, None, Option, IfSome, sym, refl, ap, ◌∙◌, arith}
use Rattle.std.specs.Iterator.{Drains}
use Rattle.std.specs.List.{All, last_or}
use Rattle.std.proofs.lemmas.Iterator.{YieldsList, items_from_drains}
use Rattle.std.proofs.lemmas.List.{map-id}
use Rattle.kinds.specs.Arith.{Arith, zero_test}
use Rattle.monomials.specs.declared.dimension.Dimension.{Dimension}
use Rattle.monomials.specs.declared.monomial.Monomial.{Monomial}
use Rattle.monomials.specs.Places.{exponents, monomials_from}
use Rattle.monomials.proofs.Listed.{all_low}
use Rattle.tables.specs.Degrees.{last_degree}

-- what `last` answers, of a chain that gives a list
pub last_from_yields_List : {S A : Type 0} {steps : S → Option A → S → Type 0} {s : S} {all : List A} (r : Option A) → ((xs : List A) × Drains steps s xs × (r ≡ last_or None xs)) → YieldsList steps (λ x. x) s all → r ≡ last_or None all
last_from_yields_List r h road =
    h.2 ∙ ap (last_or None) (sym (map-id h.0) ∙ items_from_drains h.0 (h.1.1.0, h.1.1.1, λ _. (h.1.0, h.1.1.2)) road)

module _ {V : Type 0} (keeps : V → Bool) where
  abbrev degrees : List Monomial → List V → List ℕ
  degrees ms xs = map (λ p. exponents p.0) (filter (λ p. keeps p.1) (zip ms xs))

  last_low : (o : Option ℕ) (ms : List Monomial) (xs : List V) → IfSome o (λ n. n ≤ 12) → All (λ m. exponents m ≤ 12) ms → IfSome (last_or o (degrees ms xs)) (λ n. n ≤ 12)
  last_low o [] xs h low = h
  last_low o (m ∷ ms) [] h low = h
  last_low o (m ∷ ms) (x ∷ xs) h low =
      let rest : All (λ m. exponents m ≤ 12) ms = λ k d lt. low (suc k) d (omega arith) in
      go (keeps x) refl (last_low (Some (exponents m)) ms xs (low 0 m (omega arith)) rest) (last_low o ms xs h rest)
    where
      go : (b : Bool) → keeps x ≡ b → IfSome (last_or (Some (exponents m)) (degrees ms xs)) (λ n. n ≤ 12) → IfSome (last_or o (degrees ms xs)) (λ n. n ≤ 12) → IfSome (last_or o (degrees (m ∷ ms) (x ∷ xs))) (λ n. n ≤ 12)
      go true e kept left = rw e kept
      go false e kept left = rw e left

pub last_degree_low : {V : Type 0} (A : Arith V) (d : Dimension) (xs : List V) → IfSome (last_degree A d xs) (λ n. n ≤ 12)
last_degree_low A d xs = last_low (λ v. not (zero_test A v)) None (monomials_from d 0) xs tt (all_low d)
