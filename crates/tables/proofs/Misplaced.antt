-- The first term that has no place, as the position of one.
use Rattle.std.proofs.Common.{◌≡◌, ℕ, ◌+◌, Bool, true, false, not, List, [], ◌∷◌, position, sym, refl, ap, ◌∙◌}
use Rattle.std.specs.List.{position_from}
use Rattle.std.specs.Option.{option_map}
use Rattle.std.proofs.lemmas.Iterator.Adapters.{position_from-zero}
use Rattle.kinds.specs.declared.fault.Question.TheVariants.{Monomial}
use Rattle.kinds.specs.Faults.{fault}
use Rattle.monomials.specs.declared.dimension.Dimension.{Dimension}
use Rattle.monomials.specs.Places.{fits}
use Rattle.tables.specs.declared.terms.Term.{Term}
use Rattle.tables.specs.Terms.{misplaced}

module _ {V : Type 0} (d : Dimension) where
  abbrev pub out : Term V → Bool
  out t = not (fits d t.monomial)

  misplaced_from : (i : ℕ) (ts : List (Term V)) → misplaced d i ts ≡ option_map (fault Monomial 0) (position_from out i ts)
  unfolding misplaced
  misplaced_from i [] = refl
  misplaced_from i (t ∷ ts) = go (fits d t.monomial) refl (misplaced_from (i + 1) ts)
    where
      go : (b : Bool) → fits d t.monomial ≡ b → misplaced d (i + 1) ts ≡ option_map (fault Monomial 0) (position_from out (i + 1) ts) → misplaced d i (t ∷ ts) ≡ option_map (fault Monomial 0) (position_from out i (t ∷ ts))
      go true e h = rw e h
      go false e h = rw e refl

  pub misplaced_is : (ts : List (Term V)) → misplaced d 0 ts ≡ option_map (fault Monomial 0) (position out ts)
  misplaced_is ts = misplaced_from 0 ts ∙ ap (option_map (fault Monomial 0)) (sym (position_from-zero out ts))
