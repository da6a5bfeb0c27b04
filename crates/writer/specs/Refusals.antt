-- The writing of a refusal.
use Rattle.std.specs.Prelude.{ℕ, List, [], ◌∷◌, ◌++◌, codes, decimal}
use Rattle.kinds.specs.declared.fault.Refusal.{Refusal}

-- the line of the names of its values
unfoldable pub refusal_names : List ℕ
refusal_names = codes "number depth place" ++ (10 ∷ [])

-- the line of its values
abbrev pub refusal_line : Refusal → List ℕ
refusal_line r = decimal r.number ++ (32 ∷ (decimal r.depth ++ (32 ∷ (decimal r.place ++ (10 ∷ [])))))
