-- What a step on a lent table leaves alone, and how it is refused where a table is not all there.
use Rattle.std.specs.Prelude.{◌≡◌, ℕ, ◌<◌, min, List, ◌++◌, length, take, drop, Err, Result}
use Rattle.kinds.specs.declared.fault.Fault.{Fault}
use Rattle.kinds.specs.declared.fault.Question.TheVariants.{Tables}
use Rattle.kinds.specs.Faults.{fault}

-- of a table of n values at the front of xs, which a step left as ys: what lies past it is as it was
abbrev pub Past : {V : Type 0} → ℕ → List V → List V → Type 0
Past n xs ys = drop n ys ≡ drop n xs

-- a slice of m values is too short for a table of n: the step is refused and touches nothing
abbrev pub Short : {V T : Type 0} → ℕ → ℕ → List V → List V → Result T Fault → Type 0
Short m n xs ys r = m < n → (r ≡ Err (fault Tables 0 0)) × (ys ≡ xs)

-- the first n values of xs in place of those of ys, as far as both go
abbrev pub copied : {V : Type 0} → ℕ → List V → List V → List V
copied n xs ys = take (min n (min (length xs) (length ys))) xs ++ drop (min n (min (length xs) (length ys))) ys
