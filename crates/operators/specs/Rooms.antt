-- Room for tables in lent slices.
use Rattle.std.specs.Prelude.{◌≡◌, ℕ, ◌*◌, ◌≤◌, Bool, ◌&&◌, not, List, nat_le, Some, None, Err, Option, Result}
use Rattle.kinds.specs.declared.fault.Fault.{Fault}
use Rattle.kinds.specs.declared.fault.Question.{Question}
use Rattle.kinds.specs.declared.fault.Question.TheVariants.{Tables}
use Rattle.monomials.specs.declared.dimension.Dimension.{Dimension}
use Rattle.monomials.specs.declared.dimension.Dimension.TheVariants.{Plane, Space}
use Rattle.monomials.specs.Dimensions.{size_of, dimension_of}
use Rattle.operators.specs.Piles.{no_if, or_else, unpiled}

-- how many values n tables have
abbrev pub tables_of : Dimension → ℕ → ℕ
tables_of Plane n = 91 * n
tables_of Space n = 455 * n

-- slices of these lengths hold a source, a target and n working tables, of which there can be no more than 32 bits count
abbrev pub roomy : Dimension → (n source target work : ℕ) → Bool
roomy d n source target work = nat_le n 4294967295 && (nat_le (size_of d) source && (nat_le (size_of d) target && nat_le (tables_of d n) work))

pub record Roomy (d : Dimension) (n source target work : ℕ) : Type 0 where
  pub countable : n ≤ 4294967295
  pub for_source : size_of d ≤ source
  pub for_target : size_of d ≤ target
  pub for_work : tables_of d n ≤ work

-- the question on room, of a pile of a dimension that is known
abbrev pub cramped : Option Dimension → (n source target work : ℕ) → Option Fault
cramped None n source target work = None
cramped (Some d) n source target work = no_if (not (roomy d n source target work)) Tables

-- every question on a pile alone is answered with yes, and this is its dimension
abbrev pub Ready : (outside : Option Fault) → (unfit : Question → Option Fault) → (given : ℕ) → Dimension → Type 0
Ready outside unfit given d = (unpiled outside unfit ≡ None) × (dimension_of given ≡ Some d)

-- the refusal of a call under the questions that come before any value: those on the pile, and then that on room
abbrev pub unready : (outside : Option Fault) → (unfit : Question → Option Fault) → (given need source target work : ℕ) → Option Fault
unready outside unfit given need source target work = or_else (unpiled outside unfit) (cramped (dimension_of given) need source target work)

-- a call that is refused so touches none of its slices
abbrev pub Untouched : {V T : Type 0} → Option Fault → Result T Fault → (source source' target target' work work' : List V) → Type 0
Untouched q r s s' t t' w w' = (e : Fault) → q ≡ Some e → (r ≡ Err e) × ((s' ≡ s) × ((t' ≡ t) × (w' ≡ w)))
