-- The questions on a pile of operators, and what an answer to them is.
use Rattle.std.specs.Prelude.{ℕ, ◌+◌, min, max, Bool, true, false, Some, None, Option}
use Rattle.kinds.specs.declared.fault.Fault.{Fault}
use Rattle.kinds.specs.declared.fault.Question.{Question}
use Rattle.kinds.specs.declared.fault.Question.TheVariants.{Dimension, Agreement, Order, Lift}
use Rattle.kinds.specs.Faults.{fault, deepened}
use Rattle.monomials.specs.declared.dimension.Dimension.{Dimension as Ambient}
use Rattle.monomials.specs.Dimensions.{dimension_of}

-- the first refusal
abbrev pub or_else : Option Fault → Option Fault → Option Fault
or_else None r = r
or_else (Some e) r = Some e

-- the refusal of a part of a layer is one layer deeper
abbrev pub deeper : Option Fault → Option Fault
deeper None = None
deeper (Some e) = Some (deepened e)

abbrev pub no_if : Bool → Question → Option Fault
no_if true q = Some (fault q 0 0)
no_if false q = None

-- whether the dimension of an operator that is no layer is neither 2 nor 3
abbrev pub unplaced : Option Ambient → Option Fault
unplaced None = Some (fault Dimension 0 0)
unplaced (Some _) = None

abbrev pub leaf_outside : ℕ → Option Fault
leaf_outside d = unplaced (dimension_of d)

-- a layer keeps four tables beyond the larger need of its parts; past the most that a call can have it stays there
abbrev pub layer_need : ℕ → ℕ → ℕ
layer_need m n = min (max m n + 4) 4294967296

-- the questions on a pile alone, number by number: that on dimensions, which comes first, and those on its layers
abbrev pub unpiled : Option Fault → (Question → Option Fault) → Option Fault
unpiled outside unfit = or_else outside (or_else (unfit Agreement) (or_else (unfit Order) (unfit Lift)))
