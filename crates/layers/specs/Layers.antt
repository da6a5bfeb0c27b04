-- What a layer itself is asked, and the dimension of its parts.
use Rattle.std.specs.Prelude.{◌≡◌, ℕ, not, Some, None, Option, ◌==◌, nat_le}
use Rattle.kinds.specs.declared.fault.Fault.{Fault}
use Rattle.kinds.specs.declared.fault.Question.{Question}
use Rattle.kinds.specs.declared.fault.Question.TheVariants.{Dimension, Agreement, Order, Lift, Modulus, Denominator, Memory, Tables, Terms, Monomial, Degree, Range, Divisor, Form}
use Rattle.monomials.specs.declared.dimension.Dimension.{Dimension as Ambient}
use Rattle.operators.specs.Piles.{no_if}

-- a remainder layer over parts of these dimensions, a base of this lift and a rest of this order
abbrev pub remainder_unfit : (base rest lift order : ℕ) → Question → Option Fault
remainder_unfit b r l o Agreement = no_if (not (b == r)) Agreement
remainder_unfit b r l o Order = no_if (nat_le o l) Order
remainder_unfit b r l o Dimension = None
remainder_unfit b r l o Lift = None
remainder_unfit b r l o Modulus = None
remainder_unfit b r l o Denominator = None
remainder_unfit b r l o Memory = None
remainder_unfit b r l o Tables = None
remainder_unfit b r l o Terms = None
remainder_unfit b r l o Monomial = None
remainder_unfit b r l o Degree = None
remainder_unfit b r l o Range = None
remainder_unfit b r l o Divisor = None
remainder_unfit b r l o Form = None

-- the dimension of both parts
abbrev pub OfParts : Option Ambient → Option Ambient → Ambient → Type 0
OfParts base rest d = (base ≡ Some d) × (rest ≡ Some d)
