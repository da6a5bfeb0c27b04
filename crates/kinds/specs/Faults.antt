-- Faults: for each question the case of its fault, its number, and the values that it tells.
use Rattle.std.specs.Prelude.{ℕ, ◌+◌, cond, List, ◌∷◌, ◌++◌, decimal, nat_lt}
use Rattle.kinds.specs.declared.fault.Question.{Question}
use Rattle.kinds.specs.declared.fault.Question.TheVariants.{Dimension, Agreement, Order, Lift, Modulus, Denominator, Memory, Tables, Terms, Monomial, Degree, Range, Divisor, Form}
use Rattle.kinds.specs.declared.fault.Refusal.{Refusal}
use Rattle.kinds.specs.declared.fault.Fault.{Fault}
use Rattle.kinds.specs.declared.fault.Fault.TheVariants.{Input, Size, Inverse}

abbrev pub refusal : ℕ → ℕ → ℕ → Refusal
refusal n d p = record { number = n; depth = d; place = p }

-- the fault of a question answered with no: at a depth, at a place
abbrev pub fault : Question → ℕ → ℕ → Fault
fault Dimension d p = Input (refusal 1 d p)
fault Agreement d p = Input (refusal 2 d p)
fault Order d p = Input (refusal 3 d p)
fault Lift d p = Input (refusal 4 d p)
fault Modulus d p = Input (refusal 5 d p)
fault Denominator d p = Input (refusal 6 d p)
fault Memory d p = Size (refusal 7 d p)
fault Tables d p = Size (refusal 8 d p)
fault Terms d p = Size (refusal 9 d p)
fault Monomial d p = Input (refusal 10 d p)
fault Degree d p = Size (refusal 11 d p)
fault Range d p = Size (refusal 12 d p)
fault Divisor d p = Inverse (refusal 13 d p)
fault Form d p = Input (refusal 14 d p)

-- what a fault tells
abbrev pub told : Fault → Refusal
told (Input r) = r
told (Size r) = r
told (Inverse r) = r

abbrev pub with_told : Fault → Refusal → Fault
with_told (Input _) r = Input r
with_told (Size _) r = Size r
with_told (Inverse _) r = Inverse r

-- what is printed for a refusal: its three numbers, parted by single spaces
abbrev pub refusal_text : Refusal → List ℕ
refusal_text r = decimal r.number ++ (32 ∷ (decimal r.depth ++ (32 ∷ decimal r.place)))

-- the same fault at another place
abbrev pub at_place : ℕ → Fault → Fault
at_place p f = with_told f (refusal (told f).number (told f).depth p)

-- one more layer above the operator that failed; depths stop at the largest number of 32 bits
abbrev pub one_deeper : ℕ → ℕ
one_deeper d = cond (nat_lt d 4294967295) (d + 1) d

abbrev pub deepened : Fault → Fault
deepened f = with_told f (refusal (told f).number (one_deeper (told f).depth) (told f).place)
