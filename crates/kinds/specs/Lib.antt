-- definitions that contracts cite
pub mod Faults
pub mod Arith
pub mod Bounded
pub mod Fractions
pub mod Pairs
pub mod Texts
pub mod Residues
pub mod FractionArith
pub mod ResidueArith
-- lemmas that FractionArith rests on
pub mod Sound
pub mod Meanings
