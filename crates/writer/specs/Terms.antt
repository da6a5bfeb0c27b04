-- The file of a table.
use Rattle.std.specs.Prelude.{ℕ, cond, List, [], ◌∷◌, ◌++◌}
use Rattle.files.specs.declared.row.Row.{Row}
use Rattle.files.specs.Form.{line, names}
use Rattle.kinds.specs.declared.pairs.Pair.{Pair}
use Rattle.kinds.specs.Bounded.{is_zero}
use Rattle.kinds.specs.Pairs.{mean, put}
use Rattle.monomials.specs.declared.dimension.Dimension.{Dimension}
use Rattle.monomials.specs.declared.monomial.Monomial.{Monomial}
use Rattle.monomials.specs.Places.{monomials_from}

-- the values of a term
abbrev pub row_of : Monomial → Pair → Row
row_of m q = record { a = m.a; b = m.b; c = m.c; num = q.num; den = q.den }

-- the line of a coefficient in lowest terms, or none of a zero
abbrev pub term : Monomial → Pair → List ℕ
term m p = cond (is_zero (mean p)) [] (line (row_of m (put (mean p))))

-- the lines of the coefficients beside these monomials
abbrev pub terms : List Monomial → List Pair → List ℕ
terms [] ps = []
terms (m ∷ ms) [] = []
terms (m ∷ ms) (p ∷ ps) = term m p ++ terms ms ps

-- the line of names, and the terms of a table by place
abbrev pub table_written : Dimension → List Pair → List ℕ
table_written d ps = names ++ terms (monomials_from d 0) ps
