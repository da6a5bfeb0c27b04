-- The writing of terms and of a cell.
use Rattle.std.specs.Prelude.{ℕ, ◌^◌, ◌<◌, List, [], ◌∷◌, ◌++◌, codes, decimal}
use Rattle.std.specs.Fmt.{signed_decimal}
use Rattle.std.specs.List.{flat_map}
use Rattle.files.specs.declared.read.Cell.{Cell}
use Rattle.files.specs.declared.row.Row.{Row}
use Rattle.files.specs.Words.{IsNatural}

-- the line of the names of a term's values
unfoldable pub names : List ℕ
names = codes "a b c num den" ++ (10 ∷ [])

-- the line of a term's values
abbrev pub line : Row → List ℕ
line r = decimal r.a ++ (32 ∷ (decimal r.b ++ (32 ∷ (decimal r.c ++ (32 ∷ (signed_decimal r.num ++ (32 ∷ (signed_decimal r.den ++ (10 ∷ [])))))))))

-- a file of terms
abbrev pub written : List Row → List ℕ
written rs = names ++ flat_map line rs

-- the line of the names of a cell's own values
unfoldable pub cell_names : List ℕ
cell_names = codes "d knum kden" ++ (10 ∷ [])

-- the line of a cell's own values
abbrev pub cell_line : Cell → List ℕ
cell_line c = decimal c.d ++ (32 ∷ (signed_decimal c.knum ++ (32 ∷ (signed_decimal c.kden ++ (10 ∷ [])))))

-- a cell
abbrev pub cell_written : Cell → List Row → List ℕ
cell_written c rs = cell_names ++ (cell_line c ++ written rs)

-- all values but the numerator are natural numbers
pub record Fits (r : Row) : Type 0 where
  pub a : r.a < 2 ^ 63
  pub b : r.b < 2 ^ 63
  pub c : r.c < 2 ^ 63
  pub den : IsNatural r.den

pub record CellFits (c : Cell) : Type 0 where
  pub d : c.d < 2 ^ 63
  pub kden : IsNatural c.kden
