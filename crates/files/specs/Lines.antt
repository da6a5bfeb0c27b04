-- What is said of a line that was passed.
use Rattle.std.specs.Prelude.{◌≡◌, ℕ, ◌+◌, ◌≤◌, List, ◌++◌, length, drop, Ok, Err, Result}
use Rattle.files.specs.declared.misfit.Misfit.{Misfit}
use Rattle.files.specs.declared.read.Cell.{Cell}
use Rattle.files.specs.declared.row.Row.{Row}
use Rattle.files.specs.Form.{line, cell_line, Fits, CellFits}

-- the bytes bs stand in the text from the place `at` up to `to`
pub record Stands (text : List ℕ) (at : ℕ) (bs : List ℕ) (to : ℕ) : Type 0 where
  pub place : to ≡ at + length bs
  pub within : to ≤ length text
  pub rest : drop at text ≡ bs ++ drop to text

-- the place e lies in the text, and not before `at`
pub record Ahead (text : List ℕ) (at e : ℕ) : Type 0 where
  pub forward : at ≤ e
  pub within : e ≤ length text

abbrev pub Headed : List ℕ → ℕ → List ℕ → ℕ → Result (Unit {0}) Misfit → Type 0
Headed text at bs to (Ok u) = Stands text at bs to
Headed text at bs to (Err e) = Ahead text at e.place

abbrev pub Lined : List ℕ → ℕ → ℕ → Result Row Misfit → Type 0
Lined text at to (Ok r) = Stands text at (line r) to × Fits r
Lined text at to (Err e) = Ahead text at e.place

abbrev pub CellLined : List ℕ → ℕ → ℕ → Result Cell Misfit → Type 0
CellLined text at to (Ok c) = Stands text at (cell_line c) to × CellFits c
CellLined text at to (Err e) = Ahead text at e.place
