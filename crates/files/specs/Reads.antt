-- What is said of a text that was read.
use Rattle.std.specs.Prelude.{◌≡◌, ℕ, ◌≤◌, List, length, take, drop, Ok, Err, Result}
use Rattle.std.specs.List.{flat_map, AllByRecursion}
use Rattle.kinds.specs.declared.fault.Fault.{Fault}
use Rattle.kinds.specs.declared.fault.Question.TheVariants.{Form}
use Rattle.kinds.specs.Faults.{fault}
use Rattle.files.specs.declared.misfit.Misfit.{Misfit}
use Rattle.files.specs.declared.read.Cell.{Cell}
use Rattle.files.specs.declared.row.Row.{Row}
use Rattle.files.specs.Form.{line, written, cell_written, Fits, CellFits}
use Rattle.files.specs.Lines.{Ahead}

-- of the rows, the first n were filled, with values that a line can have, and the others are as they were
pub record Filled (before after : List Row) (n : ℕ) : Type 0 where
  pub room : n ≤ length before
  pub fit : AllByRecursion Fits (take n after)
  pub rest : drop n after ≡ drop n before

-- the text from the place `at` on is the writing of the first n rows
abbrev pub ValuesFrom : List ℕ → ℕ → List Row → List Row → Result ℕ Misfit → Type 0
ValuesFrom text at before after (Ok n) = Filled before after n × (drop at text ≡ flat_map line (take n after))
ValuesFrom text at before after (Err e) = Ahead text at e.place

abbrev pub TermsFrom : List ℕ → ℕ → List Row → List Row → Result ℕ Misfit → Type 0
TermsFrom text at before after (Ok n) = Filled before after n × (drop at text ≡ written (take n after))
TermsFrom text at before after (Err e) = Ahead text at e.place

abbrev pub CellFrom : List ℕ → ℕ → List Row → List Row → Result Cell Misfit → Type 0
CellFrom text at before after (Ok c) = Filled before after c.count × CellFits c × (drop at text ≡ cell_written c (take c.count after))
CellFrom text at before after (Err e) = Ahead text at e.place

-- the text is refused at a place of it, or its end
abbrev pub Misfits : List ℕ → Fault → Type 0
Misfits text f = (p : ℕ) × (f ≡ fault Form 0 p) × (p ≤ length text)

-- the text is the writing of the first n rows
abbrev pub TermsRead : List ℕ → List Row → List Row → Result ℕ Fault → Type 0
TermsRead text before after (Ok n) = Filled before after n × (text ≡ written (take n after))
TermsRead text before after (Err f) = Misfits text f

-- the text is the writing of the cell with its rows
abbrev pub CellRead : List ℕ → List Row → List Row → Result Cell Fault → Type 0
CellRead text before after (Ok c) = Filled before after c.count × CellFits c × (text ≡ cell_written c (take c.count after))
CellRead text before after (Err f) = Misfits text f

-- the same of a text of at most `most` bytes: a longer one is refused, at the place `most` or before
abbrev pub CellWithin : List ℕ → ℕ → List Row → List Row → Result Cell Fault → Type 0
CellWithin text most before after (Ok c) = (length text ≤ most) × CellRead text before after (Ok c)
CellWithin text most before after (Err f) = Misfits (take most text) f
