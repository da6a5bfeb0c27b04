-- The loop over the lines of values.
use Rattle.std.proofs.Common.{ℕ, List, take}
use Rattle.std.specs.List.{flat_map}
use Rattle.files.specs.declared.reader.Reader.{Reader}
use Rattle.files.specs.declared.row.Row.{Row}
use Rattle.files.specs.Form.{line}
use Rattle.files.specs.Reads.{Filled}
use Rattle.files.proofs.Stand.{Passes}

-- the first n rows are those of the lines that were passed
pub record Through (r : Reader) (before : List Row) (s : Reader) (after : List Row) (n : ℕ) : Type 0 where
  pub passed : Passes r (flat_map line (take n after)) s
  pub filled : Filled before after n
