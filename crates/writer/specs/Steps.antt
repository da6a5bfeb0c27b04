-- How a writer goes on in its text.
use Rattle.std.specs.Prelude.{◌≡◌, ℕ, ◌+◌, ◌≤◌, List, length}
use Rattle.writer.specs.declared.write.Writer.{Writer}
use Rattle.writer.specs.Writes.{Put}

-- there is room for the bytes bs after what was written
abbrev pub Room : Writer → List ℕ → Type 0
Room w bs = w.at + length bs ≤ 16384

-- the lent text is the same one still, and the bytes bs are written in it after what was written
pub record WritesOn (w : Writer) (bs : List ℕ) (v : Writer) : Type 0 where
  pub lent : v.text.ghost_name ≡ w.text.ghost_name
  pub put : Put w.text.now w.at bs v.text.now v.at
