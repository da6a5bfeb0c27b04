-- How a reader goes on in its text.
use Rattle.std.specs.Prelude.{◌≡◌, ℕ, List}
use Rattle.files.specs.declared.reader.Reader.{Reader}

-- the text is the same still, and P is what is said of it, of the place up to which it was read, and of the one up to which it is read now
pub record ReadsOn (r s : Reader) (P : List ℕ → ℕ → ℕ → Type 0) : Type 0 where
  pub kept : s.text.now ≡ r.text.now
  pub read : P r.text.now r.at s.at
