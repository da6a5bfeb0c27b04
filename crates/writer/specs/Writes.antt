-- What is written into a lent text.
use Rattle.std.specs.Prelude.{◌≡◌, ℕ, ◌+◌, ◌≤◌, List, ◌++◌, length, take, drop}

-- of e, the bytes from the place at up to `to` are bs now, and the others are as they were
pub record Put (e : List ℕ) (at : ℕ) (bs x : List ℕ) (to : ℕ) : Type 0 where
  pub place : to ≡ at + length bs
  pub within : to ≤ length e
  pub is : x ≡ take at e ++ (bs ++ drop to e)
