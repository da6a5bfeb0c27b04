-- What the reader says of a name.
use Rattle.std.specs.Prelude.{◌≡◌, ℕ, ◌+◌, ◌-◌, ◌<◌, ◌≤◌, true, List, [], ◌∷◌, ◌++◌, length, take, drop, Ok, Err, Result, ◌≢◌, slice_index}
use Rattle.files.specs.declared.misfit.Misfit.{Misfit}
use Rattle.files.specs.declared.token.Token.{Token}
use Rattle.files.specs.Tokens.{word_of, is_name}

-- the first i bytes of the name stand in the text from `from` up to `to`
pub record Begun (text : List ℕ) (from : ℕ) (want : List ℕ) (to i : ℕ) : Type 0 where
  pub place : to ≡ from + i
  pub within : to ≤ length text
  pub short : i ≤ length want
  pub reads : take (to - from) (drop from text) ≡ take i want

-- the token is a name; its word is the part of the text from the place `at` up to the byte `end` before `to`, and is the name wanted
pub record Names (text : List ℕ) (at : ℕ) (want : List ℕ) (end to : ℕ) (tok : Token) : Type 0 where
  pub name : is_name tok ≡ true
  pub part : word_of tok ≡ take (to - 1 - at) (drop at text)
  pub same : word_of tok ≡ want
  pub place : to ≡ at + length want + 1
  pub within : to ≤ length text
  pub rest : drop at text ≡ want ++ (end ∷ drop to text)

-- e is the first place where the text differs from the name and the byte `end`
pub record Misnames (text : List ℕ) (at : ℕ) (want : List ℕ) (end e : ℕ) : Type 0 where
  pub forward : at ≤ e
  pub within : e ≤ length text
  pub begun : Begun text at want e (e - at)
  pub stops : e < length text → slice_index text e ≢ slice_index (want ++ (end ∷ [])) (e - at)

abbrev pub Named : List ℕ → ℕ → List ℕ → ℕ → ℕ → Result Token Misfit → Type 0
Named text at want end to (Ok tok) = Names text at want end to tok
Named text at want end to (Err e) = Misnames text at want end e.place
