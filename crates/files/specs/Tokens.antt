-- What the reader says of a number.
use Rattle.std.specs.Prelude.{◌≡◌, ℕ, ◌-◌, ◌<◌, ◌≤◌, Bool, true, false, List, length, take, drop, ℤ, pos, None, Ok, Err, Result, slice_index, slice_index_or, unsigned_abs}
use Rattle.std.specs.Fmt.{signed_decimal}
use Rattle.files.specs.declared.misfit.Misfit.{Misfit}
use Rattle.files.specs.declared.part.Part.{Part}
use Rattle.files.specs.declared.token.Token.{Token}
use Rattle.files.specs.declared.token.Token.TheVariants as T
use Rattle.files.specs.Words.{worth, IsNatural, Longest}

abbrev pub word_of : Token → List ℕ
word_of (T.Name w) = w.now
word_of (T.Number w z) = w.now

abbrev pub value_of : Token → ℤ
value_of (T.Name w) = pos 0
value_of (T.Number w z) = z

abbrev pub size_of : Token → ℕ
size_of (T.Name w) = 0
size_of (T.Number w z) = unsigned_abs z

abbrev pub is_name : Token → Bool
is_name (T.Name w) = true
is_name (T.Number w z) = false

-- the token is a number; its word is the part of the text from the place `at` up to the byte `end` before `to`, and writes that number
pub record Took (text : List ℕ) (at : ℕ) (sign : Bool) (end to : ℕ) (tok : Token) : Type 0 where
  pub number : is_name tok ≡ false
  pub part : word_of tok ≡ take (to - 1 - at) (drop at text)
  pub reads : word_of tok ≡ signed_decimal (value_of tok)
  pub natural : sign ≡ false → IsNatural (value_of tok)
  pub forward : at < to
  pub within : to ≤ length text
  pub ends : slice_index_or text (to - 1) 0 ≡ end

-- the longest beginning of a number's word ends at e, and there the word cannot end
pub record Stopped (text : List ℕ) (at : ℕ) (sign : Bool) (end e : ℕ) : Type 0 where
  pub forward : at ≤ e
  pub within : e ≤ length text
  pub part : Part
  pub longest : Longest text at sign e part
  pub unended : e < length text → slice_index text e ≡ end → worth part ≡ None

abbrev pub Numbered : List ℕ → ℕ → Bool → ℕ → ℕ → Result Token Misfit → Type 0
Numbered text at sign end to (Ok tok) = Took text at sign end to tok
Numbered text at sign end to (Err e) = Stopped text at sign end e.place
