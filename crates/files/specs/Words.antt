-- A number's word, byte by byte.
use Rattle.std.specs.Prelude.{◌≡◌, ℕ, pred, ◌+◌, ◌-◌, ◌*◌, ◌^◌, ◌<◌, ◌≤◌, Bool, true, cond, not, ◌&&◌, List, [], ◌∷◌, length, take, drop, ℤ, pos, negsuc, Some, None, decimal, Option, ◌==◌, nat_le, nat_lt, slice_index, unsigned_abs}
use Rattle.files.specs.declared.part.Part.{Part}
use Rattle.files.specs.declared.part.Part.TheVariants.{Nothing, Minus, Natural, Negative}

abbrev pub is_digit : ℕ → Bool
is_digit b = nat_le 48 b && nat_le b 57

-- the word with one more byte, where a word can go on so: no digit after a 0, no 0 after a minus, no number past the range
abbrev pub grow : Bool → Part → ℕ → Option Part
grow sign Nothing b = cond (is_digit b) (Some (Natural (b - 48))) (cond (sign && b == 45) (Some Minus) None)
grow sign Minus b = cond (is_digit b && not (b == 48)) (Some (Negative (b - 48))) None
grow sign (Natural n) b = cond (is_digit b && (nat_lt 0 n && nat_lt (10 * n + (b - 48)) (2 ^ 63))) (Some (Natural (10 * n + (b - 48)))) None
grow sign (Negative n) b = cond (is_digit b && nat_le (10 * n + (b - 48)) (2 ^ 63)) (Some (Negative (10 * n + (b - 48)))) None

-- the bytes of it
abbrev pub word : Part → List ℕ
word Nothing = []
word Minus = 45 ∷ []
word (Natural n) = decimal n
word (Negative n) = 45 ∷ decimal n

-- the number that it writes, where it may end
abbrev pub worth : Part → Option ℤ
worth Nothing = None
worth Minus = None
worth (Natural n) = Some (pos n)
worth (Negative n) = Some (negsuc (pred n))

-- the number has 64 bits with a sign
abbrev pub InRange : Part → Type 0
InRange Nothing = Unit {0}
InRange Minus = Unit {0}
InRange (Natural n) = n < 2 ^ 63
InRange (Negative n) = (0 < n) × (n ≤ 2 ^ 63)

-- a number that needs no minus, within 64 bits with a sign
abbrev pub IsNatural : ℤ → Type 0
IsNatural z = (z ≡ pos (unsigned_abs z)) × (unsigned_abs z < 2 ^ 63)

-- a minus stands only where one may
abbrev pub Allowed : Bool → Part → Type 0
Allowed sign Nothing = Unit {0}
Allowed sign Minus = sign ≡ true
Allowed sign (Natural n) = Unit {0}
Allowed sign (Negative n) = sign ≡ true

-- from the byte `from` up to `to` the text has this part of a word
pub record Reading (text : List ℕ) (from : ℕ) (sign : Bool) (to : ℕ) (part : Part) : Type 0 where
  pub forward : from ≤ to
  pub within : to ≤ length text
  pub reads : take (to - from) (drop from text) ≡ word part
  pub allowed : Allowed sign part
  pub range : InRange part

-- and no longer part of a word
pub record Longest (text : List ℕ) (from : ℕ) (sign : Bool) (to : ℕ) (part : Part) : Type 0 where
  pub reading : Reading text from sign to part
  pub stops : to < length text → grow sign part (slice_index text to) ≡ None
