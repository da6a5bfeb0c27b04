-- The text of a pair: its two numbers, parted by a space.
use Rattle.std.specs.Prelude.{ℕ, List, ◌∷◌, ◌++◌}
use Rattle.std.specs.Fmt.{signed_decimal}
use Rattle.kinds.specs.declared.pairs.Pair.{Pair}

abbrev pub pair_text : Pair → List ℕ
pair_text p = signed_decimal p.num ++ (32 ∷ signed_decimal p.den)
