-- A call's outcome against the refusal that the rules give: it is accepted exactly if there is none.
use Rattle.std.specs.Prelude.{◌≡◌, Some, None, Ok, Err, Option, Result}
use Rattle.kinds.specs.declared.fault.Fault.{Fault}

abbrev pub Told : {T : Type 0} → Option Fault → Result T Fault → Type 0
Told q (Ok v) = q ≡ None
Told q (Err e) = q ≡ Some e
