use Rattle.std.proofs.Common.{◌∙◌, w64, SFits, rules}
use Rattle.std.proofs.lemmas.Int.{to_z-of_z}
use Rattle.files.proofs.Stand.{passes, passes_then, stands_size, stands_value, size_fits, value_fits, cell_stands}
use Rattle.files.proofs.line.cell_values.Goals as goal

pub returns : goal.returns
returns c =
    let f : SFits w64 c.value-knum.result = search rules in
    let g : SFits w64 c.value-kden.result = search rules in
    let k1 = c.in_ok-number.ensures in
    let k2 = c.in_ok-number-2.ensures in
    let k3 = c.in_ok-number-3.ensures in
    let e2 = to_z-of_z w64 c.value-knum.result f ∙ c.value-knum.ensures in
    let e3 = to_z-of_z w64 c.value-kden.result g ∙ c.value-kden.ensures in
    let l1 = passes k1 (stands_size c.size-d.result c.size-d.ensures k1.read) in
    let l2 = passes_then l1 k2 (stands_value _ e2 k2.read) in
    let l3 = passes_then l2 k3 (stands_value _ e3 k3.read) in
    record {
      kept = l3.kept;
      read = (cell_stands _ _ _ l3.read, record { d = size_fits _ c.size-d.ensures k1.read; kden = value_fits _ e3 k3.read });
    }
