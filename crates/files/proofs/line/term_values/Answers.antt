use Rattle.std.proofs.Common.{◌∙◌, w64, SFits, rules}
use Rattle.std.proofs.lemmas.Int.{to_z-of_z}
use Rattle.files.proofs.Stand.{passes, passes_then, stands_size, stands_value, size_fits, value_fits, row_stands}
use Rattle.files.proofs.line.term_values.Goals as goal

pub returns : goal.returns
returns c =
    let f : SFits w64 c.value-num.result = search rules in
    let g : SFits w64 c.value-den.result = search rules in
    let k1 = c.in_ok-number.ensures in
    let k2 = c.in_ok-number-2.ensures in
    let k3 = c.in_ok-number-3.ensures in
    let k4 = c.in_ok-number-4.ensures in
    let k5 = c.in_ok-number-5.ensures in
    let e4 = to_z-of_z w64 c.value-num.result f ∙ c.value-num.ensures in
    let e5 = to_z-of_z w64 c.value-den.result g ∙ c.value-den.ensures in
    let l1 = passes k1 (stands_size c.size-a.result c.size-a.ensures k1.read) in
    let l2 = passes_then l1 k2 (stands_size c.size-b.result c.size-b.ensures k2.read) in
    let l3 = passes_then l2 k3 (stands_size c.size-c.result c.size-c.ensures k3.read) in
    let l4 = passes_then l3 k4 (stands_value _ e4 k4.read) in
    let l5 = passes_then l4 k5 (stands_value _ e5 k5.read) in
    record {
      kept = l5.kept;
      read = (
        row_stands _ l5.read,
        record {
          a = size_fits _ c.size-a.ensures k1.read;
          b = size_fits _ c.size-b.ensures k2.read;
          c = size_fits _ c.size-c.ensures k3.read;
          den = value_fits _ e5 k5.read;
        },
      );
    }
