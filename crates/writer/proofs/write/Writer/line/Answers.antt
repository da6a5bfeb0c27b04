use Rattle.std.proofs.Common.{append_assoc, w64, SFits, rules}
use Rattle.std.proofs.lemmas.Int.{to_z-of_z}
use Rattle.writer.proofs.Puts.{room_left, writes_then, row_written}
use Rattle.writer.proofs.write.Writer.line.Goals as goal

pub number-requires-5 : goal.number-requires-5
number-requires-5 c =
    let f : SFits w64 c.args.row.num = search rules in
    let g : SFits w64 c.args.row.den = search rules in
    let l4 = rw (to_z-of_z w64 c.args.row.num f) at c.number-4.ensures in
    rw (to_z-of_z w64 c.args.row.den g) (room_left _ (writes_then (writes_then (writes_then c.number.ensures c.number-2.ensures) c.number-3.ensures) l4) (simp append_assoc c.requires))

pub returns : goal.returns
returns c =
    let f : SFits w64 c.args.row.num = search rules in
    let g : SFits w64 c.args.row.den = search rules in
    let l4 = rw (to_z-of_z w64 c.args.row.num f) at c.number-4.ensures in
    let l5 = rw (to_z-of_z w64 c.args.row.den g) at c.number-5.ensures in
    row_written c.args.row (writes_then (writes_then (writes_then (writes_then c.number.ensures c.number-2.ensures) c.number-3.ensures) l4) l5)
