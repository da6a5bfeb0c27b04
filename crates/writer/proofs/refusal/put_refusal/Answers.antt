use Rattle.std.proofs.Common.{◌∙◌, append_assoc, arith, rules}
use Rattle.writer.specs.Refusals.{refusal_names}
use Rattle.writer.proofs.Lengths.{number_long}
use Rattle.writer.proofs.Puts.{writes_then, put_start}
use Rattle.writer.proofs.refusal.put_refusal.Goals as goal

pub number-requires : goal.number-requires
number-requires c = omega (arith, number_long c.args.refusal.number 32 (search rules))

pub number-requires-2 : goal.number-requires-2
number-requires-2 c = omega (arith, number_long c.args.refusal.number 32 (search rules), number_long c.args.refusal.depth 32 (search rules))

pub number-requires-3 : goal.number-requires-3
number-requires-3 c =
    omega (arith, number_long c.args.refusal.number 32 (search rules), number_long c.args.refusal.depth 32 (search rules), number_long c.args.refusal.place 10 (search rules))

pub returns : goal.returns
unfolding refusal_names
returns c =
    let p = writes_then (writes_then (writes_then c.bytes.ensures c.number.ensures) c.number-2.ensures) c.number-3.ensures in
    let n = p.lent ∙ c.new-writer.ensures.lent in
    put_start _ _ _ _ c.new-writer.ensures.start p (simp append_assoc) (search rules) c.place.ensures
