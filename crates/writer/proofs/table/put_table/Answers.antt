use Rattle.std.proofs.Common.{◌≡◌, [], inl, inr, length, refl, ap, ◌∙◌, arith, rules}
use Rattle.std.proofs.lemmas.List.{length-append}
use Rattle.files.specs.Form.{names}
use Rattle.writer.specs.Terms.{terms}
use Rattle.writer.proofs.Puts.{writes_then, put_start}
use Rattle.writer.proofs.Terms.{begun_none, begun_more, begun_all, none_left, none_beside, term_room}
use Rattle.writer.proofs.table.put_table.Goals as goal

pub loop-m-init : goal.loop-m-init
loop-m-init c = begun_none _ _ _ _ _ (search rules) (search rules) (search rules)

pub put_coefficient-requires : goal.put_coefficient-requires
put_coefficient-requires c = term_room c.loop-m.invariant _ _ _ (omega (arith, c.bytes.ensures.put.place, c.new-writer.ensures.start.1)) c.in-Some.ensures.steps.0

pub loop-m-preserved : goal.loop-m-preserved
loop-m-preserved c =
    begun_more c.loop-m.invariant _ _ _ _ _ c.in-Some.ensures.steps.0 c.in-Some.ensures.steps.1 c.put_coefficient.ensures (length-append _ _)

pub returns : goal.returns
unfolding names
returns c =
    let t : terms c.loop-m.m-iterator.a c.loop-m.m-iterator.b.rest.now ≡ [] =
    elim c.in-None.ensures.steps [ inl s ↦ none_left _ _ s.1.0 | inr s ↦ none_beside _ _ s.1.0 ] in
    let p = writes_then c.bytes.ensures (begun_all c.loop-m.invariant t) in
    let n = p.lent ∙ c.new-writer.ensures.lent in
    record { file = put_start _ _ _ _ c.new-writer.ensures.start p refl (search rules) c.place.ensures; room = omega (arith, ap length c.new-writer.ensures.start.0, p.put.within) }
