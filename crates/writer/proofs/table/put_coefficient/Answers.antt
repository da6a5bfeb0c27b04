use Rattle.std.proofs.Common.{List, ℕ, ap, ◌∙◌, subst, sym, rules}
use Rattle.kinds.specs.Pairs.{put}
use Rattle.writer.specs.Steps.{Room, WritesOn}
use Rattle.writer.proofs.Puts.{writes_none}
use Rattle.writer.proofs.Terms.{term_line, term_none}
use Rattle.writer.proofs.table.put_coefficient.Goals as goal

pub line-requires : goal.line-requires
line-requires c =
    let t = term_line c.args.m c.args.value _ (c.from-reduced.ensures ∙ ap put c.from.ensures) (search rules) (search rules) c.if-reduced-ne0.true in
    subst (Room c.args.writer.now) t c.requires

pub returns-then-reduced-ne0 : goal.returns-then-reduced-ne0
returns-then-reduced-ne0 c =
    let t = term_line c.args.m c.args.value _ (c.from-reduced.ensures ∙ ap put c.from.ensures) (search rules) (search rules) c.if-reduced-ne0.true in
    subst (λ (bs : List ℕ). WritesOn c.args.writer.now bs c.line.new.self) (sym t) c.line.ensures

pub returns-else-reduced-ne0 : goal.returns-else-reduced-ne0
returns-else-reduced-ne0 c =
    let t = term_none c.args.m c.args.value _ (c.from-reduced.ensures ∙ ap put c.from.ensures) (search rules) c.if-reduced-ne0.false in
    subst (λ (bs : List ℕ). WritesOn c.args.writer.now bs c.args.writer.now) (sym t) (writes_none c.args.writer.now c.args.writer.now.within)
