use Rattle.std.proofs.Common.{◌≡◌, [], ◌∷◌, ◌++◌, ◌∙◌, subst}
use Rattle.writer.specs.Steps.{WritesOn}
use Rattle.writer.proofs.Puts.{writes_then}
use Rattle.writer.proofs.write.Writer.number.Goals as goal

pub returns-in_default : goal.returns-in_default
returns-in_default g c =
    let e : c.as_bytes.result.now ≡ g.I.Integer.text c.args.n = c.as_bytes.ensures.value ∙ c.format.ensures.text in
    subst (λ bs. WritesOn c.args.self.now (bs ++ (c.args.end ∷ [])) c.bytes-in_default-2.new.self) e (writes_then c.bytes-in_default.ensures c.bytes-in_default-2.ensures)
