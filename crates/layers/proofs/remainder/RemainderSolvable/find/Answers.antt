use Rattle.std.proofs.Common.{rules, ◌≡◌, ◌≤◌, length, sym, ap, ◌∙◌, arith}
use Rattle.monomials.specs.Dimensions.{size_of, dimension_of}
use Rattle.layers.specs.Layers.{OfParts}
use Rattle.layers.proofs.Agreed.{agreed}
use Rattle.layers.proofs.Kept.{put_back}
use Rattle.layers.proofs.remainder.RemainderSolvable.find.Goals as goal

pub returns-clause-source : goal.returns-clause-source
returns-clause-source g c = λ ready.
    let d = c.args.tables.dimension in
    let alike : g.B.Shape.given c.args.self.now.base ≡ g.R.Shape.given c.args.self.now.rest = search agreed in
    let parts : OfParts (dimension_of (g.B.Shape.given c.args.self.now.base)) (dimension_of (g.R.Shape.given c.args.self.now.rest)) d = (ready.1, ap dimension_of (sym alike) ∙ ready.1) in
    let kept = c.split_at_mut-kept.result.0.now in
    let fits : size_of d ≤ length kept = omega (arith, c.split_at_mut-kept.ensures.front_len, c.size-size.ensures) in
    put_back (size_of d) c.args.source.now c.turns-found.new.source kept c.copy.new.to c.copy-2.new.to
    (search rules) (search rules) c.in_ok-room_asked.ensures.room.for_source fits (search rules) (search rules)
