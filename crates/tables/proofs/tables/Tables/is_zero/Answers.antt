use Rattle.std.proofs.Common.{rules, sym, ◌∙◌}
use borrow.Author.Tests.{tests}
use Rattle.std.proofs.lemmas.Iterator.{YieldsList-from_slice, YieldsList-from_take}
use Rattle.std.proofs.lemmas.Iterator.Search.{all_from_yields_List}
use Rattle.kinds.specs.Arith.{zero_test}
use Rattle.monomials.specs.Dimensions.{size_of}
use Rattle.tables.proofs.Zeros.{all_zero_is}
use Rattle.tables.proofs.tables.Tables.is_zero.Goals as goal

pub returns : goal.returns
returns g c =
    all_from_yields_List (zero_test (g.K.Kind.arith c.args.self.kind.now)) _ _ c.all.result c.all.ensures.ran
    (YieldsList-from_take (size_of c.args.self.dimension) (YieldsList-from_slice c.args.table.now (cc)) (cc))
    (λ x b q k. search (rules, tests))
    ∙ sym (all_zero_is _ c.args.table.now (size_of c.args.self.dimension))
