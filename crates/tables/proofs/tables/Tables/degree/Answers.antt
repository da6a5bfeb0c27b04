use Rattle.std.proofs.Common.{◌≤◌, not, IfSome, rules, sym, subst}
use borrow.Author.Tests.{tests}
use Rattle.std.proofs.lemmas.Iterator.{YieldsList-from_slice, YieldsList-from_map, YieldsList-from_zip}
use Rattle.std.proofs.lemmas.Iterator.Consumers.{YieldsList-from_first, YieldsList-from_filter, YieldsList-at}
use Rattle.kinds.specs.Arith.{zero_test}
use Rattle.monomials.specs.Places.{exponents}
use Rattle.tables.proofs.Lasts.{last_from_yields_List, last_degree_low}
use Rattle.tables.proofs.tables.Tables.degree.Goals as goal

pub returns-clause-value : goal.returns-clause-value
returns-clause-value g c =
    last_from_yields_List c.last.result c.last.ensures.ran
    (YieldsList-from_map _ (λ p. exponents p.0)
    (YieldsList-at c.map.ensures.source
    (YieldsList-from_filter _ (λ p. not (zero_test (g.K.Kind.arith c.args.self.kind.now) p.1))
    (YieldsList-at c.filter.ensures.source (YieldsList-from_zip (YieldsList-from_first (λ x. x) (λ rest. rest) _ (cc)) (YieldsList-from_slice c.args.table.now (cc))))
    c.filter.ensures.closure (λ x b q k. search (rules, tests))))
    c.map.ensures.closure (λ x r q k. search rules))

pub returns-clause-bound : goal.returns-clause-bound
returns-clause-bound g c =
    subst (λ r. IfSome r (λ n. n ≤ 12)) (sym (returns-clause-value g c)) (last_degree_low _ c.args.self.dimension c.args.table.now)
