use Rattle.std.proofs.Common.{Some, rules, sym, ap, ◌∙◌}
use borrow.Author.Tests.{tests}
use Rattle.std.specs.Option.{option_map}
use Rattle.std.proofs.lemmas.Iterator.{YieldsList-from_slice}
use Rattle.std.proofs.lemmas.Iterator.Search.{position_from_yields_List}
use Rattle.kinds.specs.declared.fault.Question.TheVariants.{Monomial}
use Rattle.kinds.specs.Faults.{fault}
use Rattle.tables.proofs.Misplaced.{out, misplaced_is}
use Rattle.tables.proofs.terms.ask_monomials.Goals as goal

pub returns-in-Some : goal.returns-in-Some
returns-in-Some g c =
    let found = position_from_yields_List (out c.args.dimension) _ _ c.position.result c.position.ensures.ran (YieldsList-from_slice c.args.terms.now (cc)) (λ x b q k. search (rules, tests)) in
    misplaced_is c.args.dimension c.args.terms.now
    ∙ ap (option_map (fault Monomial 0)) (sym found ∙ c.in-Some.is)
    ∙ ap Some (sym c.no.ensures)

pub returns-in-None : goal.returns-in-None
returns-in-None g c =
    let found = position_from_yields_List (out c.args.dimension) _ _ c.position.result c.position.ensures.ran (YieldsList-from_slice c.args.terms.now (cc)) (λ x b q k. search (rules, tests)) in
    misplaced_is c.args.dimension c.args.terms.now ∙ ap (option_map (fault Monomial 0)) (sym found ∙ c.in-None.is)
