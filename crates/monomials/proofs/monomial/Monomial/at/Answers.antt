use Rattle.std.proofs.Common.{◌≡◌, rules, sym, ◌∙◌}
use Rattle.std.proofs.lemmas.Iterator.Adapters.{option_map_id}
use Rattle.std.proofs.lemmas.Iterator.Consumers.{nth_from_yields_List, YieldsList-from_first}
use Rattle.monomials.specs.Places.{found_at}
use Rattle.monomials.proofs.Listed.{found}
use Rattle.monomials.proofs.monomial.Monomial.at.Goals as goal

pub returns : goal.returns
returns c =
    let road = YieldsList-from_first (λ x. x) (λ rest. rest) _ c.monomials.ensures.items in
    let e : c.nth.result ≡ found_at c.args.dimension c.args.place =
    sym (option_map_id c.nth.result)
    ∙ nth_from_yields_List c.nth.result _ c.args.place c.nth.ensures.ran road
    ∙ found c.args.dimension c.args.place in
    search rules
