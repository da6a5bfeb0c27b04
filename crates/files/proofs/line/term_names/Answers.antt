use Rattle.files.specs.Form.{names}
use Rattle.files.proofs.Stand.{passes, passes_then, stands_name}
use Rattle.files.proofs.line.term_names.Goals as goal

pub returns : goal.returns
unfolding names
returns c =
    let k1 = c.in_ok-name.ensures in
    let k2 = c.in_ok-name-2.ensures in
    let k3 = c.in_ok-name-3.ensures in
    let k4 = c.in_ok-name-4.ensures in
    let k5 = c.in_ok-name-5.ensures in
    let l1 = passes k1 (stands_name k1.read) in
    let l2 = passes_then l1 k2 (stands_name k2.read) in
    let l3 = passes_then l2 k3 (stands_name k3.read) in
    let l4 = passes_then l3 k4 (stands_name k4.read) in
    let l5 = passes_then l4 k5 (stands_name k5.read) in
    record { kept = l5.kept; read = l5.read }
