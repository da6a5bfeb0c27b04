use Rattle.files.specs.Form.{cell_names}
use Rattle.files.proofs.Stand.{passes, passes_then, stands_name}
use Rattle.files.proofs.line.cell_names.Goals as goal

pub returns : goal.returns
unfolding cell_names
returns c =
    let k1 = c.in_ok-name.ensures in
    let k2 = c.in_ok-name-2.ensures in
    let k3 = c.in_ok-name-3.ensures in
    let l1 = passes k1 (stands_name k1.read) in
    let l2 = passes_then l1 k2 (stands_name k2.read) in
    let l3 = passes_then l2 k3 (stands_name k3.read) in
    record { kept = l3.kept; read = l3.read }
