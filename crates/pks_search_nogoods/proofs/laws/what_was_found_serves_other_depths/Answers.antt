use Rattle.std.proofs.Common.{◌≤◌, min, arith}
use Rattle.pks_terms.specs.Trees.{cost}
use Rattle.pks_search_nogoods.proofs.Finding.{found_serves}
use Rattle.pks_search_nogoods.proofs.laws.what_was_found_serves_other_depths.Goals as goal

pub returns : goal.returns
returns c = λ p h t n most m limit v found bound deep cheap.
    let least : min m (min (cost p t) limit) ≤ n = omega (arith, bound) in
    found_serves p v h t n most found m limit least deep cheap
