use Rattle.std.proofs.Common.{◌≤◌, min, arith}
use Rattle.pks_terms.specs.Trees.{cost}
use Rattle.pks_search_nogoods.proofs.Finding.{found_rules_out}
use Rattle.pks_search_nogoods.proofs.laws.what_was_found_rules_out_lower_limits.Goals as goal

pub returns : goal.returns
returns c = λ p h t n most m limit v found bound dear.
    let least : min m (min (cost p t) limit) ≤ n = omega (arith, bound) in
    found_rules_out p v h t n most found m limit least dear
