use Rattle.std.proofs.Common.{◌≡◌, ◌+◌, suc, length, true, subst, arith}
use Rattle.pks_terms.specs.Accepting.{are_before}
use Rattle.pks_proof_lines.proofs.Building.{added_line}
use Rattle.pks_proof_lines.proofs.laws.allowed_lines_may_be_added.Goals as goal

pub returns : goal.returns
returns c = λ p path proof line h before allowed.
    let same : length proof + 1 ≡ suc (length proof) = omega arith in
    added_line p path proof line h (subst (λ n. are_before n line.cites ≡ true) same before) allowed
