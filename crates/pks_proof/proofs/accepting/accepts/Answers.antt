use Rattle.std.proofs.Common.{◌≡◌, sym, ◌∙◌, subst, true}
use Rattle.pks_terms.specs.Accepting.{accepts}
use Rattle.pks_terms.specs.Views.{literal_of, problem_of}
use Rattle.pks_proof_lines.specs.ProofViews.{lines_of, path_of}
use Rattle.pks_proof_lines.proofs.Accepted.{accepted_true}
use Rattle.pks_proof.proofs.accepting.accepts.Goals as goal

pub returns-clause-law : goal.returns-clause-law
returns-clause-law c =
    let p = problem_of c.args.p.now in
    let path = path_of c.args.path.now in
    let proof = lines_of c.args.proof.now in
    let l = literal_of c.args.l.now in
    let says : c.is_accepted.result ≡ accepts p path proof l =
    subst (λ xs. c.is_accepted.result ≡ accepts p path (lines_of xs) l) c.as_slice-2.ensures
    (subst (λ xs. c.is_accepted.result ≡ accepts p (path_of xs) (lines_of c.as_slice-2.result.now) l) c.as_slice.ensures c.is_accepted.ensures) in
    λ h w w' typed steps start goes goes' seen.
    let yes : accepts p path proof l ≡ true = sym says ∙ h in
    (accepted_true p path w typed steps start.first goes proof l yes, accepted_true p path w' typed steps start.second goes' proof l yes)
