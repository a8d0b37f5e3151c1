use Rattle.std.proofs.Common.{◌∙◌}
use Rattle.pks_terms.specs.Reasons.{is_needed}
use Rattle.pks_terms.specs.Views.{problem_of}
use Rattle.pks_terms.specs.Views.{literal_of}
use Rattle.pks_proof_lines.specs.ProofViews.{path_of}
use Rattle.pks_proof_cited.specs.CitedViews.{judge_of}
use Rattle.pks_proof.proofs.Deeds.{deed_from_is}
use Rattle.pks_proof.proofs.accepting.needs.Goals as goal

pub returns-in-Some : goal.returns-in-Some
returns-in-Some c = c.is_needed.ensures ∙ deed_from_is (problem_of c.args.p.now) (path_of c.args.path.now) (judge_of c.args.c.now) c.args.c.now.moment c.in-Some.d (λ j k es. is_needed j k es (literal_of c.args.l.now)) c.in-Some.ensures
