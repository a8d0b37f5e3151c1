use Rattle.std.proofs.Common.{◌∙◌}
use Rattle.pks_terms.specs.Reasons.{is_cleared}
use Rattle.pks_terms.specs.Views.{problem_of}
use Rattle.pks_lcw.specs.Entries.{entry_of}
use Rattle.pks_proof_lines.specs.ProofViews.{path_of}
use Rattle.pks_proof_cited.specs.CitedViews.{judge_of}
use Rattle.pks_proof.proofs.Deeds.{deed_to_is}
use Rattle.pks_proof.proofs.accepting.clears.Goals as goal

pub returns-in-Some : goal.returns-in-Some
returns-in-Some c = c.is_cleared.ensures ∙ deed_to_is (problem_of c.args.p.now) (path_of c.args.path.now) (judge_of c.args.c.now) c.args.c.now.moment c.in-Some.d (λ j k es. is_cleared j k es (entry_of c.args.r.now)) c.if-c-eq0.false c.in-Some.ensures
