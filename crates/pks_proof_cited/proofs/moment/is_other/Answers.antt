use Rattle.std.proofs.Common.{sym, ◌∙◌}
use Rattle.pks_terms.specs.Views.{literal_of}
use Rattle.pks_proof_cited.specs.CitedViews.{judge_of}
use Rattle.pks_proof_cited.proofs.Others.{other_found}
use Rattle.pks_proof_cited.proofs.moment.is_other.Goals as goal

pub returns : goal.returns
returns c = c.some_has_other.ensures ∙ sym (other_found (judge_of c.args.c.now) c.args.c.now.moment (literal_of c.args.l.now))
