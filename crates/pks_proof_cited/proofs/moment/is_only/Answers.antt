use Rattle.std.proofs.Common.{sym, ◌∙◌}
use Rattle.pks_terms.specs.Views.{literal_of}
use Rattle.pks_proof_cited.specs.CitedViews.{judge_of}
use Rattle.pks_proof_cited.proofs.Others.{only_left}
use Rattle.pks_proof_cited.proofs.moment.is_only.Goals as goal

pub returns : goal.returns
returns c = c.some_leaves_only.ensures ∙ sym (only_left (judge_of c.args.c.now) c.args.c.now.moment (literal_of c.args.l.now))
