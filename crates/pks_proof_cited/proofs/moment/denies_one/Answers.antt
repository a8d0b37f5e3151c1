use Rattle.std.proofs.Common.{sym, ◌∙◌}
use Rattle.pks_terms.specs.Views.{literal_of, literals_in}
use Rattle.pks_proof_cited.specs.CitedViews.{judge_of}
use Rattle.pks_proof_cited.proofs.Others.{one_denied}
use Rattle.pks_proof_cited.proofs.moment.denies_one.Goals as goal

pub returns : goal.returns
returns c = c.denies_from.ensures ∙ sym (one_denied (judge_of c.args.c.now) c.args.c.now.moment (literal_of c.args.l.now) (literals_in c.args.ls.now))
