use Rattle.std.proofs.Common.{subst}
use Rattle.pks_terms.specs.Views.{problem_of}
use Rattle.pks_explain.specs.EntryViews.{entries_of}
use Rattle.pks_explain.specs.Accepted.{AreProved}
use Rattle.pks_explain.proofs.explaining.tested_owed.Goals as goal

pub returns : goal.returns
returns c = subst (λ owed. AreProved (problem_of c.args.p.now) owed (entries_of c.in_ok-entries.entries.items)) c.in_ok-all.ensures c.in_ok-entries.ensures
