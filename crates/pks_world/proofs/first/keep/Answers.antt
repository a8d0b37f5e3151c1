use Rattle.std.proofs.Common.{sym, subst}
use Rattle.pks_terms.specs.Counts.{TermCounts}
use Rattle.pks_world.specs.Counts.{KeptCounts}
use Rattle.pks_world.proofs.Counted.{each_entry}
use Rattle.pks_world.proofs.Keeping.{kept_one}
use Rattle.pks_world.proofs.first.keep.Goals as goal

pub returns-clause-says : goal.returns-clause-says
returns-clause-says c = kept_one c.args.values.now.entries c.insert.new.self.entries c.args.at c.args.d c.in_ok-insert.ensures.updates.0

pub returns-clause-counts : goal.returns-clause-counts
returns-clause-counts c = λ here each. subst KeptCounts (sym c.in_ok-insert.ensures.entries) (each_entry TermCounts _ c.args.values.now.entries c.args.at c.args.d here each)
