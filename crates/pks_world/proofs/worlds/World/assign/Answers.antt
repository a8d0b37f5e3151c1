use Rattle.std.proofs.Common.{sym, subst}
use Rattle.pks_terms.specs.Counts.{TermCounts}
use Rattle.pks_world.specs.Counts.{KeptCounts}
use Rattle.pks_world.proofs.Counted.{each_entry}
use Rattle.pks_world.proofs.Keeping.{valued, still_listed}
use Rattle.pks_world.proofs.worlds.World.assign.Goals as goal

pub returns-clause-world : goal.returns-clause-world
returns-clause-world c = valued c.args.self.now c.insert.new.self c.args.at c.args.d c.in_ok-insert.ensures.updates.0

pub returns-clause-places : goal.returns-clause-places
returns-clause-places c = still_listed c.args.self.now c.insert.new.self c.args.at c.args.d c.in_ok-insert.ensures.updates.0

pub returns-clause-counts : goal.returns-clause-counts
returns-clause-counts c = λ here each. record {
  atoms = each.atoms;
  places = subst KeptCounts (sym c.in_ok-insert.ensures.entries) (each_entry TermCounts _ c.args.self.now.values.entries c.args.at c.args.d here each.places);
}
