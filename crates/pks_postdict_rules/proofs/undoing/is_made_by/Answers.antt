use Rattle.pks_postdict_rules.specs.Changes.{signature_in, before_in, some_effects}
use Rattle.pks_postdict_rules.proofs.Effects.{none_may}
use Rattle.pks_postdict_rules.proofs.undoing.is_made_by.Goals as goal

pub returns-in-Clear : goal.returns-in-Clear
returns-in-Clear c = rw c.in-Clear.is (none_may (signature_in c.args.change.now) (before_in c.args.change.now) (some_effects c.args.change.now c.args.others.now))
