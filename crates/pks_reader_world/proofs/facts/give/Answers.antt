use Rattle.std.proofs.Common.{sym, ap, ◌∙◌, option_map}
use Rattle.pks_terms.specs.Views.{term_of}
use Rattle.pks_reader_world.specs.Facts.{once_given}
use Rattle.pks_reader_world.specs.Views.{given_of}
use Rattle.pks_reader_world.proofs.Giving.{gave}
use Rattle.pks_reader_world.proofs.facts.give.Goals as goal

pub returns-in_ok-insert-clause-given : goal.returns-in_ok-insert-clause-given
returns-in_ok-insert-clause-given c = gave c.args.given.now c.insert.new.self c.in-Some.place c.in_ok-insert.ensures.keys ∙ ap (λ o. once_given (given_of c.args.given.now) (option_map term_of o)) (sym c.in-Some.is)
