use Rattle.pks_terms.specs.Views.{literals_in}
use Rattle.pks_search_distance.proofs.Gathering.{asks_it}
use Rattle.pks_search_distance.proofs.marking.add_pre.Goals as goal

pub returns-clause-asked : goal.returns-clause-asked
returns-clause-asked c _ =
    asks_it c.args.x.now c.args.place c.as_slice.result.now c.in-Some.l.now (literals_in c.add_once.new.to.items) c.as_slice.ensures.value c.in-Some.ensures.lookup.0 c.in-Some.ensures.lookup.1 c.in_ok-add_once.ensures.added
