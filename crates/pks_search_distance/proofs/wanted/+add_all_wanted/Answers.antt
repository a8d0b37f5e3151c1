use Rattle.pks_terms.specs.Views.{literals_in}
use Rattle.pks_search_distance.proofs.Wanting.{adds_split}
use Rattle.pks_search_distance.proofs.wanted.+add_all_wanted.Goals as goal

pub returns-in_ok-add_all_wanted : goal.returns-in_ok-add_all_wanted
returns-in_ok-add_all_wanted t c = adds_split c.args.aims.now _ (literals_in c.args.to.now.items) (literals_in c.add_wanted.new.to.items) (literals_in c.add_all_wanted.new.to.items) c.in-len1-up.len_at_least c.in_ok-add_wanted.ensures c.in_ok-add_all_wanted.ensures
