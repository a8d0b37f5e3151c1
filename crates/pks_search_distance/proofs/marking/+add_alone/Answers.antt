use Rattle.pks_search_distance.specs.Marked.{landmarks_of}
use Rattle.pks_search_distance.proofs.Gathering.{marks_split, one_pushed}
use Rattle.pks_search_distance.proofs.marking.+add_alone.Goals as goal

pub returns-in_ok-add_alone : goal.returns-in_ok-add_alone
returns-in_ok-add_alone t c =
    marks_split c.args.wanted.now _ (landmarks_of c.args.to.now.items) (landmarks_of c.push.new.self.items) (landmarks_of c.add_alone.new.to.items) c.in-len1-up.len_at_least
    (one_pushed _ c.args.to.now.items c.in_ok-one.one c.push.new.self.items c.in_ok-one.ensures c.in_ok-push.ensures.items) c.in_ok-add_alone.ensures
