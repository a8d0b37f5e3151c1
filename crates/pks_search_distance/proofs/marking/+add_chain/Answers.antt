use Rattle.pks_search_distance.specs.Marked.{landmark_of, landmarks_of}
use Rattle.pks_search_distance.proofs.Gathering.{behind_more}
use Rattle.pks_search_distance.proofs.marking.+add_chain.Goals as goal

pub returns : goal.returns
returns t c =
    behind_more (landmark_of c.args.c.now) c.args.to.now.items c.push.new.self.items c.in_ok-next.field-0 c.in-Some.next c.in_ok-again.again (landmarks_of c.add_chain.new.to.items)
    c.in-Some.is c.in_ok-next.ensures.wider c.in_ok-again.ensures c.in_ok-push.ensures.items c.in_ok-add_chain.ensures
