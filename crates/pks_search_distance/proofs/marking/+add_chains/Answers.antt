use Rattle.pks_search_distance.specs.Marked.{landmark_of, landmarks_of}
use Rattle.pks_search_distance.proofs.Gathering.{marks_split, behind_alone}
use Rattle.pks_search_distance.proofs.marking.+add_chains.Goals as goal

pub returns-in_ok-add_chains : goal.returns-in_ok-add_chains
returns-in_ok-add_chains t c =
    let old = landmarks_of c.args.to.now.items in
    let mid = landmarks_of c.add_chain.new.to.items in
    marks_split c.args.wanted.now _ old mid (landmarks_of c.add_chains.new.to.items) c.in-len1-up.len_at_least
    (behind_alone _ (landmark_of c.in_ok-one.one) old mid c.in_ok-one.ensures c.in_ok-add_chain.ensures) c.in_ok-add_chains.ensures
