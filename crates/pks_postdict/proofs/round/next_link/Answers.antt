use Rattle.std.proofs.Common.{◌++◌}
use Rattle.pks_terms.specs.Closure.{additions}
use Rattle.pks_terms.specs.Settling.{forward, from_next}
use Rattle.pks_terms.specs.Views.{instance_of, problem_of}
use Rattle.pks_kf.specs.Known.{literals_of}
use Rattle.pks_postdict.specs.Families.{held_of, links_of}
use Rattle.pks_postdict.proofs.Completing.{grown_completed}
use Rattle.pks_postdict.proofs.round.next_link.Goals as goal

pub returns-clause-link : goal.returns-clause-link
returns-clause-link c =
    let p = problem_of c.args.p.now in
    let step = instance_of c.args.link.now.step in
    let d = held_of c.args.link.now.place.held in
    let all = additions p.signature d ++ (forward p step (held_of c.args.before.now.held) ++ from_next p d (links_of c.args.rest.now)) in
    let next = grown_completed d (held_of c.in_ok-place.place.held) (literals_of c.in_ok-news.news.items) all c.in_ok-place.ensures.known c.in_ok-place.ensures.ordered c.in_ok-news.ensures in
    λ i. (step, next i)
