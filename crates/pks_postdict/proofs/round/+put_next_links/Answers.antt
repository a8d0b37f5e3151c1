use Rattle.std.proofs.Common.{◌-◌, length, take, drop, sym, subst}
use Rattle.pks_terms.specs.Views.{problem_of}
use Rattle.pks_postdict.specs.Families.{held_of}
use Rattle.pks_postdict.specs.Growing.{AreSpared}
use Rattle.pks_postdict.proofs.Stepping.{begins, links_put, growths_put}
use Rattle.pks_postdict.proofs.round.+put_next_links.Goals as goal

pub next_link-requires-clause-spared : goal.next_link-requires-clause-spared
next_link-requires-clause-spared t c =
    subst (AreSpared (problem_of c.args.p.now) c.args.before.now) (sym (begins c.args.later.now c.link-item.result c.in-len1-up.len_at_least c.link-item.is)) c.requires.spared

pub returns-in_ok-put_next_links-in-len1-up-clause-links : goal.returns-in_ok-put_next_links-in-len1-up-clause-links
returns-in_ok-put_next_links-in-len1-up-clause-links t c =
    let xs = c.args.later.now in
    let x = c.link-item.result in
    links_put xs (take (length xs - 1) (drop 1 xs)) x c.in_ok-next-in-len1-up.next c.args.to.now.items c.push.new.self.items c.put_next_links.new.to.items (begins xs x c.in-len1-up.len_at_least c.link-item.is) c.in_ok-push-in-len1-up.ensures.items
    (problem_of c.args.p.now) (held_of c.args.before.now.held) c.in_ok-next-in-len1-up.ensures.link c.in_ok-put_next_links-in-len1-up.ensures.links

pub returns-in_ok-put_next_links-in-len1-up-clause-growths : goal.returns-in_ok-put_next_links-in-len1-up-clause-growths
returns-in_ok-put_next_links-in-len1-up-clause-growths t c =
    let xs = c.args.later.now in
    let x = c.link-item.result in
    growths_put xs (take (length xs - 1) (drop 1 xs)) x c.in_ok-next-in-len1-up.next c.args.to.now.items c.push.new.self.items c.put_next_links.new.to.items (begins xs x c.in-len1-up.len_at_least c.link-item.is) c.in_ok-push-in-len1-up.ensures.items
    c.in_ok-next-in-len1-up.ensures.growth c.in_ok-put_next_links-in-len1-up.ensures.growths
