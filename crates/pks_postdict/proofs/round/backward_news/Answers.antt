use Rattle.std.proofs.Common.{◌≡◌, false, sym, ap, subst}
use Rattle.pks_terms.specs.Databases.{Five}
use Rattle.pks_terms.specs.Settling.{backward, from_next}
use Rattle.pks_terms.specs.Views.{instance_of, problem_of}
use Rattle.pks_kf.specs.Known.{literals_of}
use Rattle.pks_query_lookup.specs.Fives.{five_of}
use Rattle.pks_postdict_rules.specs.News.{Completes}
use Rattle.pks_postdict.specs.Families.{held_of, links_of}
use Rattle.pks_postdict.proofs.Completing.{completes_none}
use Rattle.pks_postdict.proofs.Sparing.{next_gives, next_spared}
use Rattle.pks_postdict.proofs.round.backward_news.Goals as goal

pub returns-then-not-link : goal.returns-then-not-link
returns-then-not-link c =
    let p = problem_of c.args.p.now in
    let still : c.args.place.now.grew ≡ false = cc in
    let other : c.link-item.result.place.grew ≡ false = cc in
    completes_none _ _ (from_next p (held_of c.args.place.now.held) (links_of c.args.rest.now)) (ap literals_of c.new-then-not-link.ensures.items)
    (next_spared p c.args.place.now c.args.rest.now c.link-item.result c.in-len1-up.len_at_least c.link-item.is c.requires.spared still other)

pub returns-in_ok-all-in-len1-up : goal.returns-in_ok-all-in-len1-up
returns-in_ok-all-in-len1-up c =
    let p = problem_of c.args.p.now in
    let x = c.link-item.result in
    let d = held_of c.args.place.now.held in
    let i = instance_of x.step in
    let news = literals_of c.in_ok-all-in-len1-up.all.items in
    let given : Completes d.kf news (backward p i d (held_of x.place.held)) =
    subst (λ (e : Five). Completes d.kf news (backward p i d e)) c.lookup-in-len1-up.ensures
    (subst (λ (e : Five). Completes e.kf news (backward p i e (five_of c.lookup-in-len1-up.result.now))) c.lookup.ensures c.in_ok-all-in-len1-up.ensures) in
    subst (Completes d.kf news) (sym (next_gives p d c.args.rest.now x c.in-len1-up.len_at_least c.link-item.is)) given
