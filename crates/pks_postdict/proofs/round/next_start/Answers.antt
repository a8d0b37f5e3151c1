use Rattle.std.proofs.Common.{◌≡◌, ◌++◌, List, sym, ap, ◌∙◌, subst}
use Rattle.pks_terms.specs.Syntax.{Literal}
use Rattle.pks_terms.specs.Closure.{additions}
use Rattle.pks_terms.specs.Settling.{from_next, settle_round}
use Rattle.pks_terms.specs.Views.{problem_of}
use Rattle.pks_kf.specs.Known.{literals_of}
use Rattle.pks_postdict.specs.declared.family.Link.{Link}
use Rattle.pks_postdict.specs.Families.{held_of, links_of}
use Rattle.pks_postdict_rules.specs.News.{Completes}
use Rattle.pks_postdict.proofs.Completing.{completes_append, grown_completed}
use Rattle.pks_postdict.proofs.Sparing.{alone_of}
use Rattle.pks_postdict.proofs.Stepping.{literals_append}
use Rattle.pks_postdict.proofs.round.next_start.Goals as goal

pub own_news-requires-clause-spared : goal.own_news-requires-clause-spared
own_news-requires-clause-spared c = alone_of (problem_of c.args.p.now) c.args.family.now.start c.args.family.now.later.items c.requires.spared

pub returns-clause-start : goal.returns-clause-start
unfolding settle_round
returns-clause-start c =
    let p = problem_of c.args.p.now in
    let d = held_of c.args.family.now.start.held in
    let got = from_next p d (links_of c.args.family.now.later.items) in
    let a = literals_of c.in_ok-news.news.items in
    let b = literals_of c.in_ok-after.after.items in
    let items : literals_of c.extend_from_slice.new.self.items ≡ a ++ b =
    ap literals_of c.in_ok-extend_from_slice.ensures.items
    ∙ literals_append c.in_ok-news.news.items c.deref.result.now
    ∙ (λ i. a ++ literals_of (c.deref.ensures.value i)) in
    let after : Completes d.kf b got = subst (λ (xs : List Link). Completes d.kf b (from_next p d (links_of xs))) c.as_slice.ensures.value c.in_ok-after.ensures in
    let all : Completes d.kf (literals_of c.extend_from_slice.new.self.items) (additions p.signature d ++ got) = subst (λ (zs : List Literal). Completes d.kf zs (additions p.signature d ++ got)) (sym items) (completes_append d.kf a b (additions p.signature d) got c.in_ok-news.ensures after) in
    grown_completed d (held_of c.in_ok-place.place.held) (literals_of c.extend_from_slice.new.self.items) (additions p.signature d ++ got) c.in_ok-place.ensures.known c.in_ok-place.ensures.ordered all
