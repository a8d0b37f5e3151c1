use Rattle.std.proofs.Common.{◌≡◌, ◌++◌, List, sym, ap, ◌∙◌, subst, append_assoc}
use Rattle.pks_terms.specs.Syntax.{Literal}
use Rattle.pks_terms.specs.Closure.{additions}
use Rattle.pks_terms.specs.Settling.{forward, from_next}
use Rattle.pks_terms.specs.Views.{instance_of, problem_of}
use Rattle.pks_kf.specs.Known.{literals_of}
use Rattle.pks_postdict.specs.Families.{held_of, links_of}
use Rattle.pks_postdict_rules.specs.News.{Completes}
use Rattle.pks_postdict.proofs.Completing.{completes_append}
use Rattle.pks_postdict.proofs.Sparing.{alone_of}
use Rattle.pks_postdict.proofs.Stepping.{literals_append}
use Rattle.pks_postdict.proofs.round.link_news.Goals as goal

pub own_news-requires-clause-spared : goal.own_news-requires-clause-spared
own_news-requires-clause-spared c = alone_of (problem_of c.args.p.now) c.args.link.now.place c.args.rest.now c.requires.spared.3

pub returns : goal.returns
returns c =
    let p = problem_of c.args.p.now in
    let d = held_of c.args.link.now.place.held in
    let given = forward p (instance_of c.args.link.now.step) (held_of c.args.before.now.held) in
    let got = from_next p d (links_of c.args.rest.now) in
    let a = literals_of c.in_ok-all.all.items in
    let b = literals_of c.in_ok-before.before.items in
    let e = literals_of c.in_ok-after.after.items in
    let one = literals_append c.in_ok-all.all.items c.in_ok-before.before.items in
    let items : literals_of c.extend_from_slice-2.new.self.items ≡ a ++ (b ++ e) =
    ap literals_of c.in_ok-extend_from_slice-2.ensures.items
    ∙ literals_append c.extend_from_slice.new.self.items c.deref-2.result.now
    ∙ (λ i. literals_of (c.in_ok-extend_from_slice.ensures.items i) ++ literals_of (c.deref-2.ensures.value i))
    ∙ (λ i. literals_of (c.in_ok-all.all.items ++ c.deref.ensures.value i) ++ e)
    ∙ ap (λ (zs : List Literal). zs ++ e) one
    ∙ append_assoc a b e in
    subst (λ (zs : List Literal). Completes d.kf zs (additions p.signature d ++ (given ++ got))) (sym items)
    (completes_append d.kf a (b ++ e) (additions p.signature d) (given ++ got) c.in_ok-all.ensures (completes_append d.kf b e given got c.in_ok-before.ensures c.in_ok-after.ensures))
