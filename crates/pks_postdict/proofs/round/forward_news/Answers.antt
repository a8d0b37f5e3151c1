use Rattle.std.proofs.Common.{◌≡◌, false, ap, subst}
use Rattle.pks_terms.specs.Databases.{Five}
use Rattle.pks_terms.specs.Settling.{forward}
use Rattle.pks_terms.specs.Views.{instance_of, problem_of}
use Rattle.pks_kf.specs.Known.{literals_of}
use Rattle.pks_query_lookup.specs.Fives.{five_of}
use Rattle.pks_postdict_rules.specs.News.{Completes}
use Rattle.pks_postdict.specs.Families.{held_of}
use Rattle.pks_postdict.proofs.Completing.{completes_none}
use Rattle.pks_postdict.proofs.round.forward_news.Goals as goal

pub returns-then-not-before : goal.returns-then-not-before
returns-then-not-before c =
    let still : c.args.before.now.grew ≡ false = cc in
    completes_none _ _ (forward (problem_of c.args.p.now) (instance_of c.args.link.now.step) (held_of c.args.before.now.held)) (ap literals_of c.new.ensures.items) (c.requires.spared still)

pub returns : goal.returns
returns c =
    let p = problem_of c.args.p.now in
    let i = instance_of c.args.link.now.step in
    let news = literals_of c.in_ok-all.all.items in
    subst (λ (e : Five). Completes e.kf news (forward p i (held_of c.args.before.now.held))) c.lookup-2.ensures
    (subst (λ (e : Five). Completes (five_of c.lookup-2.result.now).kf news (forward p i e)) c.lookup.ensures c.in_ok-all.ensures)
