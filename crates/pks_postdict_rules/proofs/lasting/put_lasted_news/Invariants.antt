use Rattle.std.proofs.Common.{◌≡◌, ◌++◌, not}
use Rattle.pks_terms.specs.Spoiling.{spoils}
use Rattle.pks_terms.specs.Syntax.{Literal, negated}
use Rattle.pks_terms.specs.Views.{literals_in}
use Rattle.pks_kf.specs.Known.{literals_of}
use Rattle.pks_query_lookup.specs.Fives.{five_of}
use Rattle.pks_postdict_rules.specs.Changes.{signature_in, before_in, effects_by}
use Rattle.pks_postdict_rules.specs.News.{news_of}
use Rattle.pks_postdict_rules.proofs.lasting.put_lasted_news.Given as goal

abbrev pub invariant-loop-l : goal.invariant-loop-l
invariant-loop-l l =
    let stays = λ (m : Literal). not (spoils (signature_in l.change) (before_in l.change) (effects_by l.change) (negated m)) in
    literals_in l.to.items ++ news_of stays (literals_of l.known) (literals_in l.l-iterator) ≡ literals_in l.fn.to.items ++ news_of stays (before_in l.change).kf (literals_in l.after.kf)
