use Rattle.std.proofs.Common.{◌≡◌, ◌++◌, ◌∙◌, not, List, ap}
use Rattle.pks_terms.specs.declared.literal.Literal.{Literal as DLiteral}
use Rattle.pks_terms.specs.Spoiling.{spoils}
use Rattle.pks_terms.specs.Syntax.{Literal, negated}
use Rattle.pks_kf.specs.Known.{literals_of}
use Rattle.pks_query_lookup.specs.Fives.{five_of}
use Rattle.pks_postdict_rules.specs.Changes.{signature_in, before_in, effects_by}
use Rattle.pks_postdict_rules.specs.News.{news_of}
use Rattle.pks_postdict_rules.specs.Targets.{given_by_conditions}
use Rattle.pks_postdict_rules.proofs.NewOnes.{news_complete}
use Rattle.pks_postdict_rules.proofs.steps.backward_news_by.Goals as goal

pub returns : goal.returns
returns c =
    let s = signature_in c.args.change.now in
    let es = effects_by c.args.change.now in
    let before = before_in c.args.change.now in
    let more = given_by_conditions s es before (five_of c.args.after.now) in
    let stays = λ (m : Literal). not (spoils s before es (negated m)) in
    news_complete stays (before_in c.args.change.now).kf (five_of c.args.after.now).kf more (literals_of c.put_conditions.new.to.items)
    (c.in_ok-put_conditions.ensures ∙ ap (λ (ls : List Literal). ls ++ more) (c.in_ok-put_lasted_news.ensures ∙ ap (λ (xs : List DLiteral). literals_of xs ++ news_of stays (before_in c.args.change.now).kf (five_of c.args.after.now).kf) c.new-news.ensures.items))
