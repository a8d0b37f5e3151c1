use Rattle.std.proofs.Common.{◌≡◌, ◌++◌, ◌∙◌, not, List, flat_map, ap}
use Rattle.pks_terms.specs.declared.literal.Literal.{Literal as DLiteral}
use Rattle.pks_terms.specs.Sets.{with_later}
use Rattle.pks_terms.specs.Settling.{fired}
use Rattle.pks_terms.specs.Spoiling.{spoils}
use Rattle.pks_terms.specs.Syntax.{Literal}
use Rattle.pks_kf.specs.Known.{literals_of}
use Rattle.pks_query_lookup.specs.Fives.{five_of}
use Rattle.pks_postdict_rules.specs.Changes.{signature_in, before_in, effects_by}
use Rattle.pks_postdict_rules.specs.News.{news_of}
use Rattle.pks_postdict_rules.proofs.NewOnes.{news_complete}
use Rattle.pks_postdict_rules.proofs.steps.forward_news_by.Goals as goal

pub returns : goal.returns
returns c =
    let s = signature_in c.args.change.now in
    let es = effects_by c.args.change.now in
    let before = before_in c.args.change.now in
    let more = flat_map (fired s es before) (with_later es) in
    let stays = λ (m : Literal). not (spoils s before es m) in
    news_complete stays (five_of c.args.after.now).kf (before_in c.args.change.now).kf more (literals_of c.put_all_fired.new.to.items)
    (c.in_ok-put_all_fired.ensures ∙ ap (λ (ls : List Literal). ls ++ more) (c.in_ok-put_lasting_news.ensures ∙ ap (λ (xs : List DLiteral). literals_of xs ++ news_of stays (five_of c.args.after.now).kf (before_in c.args.change.now).kf) c.new-news.ensures.items))
