use Rattle.std.proofs.Common.{◌≡◌, ◌∙◌, [], ap, map}
use Rattle.std.proofs.lemmas.List.Folds.{flat_map-map}
use Rattle.pks_terms.specs.Syntax.{Apply}
use Rattle.pks_terms.specs.Settling.{argument_forms}
use Rattle.pks_terms.specs.Views.{terms_of}
use Rattle.pks_kf.specs.Known.{literals_of}
use Rattle.pks_query_lookup.specs.Reading.{first_inners}
use Rattle.pks_postdict_rules.proofs.forms.term_forms.Goals as goal

pub returns : goal.returns
returns c =
    let kf = literals_of c.args.by.now.kf in
    let none : terms_of c.new-forms.result.items ≡ [] = ap terms_of c.new-forms.ensures.items in
    let all : terms_of c.as_slice.result.now ≡ map (Apply c.in-App.fun.0) (argument_forms kf (first_inners c.in-App.n c.in-App.args)) = ap terms_of c.as_slice.ensures.value ∙ c.in_ok-applied.ensures in
    rw (c.in-App.is, c.in_ok-put_each_with_values.ensures, none, all, flat_map-map)
