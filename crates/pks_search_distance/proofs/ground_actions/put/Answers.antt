use Rattle.std.proofs.Common.{◌≡◌, ◌<◌, ◌∷◌, [], map, take, length, ap, ◌∙◌, rules, arith}
use Rattle.std.proofs.lemmas.List.{take_more_set, map-append}
use Rattle.pks_terms.specs.declared.term.Inner.TheVariants as inner_is
use Rattle.pks_terms.specs.Views.{inner_of}
use Rattle.pks_search_distance.proofs.ground_actions.put.Goals as goal

pub returns : goal.returns
returns c =
    let long : length c.args.args.now ≡ 4 = search rules in
    let within : c.args.n < length c.args.args.now = omega arith in
    ap (map inner_of) (take_more_set c.args.args.now c.args.n (inner_is.Obj c.args.d) within) ∙ map-append inner_of (take c.args.n c.args.args.now) (inner_is.Obj c.args.d ∷ [])
