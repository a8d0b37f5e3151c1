use Rattle.std.proofs.Common.{◌≡◌, true, rules, subst}
use Rattle.pks_terms.specs.Views.{instance_of}
use Rattle.pks_query_lookup.specs.Fives.{five_of}
use Rattle.pks_laws_symmetry.specs.Renamed.{AreImages}
use Rattle.pks_search_symmetry.specs.Renaming.{image_by}
use Rattle.pks_search_symmetry.proofs.Along.{moved_back}
use Rattle.pks_search_symmetry.proofs.images.+later_images.Goals as goal

pub returns : goal.returns
returns t c =
    let f = image_by c.args.to.now in
    let g = image_by c.args.back.now in
    let is_step : c.is_instance.result ≡ true = search rules in
    let are_same : c.in_ok-databases.databases ≡ true = search rules in
    let images : AreImages f g (five_of c.at.result.now) (five_of c.at-2.result.now) =
    subst (λ x. AreImages f g (five_of c.at.result.now) (five_of x)) c.parts-2.ensures.lent (subst (λ x. AreImages f g (five_of x) (five_of c.parts-2.result.now)) c.parts.ensures.lent (c.in_ok-databases.ensures are_same)) in
    λ h. moved_back f g c.args.h.now c.args.k.now c.args.moment
    (instance_of c.step.result.now) (instance_of c.step-2.result.now) (five_of c.at.result.now) (five_of c.at-2.result.now)
    c.step.ensures c.step-2.ensures c.at.ensures c.at-2.ensures
    (c.is_instance.ensures is_step) images (c.in_ok-later.ensures h)
