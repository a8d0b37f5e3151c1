use Rattle.std.proofs.Common.{List, ap, ◌∙◌, sym, subst}
use Rattle.pks_terms.specs.declared.literal.Literal.{Literal}
use Rattle.pks_terms.specs.Views.{literals_in}
use Rattle.pks_world.specs.Contents.{world_of}
use Rattle.pks_search_distance.specs.Levels.{IsBound}
use Rattle.pks_search_distance.specs.Unmet.{unmet}
use Rattle.pks_search_distance.specs.Landmarks.{unmet_marks}
use Rattle.pks_search_distance.specs.Marked.{landmarks_of}
use Rattle.pks_search_distance.specs.declared.landmarks.Landmark.{Landmark}
use Rattle.pks_search_distance.proofs.Meeting.{greater_bounds}
use Rattle.pks_search_distance.proofs.Least.{least_bounds, least_reached}
use Rattle.pks_search_distance.proofs.ground_actions.GroundActions.few.Goals as goal

pub returns-then-is_enough : goal.returns-then-is_enough
returns-then-is_enough c p d =
    let x = c.args.self.now in
    let w = world_of c.args.w.now in
    let counted = c.count_unmet.ensures ∙ ap (λ (ls : List Literal). unmet w (literals_in ls)) c.as_slice.ensures.value in
    least_bounds p w (literals_in x.wanted.items) x.met c.count_unmet.result c.args.most c.fewest-goals.result d.wanted d.few counted c.fewest-goals.ensures

pub returns : goal.returns
returns c p d =
    let x = c.args.self.now in
    let w = world_of c.args.w.now in
    let counted = c.count_unmet.ensures ∙ ap (λ (ls : List Literal). unmet w (literals_in ls)) c.as_slice.ensures.value in
    let goals = least_bounds p w (literals_in x.wanted.items) x.met c.count_unmet.result c.args.most c.fewest-goals.result d.wanted d.few counted c.fewest-goals.ensures in
    let left = c.unmet_marks.ensures ∙ ap (λ (cs : List Landmark). unmet_marks w (landmarks_of cs)) c.as_slice-2.ensures.value in
    let marks = least_reached p w (landmarks_of x.landmarks.items) x.reached c.unmet_marks.result c.args.most c.fewest-marks.result (d.listed w).landmarks (d.listed w).reached left c.fewest-marks.ensures in
    subst (IsBound p w) (sym c.greater.ensures) (greater_bounds p w c.fewest-goals.result c.fewest-marks.result goals marks)
