use Rattle.std.proofs.Common.{◌≡◌, true, List, sym, subst}
use Rattle.pks_terms.specs.Sets.{Each}
use Rattle.pks_search_distance.specs.Landmarks.{is_met}
use Rattle.pks_search_distance.specs.Marked.{landmarks_of}
use Rattle.pks_search_distance.specs.declared.landmarks.Landmark.{Landmark}
use Rattle.pks_search_distance.proofs.marking.landmarks_for.Goals as goal

pub returns : goal.returns
returns c w so k =
    c.in_ok-add_chains.ensures w so
    (c.in_ok-add_alone.ensures w so (subst (λ (xs : List Landmark). Each (λ c. is_met w c ≡ true) (landmarks_of xs)) (sym c.new-marks.ensures.items) tt))
