-- What the program's landmarks say.
use Rattle.std.specs.Prelude.{List, map}
use Rattle.pks_terms.specs.Syntax.{Literal}
use Rattle.pks_terms.specs.Views.{literals_in}
use Rattle.pks_search_distance.specs.declared.landmarks.Landmark.{Landmark}

-- a landmark
abbrev pub landmark_of : Landmark → List Literal
landmark_of x = literals_in x.literals.items

-- landmarks, one by one
abbrev pub landmarks_of : List Landmark → List (List Literal)
landmarks_of xs = map landmark_of xs
