-- The text of an atom at objects.
use Rattle.std.proofs.Common.{◌≡◌, ℕ, List, ap}
use Rattle.pks_terms.specs.Syntax.{Object, affirmed}
use Rattle.pks_terms.specs.Printed.{Names, name_in, listed, term_text, literal_text, objects_text}
use Rattle.pks_terms.proofs.ListLaws.{map-map}
use Rattle.pks_world.specs.Contents.{ground}

pub atom_told : (names : Names) (q : ℕ) (ds : List ℕ) → literal_text names (affirmed (ground q ds)) ≡ objects_text names q ds
unfolding literal_text term_text
atom_told names q ds = ap (listed (name_in names.predicates q)) (map-map Object (term_text names) ds)
