use Rattle.std.proofs.Common.{◌∙◌, sym}
use Rattle.pks_query_lookup.specs.Fives.{five_of}
use Rattle.pks_search_symmetry.specs.Renaming.{image_by}
use Rattle.pks_search_symmetry.proofs.Going.{goes_to}
use Rattle.pks_search_symmetry.proofs.images.go.Goals as goal

pub returns : goal.returns
returns c = λ h. goes_to (image_by c.args.to.now) (five_of c.args.d.now) (five_of c.args.e.now) (sym c.in_ok-goes.ensures ∙ h)
