use Rattle.std.proofs.Common.{◌∙◌}
use Rattle.pks_kf.specs.Known.{literals_of}
use Rattle.pks_progress_adds.specs.Deeds.{five_in, chosen_in, with_normal_arguments}
use Rattle.pks_progress_adds.proofs.Placed.{placed_at}
use Rattle.pks_progress_adds.proofs.deed.Deed.place.Goals as goal

pub returns : goal.returns
returns c =
    c.with_normal_arguments.ensures
    ∙ ((λ i. with_normal_arguments (literals_of (c.normals.ensures i).kf) (c.at.ensures.says i))
    ∙ placed_at (five_in c.args.self.now).kf (chosen_in c.args.self.now) c.args.t.now c.requires)
