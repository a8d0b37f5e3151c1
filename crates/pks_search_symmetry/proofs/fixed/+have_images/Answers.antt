use Rattle.std.proofs.Common.{arith, map}
use Rattle.pks_terms.specs.Sets.{IsIn}
use Rattle.pks_terms.specs.Views.{aim_of}
use Rattle.pks_laws_symmetry.specs.Renamed.{renamed_aim}
use Rattle.pks_search_symmetry.specs.Renaming.{image_by}
use Rattle.pks_search_symmetry.proofs.Texts.{first_in, rest_in, members_from}
use Rattle.pks_search_symmetry.proofs.fixed.+have_images.Goals as goal

pub have_images-requires : goal.have_images-requires
have_images-requires t c = (omega (arith, c.in-len1-up.len_at_least), λ a i. c.requires a (rest_in aim_of c.args.some.now c.in-len1-up.len_at_least a i))

pub has_own_image-requires : goal.has_own_image-requires
has_own_image-requires t c = c.requires _ (first_in aim_of c.args.some.now _ c.in-len1-up.len_at_least)

pub returns-then-has_own_image : goal.returns-then-has_own_image
returns-then-has_own_image t c = λ e.
    members_from
    (λ a. IsIn (renamed_aim (image_by c.args.to.now) a) (map aim_of c.args.goal.now))
    aim_of
    c.args.some.now
    _
    c.in-len1-up.len_at_least
    (c.has_own_image.ensures c.if-has_own_image.true)
    (c.have_images.ensures e)
