use Rattle.std.proofs.Common.{◌≡◌, length, rules}
use Rattle.pks_terms.specs.Databases.{inner_normal}
use Rattle.pks_terms.specs.Views.{inner_of}
use Rattle.pks_kf.specs.Known.{literals_of}
use Rattle.pks_progress_adds.proofs.Lists.{mapped_four}
use Rattle.pks_progress_adds.proofs.deed.normal_arguments.Goals as goal

pub returns : goal.returns
returns c =
    let long : length c.args.args.now ≡ 4 = search rules in
    λ n. mapped_four inner_of (inner_normal (literals_of c.args.by.now.kf)) c.args.args.now _ _ _ _ _ n long c.normal_inner.ensures c.normal_inner-2.ensures c.normal_inner-3.ensures c.normal_inner-4.ensures
