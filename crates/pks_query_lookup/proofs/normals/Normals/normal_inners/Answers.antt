use Rattle.std.proofs.Common.{◌≡◌, length, rules}
use Rattle.pks_terms.specs.Databases.{inner_normal}
use Rattle.pks_terms.specs.Views.{inner_of}
use Rattle.pks_terms.proofs.Fronts.{mapped_two}
use Rattle.pks_kf.specs.Known.{literals_of}
use Rattle.pks_query_lookup.proofs.normals.Normals.normal_inners.Goals as goal

pub returns : goal.returns
returns c =
    let long : length c.args.args.now ≡ 2 = search rules in
    λ n. mapped_two inner_of (inner_normal (literals_of c.args.self.now.kf)) c.args.args.now _ _ _ n long c.normal_inner.ensures c.normal_inner-2.ensures
