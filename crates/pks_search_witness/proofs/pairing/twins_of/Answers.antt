use Rattle.std.proofs.Common.{map, sym, subst}
use Rattle.pks_terms.specs.Sets.{Each, IsIn}
use Rattle.pks_terms.specs.Views.{aim_of, problem_of}
use Rattle.pks_terms.proofs.ListLaws.{each_of, in_map}
use Rattle.pks_search_witness.proofs.pairing.twins_of.Goals as goal

pub add_all-requires-clause-aims : goal.add_all-requires-clause-aims
add_all-requires-clause-aims c =
    let aims = c.args.p.now.goal in
    subst (Each (λ a. IsIn (aim_of a) (map aim_of aims))) (sym c.as_slice.ensures) (each_of (λ a. IsIn (aim_of a) (map aim_of aims)) aims (λ a i. in_map aim_of aims a i))
