use Rattle.std.proofs.Common.{rules, not}
use Rattle.pks_terms.specs.Orders.{term_eq}
use Rattle.pks_terms.specs.Views.{term_of}
use Rattle.pks_pmap_set.proofs.Mapped.{keeps-map}
use Rattle.pks_branch.proofs.assuming.other_values.Goals as goal

pub returns : goal.returns
returns c = keeps-map term_of _ (λ u. not (term_eq u (term_of c.args.t.now))) (λ x b r. search rules) c.args.kv.now c.in_ok-rest.rest c.in_ok-rest.ensures
