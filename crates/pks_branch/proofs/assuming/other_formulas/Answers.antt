use Rattle.std.proofs.Common.{rules, not}
use Rattle.std.specs.Ordering.{is_eq}
use Rattle.pks_terms.specs.Orders.{conj_cmp}
use Rattle.pks_terms.specs.Views.{conj_of}
use Rattle.pks_pmap_set.proofs.Mapped.{keeps-map}
use Rattle.pks_branch.proofs.assuming.other_formulas.Goals as goal

pub returns : goal.returns
returns c = keeps-map conj_of _ (λ b. not (is_eq (conj_cmp b (conj_of c.args.c.now)))) (λ x b r. search rules) c.args.kw.now c.in_ok-rest.rest c.in_ok-rest.ensures
