use Rattle.std.proofs.Common.{ap, ◌∙◌, map, not}
use Rattle.std.specs.List.{filter}
use Rattle.pks_terms.specs.Syntax.{object}
use Rattle.pks_terms.specs.Orders.{inequation}
use Rattle.pks_terms.specs.Databases.{holds}
use Rattle.pks_terms.specs.Branching.{left}
use Rattle.pks_terms.specs.Views.{object_of, term_of, signature_of}
use Rattle.pks_query_lookup.specs.Fives.{five_of}
use Rattle.pks_branch.proofs.leaving.left_of.Goals as goal

pub returns : goal.returns
unfolding left
returns c =
    let stays = filter (λ e. not (holds (signature_of c.args.s.now) (five_of c.args.d.now) (inequation (term_of c.args.t.now) (object e)))) in
    ap (map object_of) c.of.ensures ∙ c.in_ok-kept.ensures ∙ ap (λ es. stays (map object_of es)) c.as_slice.ensures.value ∙ ap stays c.in_ok-range.ensures
