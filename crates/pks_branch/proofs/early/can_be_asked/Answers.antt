use Rattle.std.proofs.Common.{◌≡◌, ◌≤◌, length, take, rules, arith, sym, ap, ◌∙◌}
use Rattle.std.proofs.lemmas.List.{length-map}
use Rattle.pks_terms.specs.Views.{inner_of, query_of}
use Rattle.pks_branch.specs.Early.{plain_is_early}
use Rattle.pks_branch.proofs.Barring.{front_length}
use Rattle.pks_branch.proofs.early.can_be_asked.Goals as goal

pub returns : goal.returns
returns c =
    let long : length c.args.args.now ≡ 4 = search rules in
    let within : c.args.n ≤ length c.args.args.now = omega arith in
    c.query_is_early.ensures ∙ ap (λ k. plain_is_early k (query_of c.args.q.now).asks) (sym (length-map (take c.args.n c.args.args.now) inner_of ∙ front_length c.args.n c.args.args.now within))
