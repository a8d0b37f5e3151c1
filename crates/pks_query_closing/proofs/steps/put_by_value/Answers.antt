use Rattle.std.proofs.Common.{◌≡◌, ◌∙◌, ◌++◌, ap, map, subst}
use Rattle.std.specs.Result.{OnOk}
use Rattle.pks_terms.specs.Sets.{one_replaced}
use Rattle.pks_terms.specs.Closure.{by_value, term_steps}
use Rattle.pks_terms.specs.Views.{literal_of, arguments_in, sides_of}
use Rattle.pks_kf.specs.Known.{literals_of}
use Rattle.pks_query_closing.specs.Reading.{with_arguments}
use Rattle.pks_query_closing.proofs.steps.put_by_value.Goals as goal

pub returns : goal.returns
unfolding by_value
returns c =
    let all : map arguments_in c.as_slice.result.now ≡ one_replaced (term_steps (literals_of c.args.by.now.kf)) (sides_of c.args.l.now.atom) =
    ap (map arguments_in) c.as_slice.ensures.value ∙ c.in_ok-all.ensures.terms ∙ ap (one_replaced (term_steps (literals_of c.args.by.now.kf))) c.arguments-given.ensures.terms in
    subst (λ zs. OnOk c.put_with.result (map literal_of c.put_with.new.to.items ≡ map literal_of c.args.to.now.items ++ map (with_arguments (literal_of c.args.l.now)) zs)) all c.put_with.ensures
