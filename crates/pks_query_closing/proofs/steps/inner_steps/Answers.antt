use Rattle.std.proofs.Common.{◌∙◌, ap, map}
use Rattle.std.proofs.lemmas.List.{take_all}
use Rattle.pks_terms.specs.Syntax.{Object}
use Rattle.pks_terms.specs.Databases.{values_at}
use Rattle.pks_terms.specs.Views.{object_of}
use Rattle.pks_kf.specs.Known.{literals_of}
use Rattle.pks_query_closing.proofs.steps.inner_steps.Goals as goal

pub returns : goal.returns
returns c =
    let all = take_all _ _ c.loop-d-test.false ∙ c.as_slice-d-items.ensures.value in
    let found = c.in_ok-values_at.ensures ∙ ap (λ ds. values_at (literals_of c.args.by.now.kf) c.in-App.fun.0 (map object_of ds)) c.front.ensures in
    rw c.in-App.is (c.loop-d.invariant ∙ ap (map Object) (ap (map object_of) all ∙ found))
