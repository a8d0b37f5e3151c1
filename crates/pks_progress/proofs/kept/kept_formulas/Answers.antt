use Rattle.std.proofs.Common.{rules, ap, ◌∙◌, filter}
use Rattle.pks_terms.specs.Progress.{is_untouched}
use Rattle.pks_terms.specs.Views.{conj_of, signature_of}
use Rattle.pks_pmap_set.proofs.Mapped.{keeps-map}
use Rattle.pks_kw.specs.Formulas.{formulas_of}
use Rattle.pks_query_lookup.specs.declared.five.Five.{Five}
use Rattle.pks_query_lookup.specs.Fives.{five_of}
use Rattle.pks_progress_interference.specs.EffectViews.{effects_in}
use Rattle.pks_progress.proofs.kept.kept_formulas.Goals as goal

pub returns : goal.returns
returns c =
    let test = (is_untouched (signature_of c.args.s.now) (five_of c.args.d.now) (effects_in c.args.es)) in
    keeps-map conj_of _ test (λ x b r. search rules) c.five.result.now.kw c.in_ok-kept.kept c.in_ok-kept.ensures
    ∙ ap (λ (d : Five). filter test (formulas_of d.kw)) c.five.ensures
