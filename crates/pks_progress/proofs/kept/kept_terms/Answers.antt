use Rattle.std.proofs.Common.{rules, ap, ◌∙◌, filter}
use Rattle.pks_terms.specs.Spoiling.{is_stable}
use Rattle.pks_terms.specs.Views.{signature_of, term_of, terms_of}
use Rattle.pks_pmap_set.proofs.Mapped.{keeps-map}
use Rattle.pks_query_lookup.specs.declared.five.Five.{Five}
use Rattle.pks_query_lookup.specs.Fives.{five_of}
use Rattle.pks_progress_interference.specs.EffectViews.{effects_in}
use Rattle.pks_progress.proofs.kept.kept_terms.Goals as goal

pub returns : goal.returns
returns c =
    let test = (is_stable (signature_of c.args.s.now) (five_of c.args.d.now) (effects_in c.args.es)) in
    keeps-map term_of _ test (λ x b r. search rules) c.five.result.now.kv c.in_ok-kept.kept c.in_ok-kept.ensures
    ∙ ap (λ (d : Five). filter test (terms_of d.kv)) c.five.ensures
