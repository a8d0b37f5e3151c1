use Rattle.std.proofs.Common.{rules, ap, ◌∙◌, not, filter}
use Rattle.pks_terms.specs.Syntax.{Literal}
use Rattle.pks_terms.specs.Spoiling.{spoils}
use Rattle.pks_terms.specs.Views.{literal_of, signature_of}
use Rattle.pks_pmap_set.proofs.Mapped.{keeps-map}
use Rattle.pks_kf.specs.Known.{literals_of}
use Rattle.pks_query_lookup.specs.declared.five.Five.{Five}
use Rattle.pks_query_lookup.specs.Fives.{five_of}
use Rattle.pks_progress_interference.specs.EffectViews.{effects_in}
use Rattle.pks_progress.proofs.kept.kept_literals.Goals as goal

pub returns : goal.returns
returns c =
    let test = (λ (l : Literal). not (spoils (signature_of c.args.s.now) (five_of c.args.d.now) (effects_in c.args.es) l)) in
    keeps-map literal_of _ test (λ x b r. search rules) c.five.result.now.kf c.in_ok-kept.kept c.in_ok-kept.ensures
    ∙ ap (λ (d : Five). filter test (literals_of d.kf)) c.five.ensures
