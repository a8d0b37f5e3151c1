use Rattle.std.proofs.Common.{rules, ap, ◌∙◌, filter}
use Rattle.pks_terms.specs.Progress.{is_untouched}
use Rattle.pks_terms.specs.Views.{literals_in, signature_of}
use Rattle.pks_pmap_set.proofs.Mapped.{keeps-map}
use Rattle.pks_kx.specs.Groups.{groups_of}
use Rattle.pks_query_lookup.specs.declared.five.Five.{Five}
use Rattle.pks_query_lookup.specs.Fives.{five_of}
use Rattle.pks_progress_interference.specs.EffectViews.{effects_in}
use Rattle.pks_progress.proofs.kept.kept_groups.Goals as goal

pub returns : goal.returns
returns c =
    let test = (is_untouched (signature_of c.args.s.now) (five_of c.args.d.now) (effects_in c.args.es)) in
    keeps-map literals_in _ test (λ x b r. search rules) c.five.result.now.kx c.in_ok-kept.kept c.in_ok-kept.ensures
    ∙ ap (λ (d : Five). filter test (groups_of d.kx)) c.five.ensures
