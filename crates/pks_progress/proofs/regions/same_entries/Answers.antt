use Rattle.std.proofs.Common.{rules, ap, ◌∙◌, filter}
use Rattle.pks_terms.specs.Views.{signature_of}
use Rattle.pks_pmap_set.proofs.Mapped.{keeps-map}
use Rattle.pks_lcw.specs.Entries.{atoms_of, entry_of, entries_of}
use Rattle.pks_query_lookup.specs.declared.five.Five.{Five}
use Rattle.pks_query_lookup.specs.Fives.{five_of}
use Rattle.pks_progress_interference.specs.EffectViews.{effects_in}
use Rattle.pks_progress.specs.Kept.{stays}
use Rattle.pks_progress.proofs.regions.same_entries.Goals as goal

pub returns-clause-same : goal.returns-clause-same
returns-clause-same c =
    let test = stays (signature_of c.args.s.now) (five_of c.args.d.now) (effects_in c.args.es) (atoms_of c.args.atoms.now) in
    keeps-map entry_of _ test (λ x b r. search rules) c.five.result.now.lcw c.in_ok-same.same c.in_ok-same.ensures
    ∙ ap (λ (d : Five). filter test (entries_of d.lcw)) c.five.ensures
