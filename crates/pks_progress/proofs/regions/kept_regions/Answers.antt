use Rattle.std.proofs.Common.{◌≡◌, ◌∙◌, ap, rules}
use Rattle.pks_terms.specs.Databases.{entry_cmp}
use Rattle.pks_terms.specs.Views.{signature_of}
use Rattle.pks_pmap_set.proofs.Mapped.{ordered-map}
use Rattle.pks_lcw.specs.Entries.{atoms_of, entry_of, entries_of}
use Rattle.pks_query_lookup.specs.Fives.{five_of}
use Rattle.pks_progress_interference.specs.EffectViews.{effects_in}
use Rattle.pks_progress.specs.Kept.{atoms_set}
use Rattle.pks_progress.proofs.Lasting.{entries_put_in}
use Rattle.pks_progress.proofs.Sharing.{regions_kept}
use Rattle.pks_progress.proofs.regions.kept_regions.Goals as goal

pub returns : goal.returns
returns c =
    let first : atoms_of c.as_slice.result.now ≡ atoms_set (signature_of c.args.s.now) (five_of c.args.d.now) (effects_in c.args.es) = search rules in
    let second : atoms_of c.as_slice-2.result.now ≡ atoms_set (signature_of c.args.s.now) (five_of c.args.d.now) (effects_in c.args.es) = search rules in
    ap entries_of c.in_ok-kept.ensures
    ∙ entries_put_in c.in_ok-same.same c.in_ok-changed.changed.items
    ∙ regions_kept (signature_of c.args.s.now) (five_of c.args.d.now) (effects_in c.args.es) (entries_of c.args.d.now.lcw) (ordered-map entry_of entry_cmp c.args.d.now.lcw c.in_ok-same.ensures.ordered)
    (atoms_of c.as_slice.result.now) (atoms_of c.as_slice-2.result.now) first second
    (entries_of c.in_ok-same.same) (entries_of c.in_ok-changed.changed.items) c.in_ok-same.ensures.same c.in_ok-changed.ensures
