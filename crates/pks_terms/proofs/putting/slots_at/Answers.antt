use Rattle.std.proofs.Common.{◌≡◌, length, rules, option_map}
use Rattle.pks_terms.specs.Actions.{term_at}
use Rattle.pks_terms.specs.Views.{given_of, term_of}
use Rattle.pks_terms.specs.Counts.{SlotCounts}
use Rattle.pks_terms.proofs.Fronts.{mapped_three}
use Rattle.pks_terms.proofs.Kept.{kept_three}
use Rattle.pks_terms.proofs.putting.slots_at.Goals as goal

pub returns-clause-says : goal.returns-clause-says
returns-clause-says c =
    let long : length c.args.slots.now ≡ 3 = search rules in
    λ n. mapped_three (option_map term_of) (option_map (term_at (given_of c.args.i.now))) c.args.slots.now _ _ _ _ n long c.slot_at.ensures.says c.slot_at-2.ensures.says c.slot_at-3.ensures.says

pub returns-clause-counts : goal.returns-clause-counts
returns-clause-counts c =
    let long : length c.args.slots.now ≡ 3 = search rules in
    λ n old given. kept_three SlotCounts SlotCounts c.args.slots.now _ _ _ _ n long (λ h. c.slot_at.ensures.counts h given) (λ h. c.slot_at-2.ensures.counts h given) (λ h. c.slot_at-3.ensures.counts h given) old
