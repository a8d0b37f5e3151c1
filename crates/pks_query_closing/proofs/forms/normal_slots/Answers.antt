use Rattle.std.proofs.Common.{◌≡◌, length, rules, option_map}
use Rattle.pks_terms.specs.Databases.{normal}
use Rattle.pks_terms.specs.Views.{term_of}
use Rattle.pks_kf.specs.Known.{literals_of}
use Rattle.pks_terms.proofs.Fronts.{mapped_three}
use Rattle.pks_query_closing.proofs.forms.normal_slots.Goals as goal

pub returns : goal.returns
returns c =
    let long : length c.args.slots.now ≡ 3 = search rules in
    λ n. mapped_three (option_map term_of) (option_map (normal (literals_of c.args.by.now.kf))) c.args.slots.now _ _ _ _ n long c.normal_slot.ensures c.normal_slot-2.ensures c.normal_slot-3.ensures
