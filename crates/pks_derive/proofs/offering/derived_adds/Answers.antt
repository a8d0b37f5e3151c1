use Rattle.pks_derive.proofs.Offered.{derived_from}
use Rattle.pks_derive.proofs.offering.derived_adds.Goals as goal

pub returns : goal.returns
returns c =
    derived_from c.args.schema.now c.as_slice.result.now c.as_slice-2.result.now c.new-adds.result.items c.offer_effects.new.to.items c.offer_senses.new.to.items
    c.new-adds.ensures.items c.as_slice.ensures c.as_slice-2.ensures c.in_ok-offer_effects.ensures c.in_ok-offer_senses.ensures
