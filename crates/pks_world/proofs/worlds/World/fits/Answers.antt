use Rattle.std.proofs.Common.{◌<◌, ◌+◌, ◌&&◌, ◌∙◌, map, length, sym, ap, arith}
use Rattle.std.proofs.lemmas.List.{length-map}
use Rattle.std.specs.Option.{option_map}
use Rattle.pks_terms.specs.Worlds.{value_of}
use Rattle.pks_terms.specs.Views.{term_of}
use Rattle.pks_world.specs.Contents.{world_of}
use Rattle.pks_world.proofs.Clearing.{other_length, fits_more, fits_from}
use Rattle.pks_world.proofs.worlds.World.fits.Goals as goal

pub returns-then-slots-terms : goal.returns-then-slots-terms
returns-then-slots-terms c =
    sym (other_length (world_of c.args.self.now) (map (option_map term_of) c.args.slots.now) (map (value_of (world_of c.args.self.now)) (map term_of c.args.terms.now))
    (λ e. c.if-slots-terms.true (sym (length-map c.args.slots.now (option_map term_of)) ∙ e ∙ length-map (map term_of c.args.terms.now) (value_of (world_of c.args.self.now)) ∙ length-map c.args.terms.now term_of)))

pub returns-then-not-fits_slot : goal.returns-then-not-fits_slot
returns-then-not-fits_slot c =
    let w = world_of c.args.self.now in
    let within : c.loop-k.k < length c.args.terms.now = omega arith in
    let more = fits_more w c.args.slots.now c.args.terms.now c.loop-k.k _ _ c.loop-k-test.true within in
    sym (sym c.loop-k.invariant ∙ more ∙ ap (λ b. b && fits_from w c.args.slots.now c.args.terms.now (c.loop-k.k + 1)) (sym c.fits_slot.ensures ∙ c.if-not-fits_slot.true))

pub loop-k-preserved : goal.loop-k-preserved
loop-k-preserved c =
    let w = world_of c.args.self.now in
    let within : c.loop-k.k < length c.args.terms.now = omega arith in
    let more = fits_more w c.args.slots.now c.args.terms.now c.loop-k.k _ _ c.loop-k-test.true within in
    sym (more ∙ ap (λ b. b && fits_from w c.args.slots.now c.args.terms.now (c.loop-k.k + 1)) (sym c.fits_slot.ensures ∙ c.if-not-fits_slot.false)) ∙ c.loop-k.invariant
