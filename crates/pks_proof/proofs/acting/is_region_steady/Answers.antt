use Rattle.std.proofs.Common.{◌≡◌, map, subst}
use Rattle.std.specs.List.{list_all}
use Rattle.std.specs.Option.{option_map}
use Rattle.pks_terms.specs.Progress.{fixed_terms}
use Rattle.pks_terms.specs.Reasons.{are_steady}
use Rattle.pks_terms.specs.Views.{term_of}
use Rattle.pks_lcw.specs.Entries.{atoms_of, entry_of}
use Rattle.pks_proof.specs.Doings.{before_in, moment_in, effects_by}
use Rattle.pks_proof.proofs.Targeting.{steady_then}
use Rattle.pks_proof.proofs.acting.is_region_steady.Goals as goal

pub returns-then-are_slots_steady : goal.returns-then-are_slots_steady
returns-then-are_slots_steady c =
    let j = before_in c.args.d.now in
    let m = moment_in c.args.d.now in
    let es = effects_by c.args.d.now in
    steady_then j m es (entry_of c.args.e.now) c.are_slots_steady.result c.are_atoms_steady.result
    (subst (λ zs. c.are_slots_steady.result ≡ are_steady j m es (fixed_terms (map (option_map term_of) zs))) c.front.ensures c.are_slots_steady.ensures)
    c.if-are_slots_steady.true
    (subst (λ zs. c.are_atoms_steady.result ≡ list_all (λ a. are_steady j m es a.arguments) (atoms_of zs)) c.as_slice.ensures.members c.are_atoms_steady.ensures)
