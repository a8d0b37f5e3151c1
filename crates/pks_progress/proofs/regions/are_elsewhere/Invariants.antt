use Rattle.std.proofs.Common.{◌≡◌, drop}
use Rattle.std.specs.List.{list_all}
use Rattle.pks_terms.specs.Views.{pattern_of, signature_of}
use Rattle.pks_kf.specs.Known.{literals_of}
use Rattle.pks_lcw.specs.Entries.{atoms_of}
use Rattle.pks_progress.specs.Kept.{is_elsewhere}
use Rattle.pks_progress.proofs.regions.are_elsewhere.Given as goal

abbrev pub invariant-loop-a : goal.invariant-loop-a
invariant-loop-a l = list_all (is_elsewhere (signature_of l.s) (literals_of l.d.kf) (pattern_of l.x)) (atoms_of (drop l.a-index l.atoms)) ≡ list_all (is_elsewhere (signature_of l.s) (literals_of l.d.kf) (pattern_of l.x)) (atoms_of l.atoms)
