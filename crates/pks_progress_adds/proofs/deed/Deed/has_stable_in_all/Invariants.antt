use Rattle.std.proofs.Common.{◌≡◌, drop}
use Rattle.pks_terms.specs.Progress.{conj_parameters, arguments_stable}
use Rattle.pks_terms.specs.Views.{literals_in}
use Rattle.pks_progress_adds.specs.Deeds.{signature_in, five_in, normals_in, effects_in}
use Rattle.pks_progress_adds.proofs.deed.Deed.has_stable_in_all.Given as goal

abbrev pub invariant-loop-l : goal.invariant-loop-l
invariant-loop-l l = arguments_stable (signature_in l.self) (five_in l.self) (effects_in l.self) (normals_in l.self) (conj_parameters (literals_in (drop l.l-index l.ls))) ≡ arguments_stable (signature_in l.self) (five_in l.self) (effects_in l.self) (normals_in l.self) (conj_parameters (literals_in l.ls))
