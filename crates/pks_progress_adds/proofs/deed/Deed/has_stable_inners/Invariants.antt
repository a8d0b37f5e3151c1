use Rattle.std.proofs.Common.{◌≡◌, [], drop, map}
use Rattle.std.specs.List.{flat_map}
use Rattle.pks_terms.specs.Progress.{form_parameters, arguments_stable}
use Rattle.pks_terms.specs.Views.{inner_of}
use Rattle.pks_progress_adds.specs.Deeds.{signature_in, five_in, normals_in, effects_in}
use Rattle.pks_progress_adds.proofs.deed.Deed.has_stable_inners.Given as goal

abbrev pub invariant-loop-t : goal.invariant-loop-t
invariant-loop-t l = arguments_stable (signature_in l.self) (five_in l.self) (effects_in l.self) (normals_in l.self) (flat_map (form_parameters (λ d. [])) (map inner_of (drop l.t-index l.ts))) ≡ arguments_stable (signature_in l.self) (five_in l.self) (effects_in l.self) (normals_in l.self) (flat_map (form_parameters (λ d. [])) (map inner_of l.ts))
