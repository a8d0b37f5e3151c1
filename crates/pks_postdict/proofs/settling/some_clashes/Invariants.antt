use Rattle.std.proofs.Common.{◌≡◌, drop, is_some}
use Rattle.std.specs.List.{list_any}
use Rattle.pks_terms.specs.Sets.{Each}
use Rattle.pks_terms.specs.Closure.{first_clash}
use Rattle.pks_terms.specs.Views.{signature_of}
use Rattle.pks_postdict.specs.Families.{links_of}
use Rattle.pks_postdict.specs.Growing.{IsFine}
use Rattle.pks_postdict.proofs.settling.some_clashes.Given as goal

abbrev pub invariant-loop-x : goal.invariant-loop-x
invariant-loop-x l = (Each (λ x. IsFine (signature_of l.s) x.place.held) (drop l.x-index l.later)) × (list_any (λ step. is_some (first_clash (signature_of l.s) step.1)) (links_of (drop l.x-index l.later)) ≡ list_any (λ step. is_some (first_clash (signature_of l.s) step.1)) (links_of l.later))
