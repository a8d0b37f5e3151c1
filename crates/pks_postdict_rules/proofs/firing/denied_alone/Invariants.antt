use Rattle.std.proofs.Common.{◌≡◌, ◌∷◌, [], ◌++◌, cond, take, drop, flat_map}
use Rattle.std.specs.List.{list_all}
use Rattle.pks_terms.specs.Databases.{holds}
use Rattle.pks_terms.specs.Syntax.{negated}
use Rattle.pks_terms.specs.Views.{literals_in}
use Rattle.pks_postdict_rules.specs.Changes.{signature_in, before_in}
use Rattle.pks_postdict_rules.specs.Targets.{others_after, denied_alone}
use Rattle.pks_postdict_rules.proofs.firing.denied_alone.Given as goal

abbrev pub invariant-loop-k : goal.invariant-loop-k
invariant-loop-k l =
    literals_in l.denied.items ++ flat_map (λ p. cond (list_all (holds (signature_in l.change) (before_in l.change)) p.1) (negated p.0 ∷ []) []) (others_after (literals_in (take l.k l.literals)) (literals_in (drop l.k l.literals)))
    ≡ denied_alone (signature_in l.change) (before_in l.change) (literals_in l.literals)
