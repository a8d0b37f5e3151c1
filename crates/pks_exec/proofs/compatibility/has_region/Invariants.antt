use Rattle.std.proofs.Common.{◌≡◌, map, drop}
use Rattle.std.specs.List.{list_any}
use Rattle.pks_terms.specs.Views.{pattern_of, start_of}
use Rattle.pks_exec.specs.Instances.{is_region}
use Rattle.pks_exec.proofs.compatibility.has_region.Given as goal

abbrev pub invariant-loop-item : goal.invariant-loop-item
invariant-loop-item l =
    list_any (is_region (pattern_of l.x)) (map (λ i. start_of i.start) (drop l.item-index l.items))
    ≡ list_any (is_region (pattern_of l.x)) (map (λ i. start_of i.start) l.items)
