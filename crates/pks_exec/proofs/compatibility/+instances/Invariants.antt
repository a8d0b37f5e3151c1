use Rattle.std.proofs.Common.{◌≡◌, ◌+◌, ◌*◌, ◌-◌, ◌++◌, ◌∷◌, [], map, length, None}
use Rattle.std.specs.List.{list_all}
use Rattle.std.specs.Option.{option_map}
use Rattle.pks_terms.specs.Printed.{numbers_from}
use Rattle.pks_terms.specs.Views.{term_of, problem_of}
use Rattle.pks_world.specs.Contents.{world_of}
use Rattle.pks_world.specs.Few.{few_of}
use Rattle.pks_exec.specs.Instances.{is_told, all_instances}
use Rattle.pks_exec.proofs.compatibility.+instances.Given as goal

abbrev pub decreases-tells_all : goal.decreases-tells_all
decreases-tells_all l = 2 * length l.slots.now

abbrev pub decreases-tells_each : goal.decreases-tells_each
decreases-tells_each l = 2 * length l.slots.now + 1

abbrev pub invariant-tells_each-loop-d : goal.invariant-tells_each-loop-d
invariant-tells_each-loop-d l =
    let passes = is_told (problem_of l.p) (world_of l.w) l.pred.0 in
    let n = length l.p.signature.objects in
    let rest = map (option_map term_of) l.slots in
    list_all (λ d. all_instances (world_of l.w) n passes (few_of l.objects ++ d ∷ []) rest) (numbers_from l.d (n - l.d)) ≡ all_instances (world_of l.w) n passes (few_of l.objects) (None ∷ rest)
