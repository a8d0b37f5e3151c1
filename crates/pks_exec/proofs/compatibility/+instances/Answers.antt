use Rattle.std.proofs.Common.{ℕ, ◌<◌, ◌-◌, ◌+◌, ◌&&◌, ◌≡◌, ◌++◌, ◌∷◌, [], Bool, true, map, length, arith, sym, ap, ◌∙◌}
use Rattle.std.specs.List.{list_all}
use Rattle.std.specs.Option.{option_map}
use Rattle.pks_terms.specs.Printed.{numbers_from}
use Rattle.pks_terms.specs.Views.{term_of, problem_of}
use Rattle.pks_world.specs.Contents.{world_of}
use Rattle.pks_world.specs.Few.{few_of}
use Rattle.pks_exec.specs.Instances.{is_told, all_instances}
use Rattle.pks_exec.proofs.Meeting.{numbers_more}
use Rattle.pks_exec.proofs.compatibility.+instances.Goals as goal

pub tells_each-loop-d-preserved : goal.tells_each-loop-d-preserved
tells_each-loop-d-preserved t c =
    let n = length c.args.p.now.signature.objects in
    let before = few_of c.args.objects.now in
    let told = λ (ds : _). all_instances (world_of c.args.w.now) n (is_told (problem_of c.args.p.now) (world_of c.args.w.now) c.args.pred.0) ds (map (option_map term_of) c.args.slots.now) in
    let passes : ℕ → Bool = λ d. told (before ++ d ∷ []) in
    let d = c.loop-d.d in
    let within : d < n = omega arith in
    let later = numbers_from (d + 1) (n - (d + 1)) in
    let here : passes d ≡ true = sym (ap told c.with.ensures.objects) ∙ (sym c.tells_all.ensures ∙ c.if-not-tells_all.false) in
    sym (ap (λ b. b && list_all passes later) here) ∙ (sym (ap (list_all passes) (numbers_more d n within)) ∙ c.loop-d.invariant)
