use Rattle.std.proofs.Common.{◌≡◌, length, sym, ◌∙◌}
use Rattle.std.proofs.lemmas.List.{length-map}
use Rattle.pks_terms.specs.Views.{pattern_of, problem_of}
use Rattle.pks_world.specs.Contents.{world_of}
use Rattle.pks_exec.specs.Instances.{is_told, all_instances}
use Rattle.pks_exec.proofs.Listing.{told_exactly}
use Rattle.pks_exec.proofs.compatibility.meets.Goals as goal

pub returns : goal.returns
returns c = λ world.
    let p = problem_of c.args.p.now in
    let w = world_of c.args.w.now in
    let x = pattern_of c.args.x.now in
    let many : length p.signature.objects ≡ length c.args.p.now.signature.objects = length-map c.args.p.now.signature.objects (λ t. t.0) in
    told_exactly p w x c.tells_all.result
    (c.tells_all.ensures ∙ λ i. all_instances w (sym many i) (is_told p w x.predicate) (c.none.ensures.objects i) (c.slots_in.ensures.slots i)) world
