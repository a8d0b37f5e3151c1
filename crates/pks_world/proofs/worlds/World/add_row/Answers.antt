use Rattle.std.proofs.Common.{ℕ, [], ◌∷◌, map, take}
use Rattle.pks_terms.specs.Views.{atom_of}
use Rattle.pks_world.specs.Contents.{world_of}
use Rattle.pks_world.specs.Observed.{true_at}
use Rattle.pks_world.proofs.Gathering.{added_more, added_all}
use Rattle.pks_world.proofs.worlds.World.add_row.Goals as goal

pub loop-f-preserved : goal.loop-f-preserved
loop-f-preserved c =
    let g = λ (f : ℕ). true_at (world_of c.args.self.now) c.args.pred.0 (take c.args.n (c.args.d.0 ∷ c.args.e.0 ∷ f ∷ [])) in
    record {
      says = added_more g c.args.others.now (map atom_of c.args.found.now.items) c.loop-f.f-index _ (map atom_of c.loop-f.found.items) (map atom_of c.add_true.new.found.items) c.loop-f-test.true (c.in_ok-add_true.ensures.says c.args.pred.0 _ c.atom_at.ensures.says) c.loop-f.invariant.says;
      counts = λ n each. c.in_ok-add_true.ensures.counts (c.atom_at.ensures.counts n) (c.loop-f.invariant.counts n each);
    }

pub returns-clause-says : goal.returns-clause-says
returns-clause-says c =
    let g = λ (f : ℕ). true_at (world_of c.args.self.now) c.args.pred.0 (take c.args.n (c.args.d.0 ∷ c.args.e.0 ∷ f ∷ [])) in
    added_all g c.args.others.now (map atom_of c.args.found.now.items) c.loop-f.f-index (map atom_of c.loop-f.found.items) c.loop-f-test.false c.loop-f.invariant.says

pub returns-clause-counts : goal.returns-clause-counts
returns-clause-counts c = λ n each. c.loop-f.invariant.counts n each
