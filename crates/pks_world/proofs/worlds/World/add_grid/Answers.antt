use Rattle.std.proofs.Common.{ℕ, map}
use Rattle.pks_terms.specs.Views.{object_of, atom_of}
use Rattle.pks_world.specs.Contents.{world_of}
use Rattle.pks_world.specs.Observed.{plane}
use Rattle.pks_world.proofs.Gathering.{added_more, added_all}
use Rattle.pks_world.proofs.worlds.World.add_grid.Goals as goal

pub loop-d-preserved : goal.loop-d-preserved
loop-d-preserved c =
    let g = λ (d : ℕ). plane (world_of c.args.self.now) c.args.pred.0 c.args.n d (map object_of c.args.seconds.now) (map object_of c.args.thirds.now) in
    record {
      says = added_more g c.args.firsts.now (map atom_of c.args.found.now.items) c.loop-d.d-index _ (map atom_of c.loop-d.found.items) (map atom_of c.add_plane.new.found.items) c.loop-d-test.true c.in_ok-add_plane.ensures.says c.loop-d.invariant.says;
      counts = λ n each. c.in_ok-add_plane.ensures.counts n (c.loop-d.invariant.counts n each);
    }

pub returns-clause-says : goal.returns-clause-says
returns-clause-says c =
    let g = λ (d : ℕ). plane (world_of c.args.self.now) c.args.pred.0 c.args.n d (map object_of c.args.seconds.now) (map object_of c.args.thirds.now) in
    added_all g c.args.firsts.now (map atom_of c.args.found.now.items) c.loop-d.d-index (map atom_of c.loop-d.found.items) c.loop-d-test.false c.loop-d.invariant.says

pub returns-clause-counts : goal.returns-clause-counts
returns-clause-counts c = λ n each. c.loop-d.invariant.counts n each
