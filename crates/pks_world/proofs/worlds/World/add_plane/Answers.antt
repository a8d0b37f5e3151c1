use Rattle.std.proofs.Common.{ℕ, map}
use Rattle.pks_terms.specs.Views.{object_of, atom_of}
use Rattle.pks_world.specs.Contents.{world_of}
use Rattle.pks_world.specs.Observed.{row}
use Rattle.pks_world.proofs.Gathering.{added_more, added_all}
use Rattle.pks_world.proofs.worlds.World.add_plane.Goals as goal

pub loop-e-preserved : goal.loop-e-preserved
loop-e-preserved c =
    let g = λ (e : ℕ). row (world_of c.args.self.now) c.args.pred.0 c.args.n c.args.d.0 e (map object_of c.args.thirds.now) in
    record {
      says = added_more g c.args.seconds.now (map atom_of c.args.found.now.items) c.loop-e.e-index _ (map atom_of c.loop-e.found.items) (map atom_of c.add_row.new.found.items) c.loop-e-test.true c.in_ok-add_row.ensures.says c.loop-e.invariant.says;
      counts = λ n each. c.in_ok-add_row.ensures.counts n (c.loop-e.invariant.counts n each);
    }

pub returns-clause-says : goal.returns-clause-says
returns-clause-says c =
    let g = λ (e : ℕ). row (world_of c.args.self.now) c.args.pred.0 c.args.n c.args.d.0 e (map object_of c.args.thirds.now) in
    added_all g c.args.seconds.now (map atom_of c.args.found.now.items) c.loop-e.e-index (map atom_of c.loop-e.found.items) c.loop-e-test.false c.loop-e.invariant.says

pub returns-clause-counts : goal.returns-clause-counts
returns-clause-counts c = λ n each. c.loop-e.invariant.counts n each
