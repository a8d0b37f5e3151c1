use Rattle.std.proofs.Common.{map}
use Rattle.pks_terms.specs.Views.{object_of, term_of}
use Rattle.pks_search_distance.specs.Gained.{given_of, given_to}
use Rattle.pks_search_distance.proofs.Lists.{added_more, added_all}
use Rattle.pks_search_distance.proofs.gains.add_all_given.Goals as goal

pub loop-x-preserved : goal.loop-x-preserved
loop-x-preserved c =
    let g = given_to (term_of c.args.place.now) in
    added_more given_of g c.args.xs.now (map object_of c.args.to.now.items) c.loop-x.x-index _ (map object_of c.loop-x.to.items) (map object_of c.add_given.new.to.items) c.loop-x-test.true
    c.in_ok-add_given.ensures c.loop-x.invariant

pub returns : goal.returns
returns c =
    added_all given_of (given_to (term_of c.args.place.now)) c.args.xs.now (map object_of c.args.to.now.items) c.loop-x.x-index (map object_of c.loop-x.to.items) c.loop-x-test.false c.loop-x.invariant
