use Rattle.std.proofs.Common.{rules, ◌≡◌, ◌-◌, ◌/◌, ◌<◌, ◌∷◌, ◌++◌, sym, subst, arith}
use Rattle.pks_pmap.specs.Entries.{IsAscending}
use Rattle.pks_pmap.specs.Sides.{IsBuilt}
use Rattle.pks_pmap.proofs.Order.{ascending_front}
use Rattle.pks_pmap.proofs.Building.{around_one, rest_fits, built_ascending, built_balanced, built, built_none}
use Rattle.pks_pmap.proofs.tree.BalancedTree.+build.Goals as goal

pub returns-then-count-eq0 : goal.returns-then-count-eq0
returns-then-count-eq0 g t c = built_none c.args.count c.args.entries.now.items c.args.steps.now.made c.empty.result c.if-count-eq0.true c.empty.ensures

pub build-requires : goal.build-requires
build-requires g t c κs within =
    let less : c.args.count / 2 < t = omega (arith, c.if-count-eq0.false, c.decreases) in
    (less, (within.0, (within.1, (c.requires.0, omega (arith, c.requires.1)))))

pub build-requires-2 : goal.build-requires-2
build-requires-2 g t c κs within =
    let i : IsBuilt (c.args.count / 2) c.args.entries.now.items c.build.new.entries.items c.args.steps.now.made c.build.new.steps.made c.in_ok-right.right = c.in_ok-right.ensures in
    let some : 0 < c.args.count = omega (arith, c.if-count-eq0.false) in
    let less : c.args.count - 1 - c.args.count / 2 < t = omega (arith, c.if-count-eq0.false, c.decreases) in
    let one = around_one c.args.entries.now.items c.build.new.entries.items c.pop.new.self.items c.in_ok-right.right.0 c.in-Some.entry i.entries c.in-Some.ensures.items in
    let a = ascending_front g.K.Ord.cmp c.pop.new.self.items (c.in-Some.entry ∷ c.in_ok-right.right.0) (subst (IsAscending g.K.Ord.cmp) one c.requires.0) in
    let fits = rest_fits c.args.entries.now.items c.build.new.entries.items c.pop.new.self.items c.in_ok-right.right.0 c.in-Some.entry i.entries c.in-Some.ensures.items c.args.count (c.args.count / 2) i.is_count c.requires.1 some in
    (less, (within.0, (within.1, (a, fits))))

pub make-requires-clause-ascending : goal.make-requires-clause-ascending
make-requires-clause-ascending g t c =
    let some : 0 < c.args.count = omega (arith, c.if-count-eq0.false) in
    let e : c.in_ok-pair.pair.value ≡ c.in-Some.entry = search rules in
    let a =
    built_ascending g.K.Ord.cmp c.args.entries.now.items c.build.new.entries.items c.pop.new.self.items c.build-2.new.entries.items c.in-Some.entry c.in_ok-left.left c.in_ok-right.right c.args.count c.args.steps.now.made c.build.new.steps.made c.build-2.new.steps.made some c.in_ok-right.ensures c.in-Some.ensures.items c.in_ok-left.ensures c.requires.0
    in
    subst (λ z. IsAscending g.K.Ord.cmp (c.in_ok-left.left.0 ++ z ∷ c.in_ok-right.right.0)) (sym e) a

pub make-requires-clause-balanced : goal.make-requires-clause-balanced
make-requires-clause-balanced g t c =
    let some : 0 < c.args.count = omega (arith, c.if-count-eq0.false) in
    built_balanced g.K.Ord.cmp c.args.entries.now.items c.build.new.entries.items c.pop.new.self.items c.build-2.new.entries.items c.in-Some.entry c.in_ok-left.left c.in_ok-right.right c.args.count c.args.steps.now.made c.build.new.steps.made c.build-2.new.steps.made some c.in_ok-right.ensures c.in-Some.ensures.items c.in_ok-left.ensures

pub returns : goal.returns
returns g t c =
    let some : 0 < c.args.count = omega (arith, c.if-count-eq0.false) in
    let e : c.in_ok-pair.pair.value ≡ c.in-Some.entry = search rules in
    built g.K.Ord.cmp c.args.entries.now.items c.build.new.entries.items c.pop.new.self.items c.build-2.new.entries.items c.in-Some.entry c.in_ok-left.left c.in_ok-right.right c.args.count c.args.steps.now.made c.build.new.steps.made c.build-2.new.steps.made some c.in_ok-right.ensures c.in-Some.ensures.items c.in_ok-left.ensures
    c.make.new.steps.made c.in_ok-tree.tree (rw (← e) c.in_ok-tree.ensures.made) c.in_ok-tree.ensures.raised
