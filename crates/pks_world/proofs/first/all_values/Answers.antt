use Rattle.std.proofs.Common.{◌≡◌, ◌≤◌, ◌<◌, arith, length, take, ◌∙◌, List, [], map, slice_get, get_or, Some, sym, ap, subst}
use Rattle.std.proofs.lemmas.List.{length-map}
use Rattle.pks_terms.specs.Sets.{Each}
use Rattle.std.specs.Option.{option_map_or}
use Rattle.pks_terms.specs.Signatures.{Shape, objects_of}
use Rattle.pks_terms.specs.declared.ids.TypeId.{TypeId}
use Rattle.pks_terms.specs.declared.problem.Shape.{Shape as DShape}
use Rattle.pks_terms.specs.Views.{types_of, shape_of, signature_of}
use Rattle.pks_world.specs.First.{first_of, WritesAll}
use Rattle.pks_world.proofs.Filling.{least_more, filled_more, shape_at, each_at}
use Rattle.pks_world.proofs.first.all_values.Goals as goal

pub loop-f-preserved : goal.loop-f-preserved
loop-f-preserved c =
    let s = signature_of c.args.s.now in
    let items = c.as_slice-shape-items.result.now in
    let d : DShape = record { n = 0; args = []; result = record { 0 = 0 } } in
    let x : DShape = get_or items c.loop-f.f d in
    let v = c.least_of-least.result.0 in
    let declared : slice_get (map shape_of c.args.s.now.functions) c.loop-f.f ≡ Some (shape_of x) =
    subst (λ (xs : List DShape). slice_get (map shape_of xs) c.loop-f.f ≡ Some (shape_of x)) c.as_slice-shape-items.ensures (shape_at items c.loop-f.f d c.loop-f-test.true) in
    let narrow : Each (λ y. length (shape_of y).arguments ≤ 2) c.args.s.now.functions → length c.front-types.result.now ≤ 2 = λ few.
    let here = each_at (λ (y : DShape). length (shape_of y).arguments ≤ 2) items c.loop-f.f d (subst (λ (xs : List DShape). Each (λ y. length (shape_of y).arguments ≤ 2) xs) (sym c.as_slice-shape-items.ensures) few) c.loop-f-test.true in
    subst (λ (ts : List TypeId). length ts ≤ 2) (sym c.front-types.ensures) (subst (λ n. n ≤ 2) (length-map (take x.n x.args) (λ (t : TypeId). t.0)) here) in
    record {
      least = least_more s c.loop-f.f v c.loop-f.values.entries c.fill.new.values.entries (c.least_of-least.ensures ∙ sym (ap (λ o. option_map_or (λ (y : Shape). first_of (objects_of s y.result)) o 0) declared)) c.in_ok-fill.ensures.only c.loop-f.invariant.least;
      filled = λ few. filled_more s c.loop-f.f v (shape_of x) c.loop-f.values.entries c.fill.new.values.entries declared c.in_ok-fill.ensures.only
          (subst (λ (ts : List TypeId). WritesAll s c.loop-f.f (types_of ts) v c.fill.new.values.entries) c.front-types.ensures (c.in_ok-fill.ensures.all (narrow few))) (c.loop-f.invariant.filled few);
      counts = c.in_ok-fill.ensures.counts c.loop-f.invariant.counts;
    }

pub returns-clause-filled : goal.returns-clause-filled
returns-clause-filled c = λ few f ds x h q t.
    let long : length c.args.s.now.functions ≤ c.loop-f.f = subst (λ (xs : List DShape). length xs ≤ c.loop-f.f) c.as_slice-shape-items.ensures c.loop-f-test.false in
    let less : f < c.loop-f.f = omega arith in
    c.loop-f.invariant.filled few f ds x less q t
