use Rattle.std.proofs.Common.{◌≡◌, ◌≤◌, ◌∙◌, ap, map, length, arith}
use Rattle.std.proofs.lemmas.List.{length-map}
use Rattle.pks_terms.specs.Views.{object_of, types_of, signature_of}
use Rattle.pks_world.proofs.Filling.{rows_only, rows_all}
use Rattle.pks_world.proofs.first.fill.Goals as goal

pub returns-clause-only : goal.returns-clause-only
returns-clause-only c = rows_only c.args.fun.0 _ c.args.d.0 c.deref.result.now c.deref-2.result.now c.args.values.now.entries c.keep_rows.new.values.entries c.in_ok-keep_rows.ensures.says

pub returns-clause-all : goal.returns-clause-all
returns-clause-all c = λ few.
    let same : length (types_of c.args.types.now) ≡ length c.args.types.now = length-map c.args.types.now _ in
    let long : c.min.result ≡ length (types_of c.args.types.now) = omega (arith, c.min.ensures) in
    let most : length (types_of c.args.types.now) ≤ 2 = omega arith in
    rows_all (signature_of c.args.s.now) c.args.fun.0 c.deref.result.now c.deref-2.result.now c.min.result c.args.d.0 (types_of c.args.types.now) c.args.values.now.entries c.keep_rows.new.values.entries long most
    (ap (map object_of) c.deref.ensures.value ∙ c.in_ok-firsts.ensures) (ap (map object_of) c.deref-2.ensures.value ∙ c.in_ok-seconds.ensures) c.in_ok-keep_rows.ensures.says
