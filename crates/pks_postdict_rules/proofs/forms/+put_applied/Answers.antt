use Rattle.std.proofs.Common.{List, ◌≡◌, ◌∷◌, ◌<◌, map, length, slice_index_or, append_assoc, rules, arith}
use Rattle.std.proofs.lemmas.List.{map-append, drop_more}
use Rattle.pks_terms.specs.declared.term.Inner.TheVariants.{Obj}
use Rattle.pks_terms.specs.Syntax.{Object, Inner}
use Rattle.pks_terms.specs.Settling.{inner_forms}
use Rattle.pks_terms.specs.Views.{object_of, inner_of}
use Rattle.pks_kf.specs.Known.{literals_of}
use Rattle.pks_query_lookup.specs.Reading.{first_inners}
use Rattle.pks_postdict_rules.proofs.Choices.{choices_own, front_within, front_at, front_set}
use Rattle.pks_postdict_rules.proofs.forms.+put_applied.Goals as goal

pub loop-d-init : goal.loop-d-init
loop-d-init t c =
    let forms = inner_forms (literals_of c.args.by.now.kf) in
    let k = c.args.at in
    let xs = first_inners c.args.n c.args.args.now in
    let x = slice_index_or c.args.args.now k (Obj (record { 0 = 0 })) in
    let ys : List Inner = map Object (map object_of c.values_inside-d-items.result.now) in
    let long : length c.args.args.now ≡ 2 = search rules in
    let below : k < c.args.n = omega arith in
    let small : k < 2 = omega arith in
    let within = front_within inner_of c.args.args.now c.args.n k 2 long below small in
    let own : inner_of x ∷ ys ≡ forms (inner_of x) = c.values_inside-d-items.ensures in
    let more = choices_own forms xs k (inner_of (Obj (record { 0 = 0 }))) (inner_of x) ys within (front_at inner_of c.args.args.now c.args.n k (Obj (record { 0 = 0 })) below within) own in
    rw (c.in_ok-put_applied.ensures, more, map-append, append_assoc)

pub loop-d-preserved : goal.loop-d-preserved
loop-d-preserved t c =
    let forms = inner_forms (literals_of c.args.by.now.kf) in
    let k = c.args.at in
    let d = slice_index_or c.values_inside-d-items.result.now c.loop-d.d-index (record { 0 = 0 }) in
    let below : k < c.args.n = omega arith in
    let put = front_set inner_of c.args.args.now c.args.n k (Obj d) below in
    let more = drop_more c.values_inside-d-items.result.now c.loop-d.d-index (record { 0 = 0 }) c.loop-d-test.true in
    let h = rw (more, map-append) at c.loop-d.invariant in
    rw (c.in_ok-put_applied-2.ensures, put, append_assoc) h
