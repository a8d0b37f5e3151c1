use Rattle.std.proofs.Common.{◌≡◌, ◌∙◌, ◌++◌, ◌+◌, ◌<◌, min, ap, map, length, append_assoc, slice_set, slice_index_or, rules, arith}
use Rattle.std.proofs.lemmas.List.{map-append}
use Rattle.pks_terms.specs.declared.term.Inner.TheVariants.{Obj}
use Rattle.pks_terms.specs.Closure.{inner_steps}
use Rattle.pks_terms.specs.Syntax.{Apply}
use Rattle.pks_terms.specs.Views.{inner_of, term_of}
use Rattle.pks_kf.specs.Known.{literals_of}
use Rattle.pks_query_lookup.specs.Reading.{first_inners}
use Rattle.pks_query_closing.specs.Reading.{replaced_from}
use Rattle.pks_query_closing.proofs.Replacing.{replaced_from_start, replaced_from_more, get_or-front, within_front}
use Rattle.pks_query_closing.proofs.steps.put_argument_steps.Goals as goal

pub loop-i-init : goal.loop-i-init
loop-i-init c = ap (λ zs. map term_of c.args.to.now.items ++ map (Apply c.args.fun.0) zs) (replaced_from_start (inner_steps (literals_of c.args.by.now.kf)) (first_inners c.args.n c.args.args.now))

pub loop-i-preserved : goal.loop-i-preserved
loop-i-preserved c =
    let step = inner_steps (literals_of c.args.by.now.kf) in
    let xs = first_inners c.args.n c.args.args.now in
    let x = slice_index_or c.args.args.now c.loop-i.i (Obj (record { 0 = 0 })) in
    let long : length c.args.args.now ≡ 2 = search rules in
    let test : c.loop-i.i < min c.args.n 2 = search rules in
    let below : c.loop-i.i < c.args.n = omega arith in
    let within = within_front inner_of c.args.args.now c.args.n c.loop-i.i 2 long test in
    let here = get_or-front inner_of c.args.args.now c.args.n c.loop-i.i (Obj (record { 0 = 0 })) below in
    let more : replaced_from step c.loop-i.i xs ≡ map (slice_set xs c.loop-i.i) (step (inner_of x)) ++ replaced_from step (c.loop-i.i + 1) xs =
    replaced_from_more step xs c.loop-i.i (inner_of (Obj (record { 0 = 0 }))) within ∙ ap (λ y. map (slice_set xs c.loop-i.i) (step y) ++ replaced_from step (c.loop-i.i + 1) xs) here in
    let found : map inner_of c.as_slice.result.now ≡ step (inner_of x) = ap (map inner_of) c.as_slice.ensures.value ∙ c.in_ok-steps.ensures in
    let h = rw (more, map-append) at c.loop-i.invariant in
    rw (c.in_ok-put_applied.ensures, found, append_assoc) h
