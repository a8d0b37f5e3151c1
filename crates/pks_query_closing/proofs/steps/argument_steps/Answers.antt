use Rattle.std.proofs.Common.{◌≡◌, ◌∙◌, ◌++◌, ◌+◌, ◌<◌, ◌≤◌, min, sym, ap, map, take, length, append_assoc, append-nil, slice_set, slice_index_or, rules, arith}
use Rattle.pks_terms.specs.declared.term.Term.TheVariants.{Obj}
use Rattle.pks_terms.specs.Closure.{term_steps}
use Rattle.pks_terms.specs.Views.{term_of, arguments_in}
use Rattle.pks_kf.specs.Known.{literals_of}
use Rattle.pks_query_closing.specs.Reading.{replaced_from}
use Rattle.pks_query_closing.proofs.Replacing.{replaced_from_start, replaced_from_more, replaced_from_end, get_or-front, within_front, past_front}
use Rattle.pks_query_closing.proofs.steps.argument_steps.Goals as goal

pub loop-i-init : goal.loop-i-init
loop-i-init c = record { same = rw c.new-all.ensures.items tt; terms = rw c.new-all.ensures.items (replaced_from_start (term_steps (literals_of c.args.by.now.kf)) (map term_of (take c.args.n c.args.items.now))) }

pub loop-i-preserved : goal.loop-i-preserved
loop-i-preserved c =
    let step = term_steps (literals_of c.args.by.now.kf) in
    let xs = map term_of (take c.args.n c.args.items.now) in
    let x = slice_index_or c.args.items.now c.loop-i.i (Obj (record { 0 = 0 })) in
    let long : length c.args.items.now ≡ 3 = search rules in
    let test : c.loop-i.i < min c.args.n 3 = search rules in
    let below : c.loop-i.i < c.args.n = omega arith in
    let within = within_front term_of c.args.items.now c.args.n c.loop-i.i 3 long test in
    let here = get_or-front term_of c.args.items.now c.args.n c.loop-i.i (Obj (record { 0 = 0 })) below in
    let more : replaced_from step c.loop-i.i xs ≡ map (slice_set xs c.loop-i.i) (step (term_of x)) ++ replaced_from step (c.loop-i.i + 1) xs =
    replaced_from_more step xs c.loop-i.i (term_of (Obj (record { 0 = 0 }))) within ∙ ap (λ y. map (slice_set xs c.loop-i.i) (step y) ++ replaced_from step (c.loop-i.i + 1) xs) here in
    let found : map term_of c.as_slice.result.now ≡ step (term_of x) = ap (map term_of) c.as_slice.ensures.value ∙ c.in_ok-steps.ensures in
    let h = rw more at c.loop-i.invariant.terms in
    record {
      same = c.in_ok-put_each.ensures.same c.loop-i.invariant.same;
      terms = rw (c.in_ok-put_each.ensures.terms, found, append_assoc) h;
    }

pub returns-clause-terms : goal.returns-clause-terms
returns-clause-terms c =
    let long : length c.args.items.now ≡ 3 = search rules in
    let past : min c.args.n 3 ≤ c.loop-i.i = search rules in
    let none = replaced_from_end (term_steps (literals_of c.args.by.now.kf)) (map term_of (take c.args.n c.args.items.now)) c.loop-i.i (past_front term_of c.args.items.now c.args.n c.loop-i.i 3 long past) in
    sym (append-nil (map arguments_in c.loop-i.all.items)) ∙ (rw none at c.loop-i.invariant.terms)
