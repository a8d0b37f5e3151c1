use Rattle.std.proofs.Common.{◌≡◌, ◌∙◌, ◌+◌, ◌<◌, List, ap, sym, take, length, flat_map, slice_index_or, slice_set, append_assoc, rules, arith}
use Rattle.std.proofs.lemmas.List.{map-append, drop_more}
use Rattle.pks_terms.specs.declared.term.Term.TheVariants.{Obj}
use Rattle.pks_terms.specs.Syntax.{Term}
use Rattle.pks_terms.specs.Views.{term_of, terms_of}
use Rattle.pks_postdict_rules.specs.Changes.{signature_in, before_in, effects_by}
use Rattle.pks_postdict_rules.specs.Choosing.{choices_after}
use Rattle.pks_postdict_rules.specs.Targets.{stable_terms}
use Rattle.pks_postdict_rules.proofs.Choices.{choices_more, front_within, front_at, front_set}
use Rattle.pks_postdict_rules.proofs.targets.+put_atoms.Goals as goal

pub loop-t-init : goal.loop-t-init
loop-t-init t c =
    let forms = stable_terms (signature_in c.args.change.now) (before_in c.args.change.now) (effects_by c.args.change.now) in
    let k = c.args.at in
    let xs = terms_of (take c.args.a.now.n c.args.args.now) in
    let x = slice_index_or c.args.args.now k (Obj (record { 0 = 0 })) in
    let long : length c.args.args.now ≡ 3 = search rules in
    let below : k < c.args.a.now.n = omega arith in
    let small : k < 3 = omega arith in
    let within = front_within term_of c.args.args.now c.args.a.now.n k 3 long below small in
    let here = front_at term_of c.args.args.now c.args.a.now.n k (Obj (record { 0 = 0 })) below within in
    let own : terms_of c.as_slice-t-items.result.now ≡ forms (term_of x) = ap terms_of c.as_slice-t-items.ensures.value ∙ c.in_ok-stable_terms.ensures in
    let more : choices_after forms k xs ≡ flat_map (λ y. choices_after forms (k + 1) (slice_set xs k y)) (terms_of c.as_slice-t-items.result.now) =
    choices_more forms xs k (term_of (Obj (record { 0 = 0 }))) within ∙ ap (flat_map (λ (y : Term). choices_after forms (k + 1) (slice_set xs k y))) (ap forms here ∙ sym own) in
    rw more

pub loop-t-preserved : goal.loop-t-preserved
loop-t-preserved t c =
    let k = c.args.at in
    let y = slice_index_or c.as_slice-t-items.result.now c.loop-t.t-index (Obj (record { 0 = 0 })) in
    let below : k < c.args.a.now.n = omega arith in
    let put = front_set term_of c.args.args.now c.args.a.now.n k y below in
    let more = drop_more c.as_slice-t-items.result.now c.loop-t.t-index (Obj (record { 0 = 0 })) c.loop-t-test.true in
    let h = rw (more, map-append) at c.loop-t.invariant in
    rw (c.in_ok-put_atoms.ensures, put, append_assoc) h
