use Rattle.std.proofs.Common.{◌≡◌, ◌∙◌, ◌++◌, ◌+◌, ◌∷◌, [], ◌<◌, sym, ap, map, take, refl, append_assoc, slice_set, slice_index_or, arith, subst}
use Rattle.std.proofs.lemmas.List.{map_push, map-set, take_more}
use Rattle.std.proofs.Math.Seq.{take-set-lt}
use Rattle.pks_terms.specs.declared.term.Term.TheVariants.{Obj}
use Rattle.pks_terms.specs.Sets.{Each}
use Rattle.pks_terms.specs.Views.{term_of}
use Rattle.pks_query_lookup.proofs.Lists.{each_push}
use Rattle.pks_query_closing.proofs.steps.put_each.Goals as goal

pub loop-t-preserved : goal.loop-t-preserved
loop-t-preserved c =
    let new = c.in_ok-push.ensures.items in
    let t = slice_index_or c.args.steps.now c.loop-t.t-index (Obj (record { 0 = 0 })) in
    let within : c.args.i < c.args.n = omega arith in
    let put : map term_of (take c.args.n (slice_set c.args.items.now c.args.i t)) ≡ slice_set (map term_of (take c.args.n c.args.items.now)) c.args.i (term_of t) =
    ap (map term_of) (take-set-lt _ c.args.items.now c.args.i t within) ∙ map-set term_of (take c.args.n c.args.items.now) c.args.i t in
    let more : take (c.loop-t.t-index + 1) c.args.steps.now ≡ take c.loop-t.t-index c.args.steps.now ++ t ∷ [] = take_more _ _ _ c.loop-t-test.true in
    record {
      same = λ a. subst (Each (λ a. a.n ≡ c.args.n)) (sym new) (each_push (λ a. a.n ≡ c.args.n) _ _ (c.loop-t.invariant.same a) refl);
      terms = rw (new, map_push, more, map_push, map_push, put, c.loop-t.invariant.terms, append_assoc);
    }
