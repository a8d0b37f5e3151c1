use Rattle.std.proofs.Common.{◌≡◌, ◌∷◌, ◌∙◌, map, sym, ap, subst, refl, true≢false}
use Rattle.pks_terms.specs.Closure.{normal_entry}
use Rattle.pks_kf.specs.Known.{literals_of}
use Rattle.pks_lcw.specs.Entries.{entry_of, entries_of}
use Rattle.pks_query_lookup.specs.declared.five.Five.{Five as DFive}
use Rattle.pks_query_closing.proofs.tidied.are_own_regions.Goals as goal

pub loop-e-init : goal.loop-e-init
loop-e-init c = λ h.
    let n = normal_entry (literals_of c.args.d.now.kf) in
    subst (λ es. map n (entries_of es) ≡ entries_of es) (c.into_iter-e-iterator.ensures.into_iter_gives ∙ c.items-e-items.ensures.members ∙ ap (λ (five : DFive). five.lcw) c.five.ensures) h

pub loop-e-preserved : goal.loop-e-preserved
loop-e-preserved c = λ h.
    let n = normal_entry (literals_of c.args.d.now.kf) in
    let own : n (entry_of c.in-Some.e.now) ≡ entry_of c.in-Some.e.now =
    subst (λ (five : DFive). normal_entry (literals_of five.kf) (entry_of c.in-Some.e.now) ≡ entry_of c.in-Some.e.now) c.normals.ensures (c.is_own_region.ensures c.if-not-is_own_region.false) in
    c.loop-e.invariant (subst (λ es. map n (entries_of es) ≡ entries_of es) (sym c.in-Some.ensures.steps) (λ i. own i ∷ h i))

pub returns-then-not-is_own_region : goal.returns-then-not-is_own_region
returns-then-not-is_own_region c = λ h. absurd (true≢false (sym h))

pub returns : goal.returns
returns c = λ _.
    let n = normal_entry (literals_of c.args.d.now.kf) in
    c.loop-e.invariant (subst (λ es. map n (entries_of es) ≡ entries_of es) (sym c.in-None.ensures.steps.0) refl)
