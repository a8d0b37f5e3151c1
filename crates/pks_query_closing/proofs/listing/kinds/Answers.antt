use Rattle.std.proofs.Common.{◌≡◌, ◌∙◌, true, refl, sym, subst}
use Rattle.std.proofs.lemmas.Bool.{and_from}
use Rattle.pks_lcw.specs.Entries.{entry_of, entries_of}
use Rattle.pks_query_closing.specs.Listing.{all_pass}
use Rattle.pks_query_closing.proofs.listing.kinds.Goals as goal

pub loop-region-init : goal.loop-region-init
loop-region-init c = λ test k h. subst (λ es. all_pass test (entries_of es) ≡ true) (c.into_iter-region-iterator.ensures.into_iter_gives ∙ c.items-region-items.ensures.members) h

pub loop-region-preserved : goal.loop-region-preserved
loop-region-preserved c = λ test k h.
    let e = entry_of c.in-Some.region.now in
    c.loop-region.invariant test (c.in_ok-put_kind.ensures.old test k)
    (subst (λ es. all_pass test (entries_of es) ≡ true) (sym c.in-Some.ensures.steps) (and_from (test e.pattern.predicate e.listed) _ (c.in_ok-put_kind.ensures.one test k) h))

pub returns : goal.returns
returns c = λ test k. c.loop-region.invariant test k (subst (λ es. all_pass test (entries_of es) ≡ true) (sym c.in-None.ensures.steps.0) refl)
