use Rattle.std.proofs.Common.{◌≡◌, ◌++◌, List, [], sym, ◌∙◌, subst}
use Rattle.pks_terms.specs.Settling.{settled_steps, settle_round}
use Rattle.pks_terms.specs.Views.{problem_of}
use Rattle.pks_postdict.specs.declared.family.Link.{Link}
use Rattle.pks_postdict.specs.Families.{held_of, links_of}
use Rattle.pks_postdict.specs.Growing.{AreGrowths}
use Rattle.pks_postdict.proofs.round.round.Goals as goal

pub returns-clause-round : goal.returns-clause-round
unfolding settle_round
returns-clause-round c =
    let p = problem_of c.args.p.now in
    let d = held_of c.args.family.now.start.held in
    let steps : links_of c.put_next_links.new.to.items ≡ settled_steps p d (links_of c.args.family.now.later.items) =
    c.in_ok-put_next_links.ensures.links ∙ (λ i. links_of (c.new-later.ensures.items i) ++ settled_steps p d (links_of (c.as_slice.ensures.value i))) in
    λ i. record { start = c.in_ok-start.ensures.start i; steps = steps i }

pub returns-clause-later : goal.returns-clause-later
returns-clause-later c =
    subst (λ (xs : List Link). AreGrowths xs c.put_next_links.new.to.items) c.as_slice.ensures.value
    (c.in_ok-put_next_links.ensures.growths [] (subst (AreGrowths []) (sym c.new-later.ensures.items) tt))
