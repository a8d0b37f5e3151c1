use Rattle.std.proofs.Common.{sym, ap, ◌∙◌}
use Rattle.pks_terms.specs.Closure.{tidied}
use Rattle.pks_query_lookup.specs.Fives.{five_of}
use Rattle.pks_postdict.specs.declared.family.Held.{Held}
use Rattle.pks_postdict.specs.Families.{held_of}
use Rattle.pks_postdict.proofs.Tidied.{closed_tidied}
use Rattle.pks_postdict.proofs.settling.tidy.Goals as goal

pub returns-in_ok-same-in-Closed : goal.returns-in_ok-same-in-Closed
returns-in_ok-same-in-Closed c =
    let d = five_of c.in-Closed.db in
    let closed = c.parts-closed.ensures.closed in
    ap five_of c.in_ok-same-in-Closed.ensures ∙ sym (closed_tidied closed.by closed.values d closed.closed) ∙ ap (λ (h : Held). tidied (held_of h)) (sym c.in-Closed.is)
