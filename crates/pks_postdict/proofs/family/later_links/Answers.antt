use Rattle.std.proofs.Common.{◌≡◌, ◌≤◌, ◌++◌, ◌-◌, [], ◌∷◌, suc, sym, ap, ◌∙◌, subst, arith}
use Rattle.std.proofs.lemmas.Bool.{le-leb}
use Rattle.pks_terms.specs.Views.{instance_of}
use Rattle.pks_query_lookup.specs.Fives.{five_of}
use Rattle.pks_postdict.specs.declared.family.Link.{Link}
use Rattle.pks_postdict.specs.Families.{held_of, links_of}
use Rattle.pks_postdict.proofs.Reading.{with_last_steps}
use Rattle.pks_postdict.specs.Growing.{AreMarked}
use Rattle.pks_postdict.proofs.Sparing.{marked_push}
use Rattle.pks_postdict.proofs.Stepping.{links_push}
use Rattle.pks_postdict.proofs.family.later_links.Goals as goal

pub returns-clause-links : goal.returns-clause-links
returns-clause-links c =
    let link : Link = record { step = c.step.result.now; place = c.fresh.result } in
    let i = instance_of c.step.result.now in
    ap links_of c.in_ok-push.ensures.items
    ∙ links_push c.in_ok-all.all.items link
    ∙ (λ j. c.in_ok-all.ensures.links j ++ (i, held_of (c.fresh.ensures.held j)) ∷ [])
    ∙ sym (with_last_steps c.args.h.now c.args.last i (five_of c.args.d) c.requires.later c.requires.last c.step.ensures)

pub returns-clause-marked : goal.returns-clause-marked
returns-clause-marked c =
    let link : Link = record { step = c.step.result.now; place = c.fresh.result } in
    let none : 0 ≤ c.args.unread = omega arith in
    let one : c.args.last - (c.args.last - 1) ≡ suc 0 = omega (arith, c.requires.later) in
    subst (AreMarked c.args.unread 0) (sym c.in_ok-push.ensures.items) (marked_push c.args.unread 0 (c.args.last - (c.args.last - 1)) c.in_ok-all.all.items link one c.in_ok-all.ensures.marked (c.fresh.ensures.grew ∙ sym (le-leb 0 c.args.unread none)))
