use Rattle.std.proofs.Common.{◌≡◌, ◌+◌, ◌-◌, ◌++◌, [], ◌∷◌, suc, take, sym, ap, ◌∙◌, subst, arith}
use Rattle.pks_terms.specs.Views.{instance_of}
use Rattle.pks_query_lookup.specs.Fives.{five_of}
use Rattle.pks_postdict.specs.declared.family.Link.{Link}
use Rattle.pks_postdict.specs.Families.{held_of, links_of}
use Rattle.pks_postdict.specs.Growing.{AreMarked}
use Rattle.pks_postdict.proofs.Reading.{taken_more, there_later}
use Rattle.pks_postdict.proofs.Sparing.{marked_push}
use Rattle.pks_postdict.proofs.Stepping.{links_push}
use Rattle.pks_postdict.proofs.family.links.Goals as goal

pub loop-k-preserved : goal.loop-k-preserved
loop-k-preserved c =
    let h = c.args.h.now in
    let k = c.loop-k.k in
    let link : Link = record { step = c.step.result.now; place = c.fresh.result } in
    let i = instance_of c.step.result.now in
    let d = five_of c.at.result.now in
    let held : held_of c.fresh.result.held ≡ d = ap held_of c.fresh.ensures.held ∙ ap five_of c.in_ok-db.ensures in
    let steps : links_of (c.loop-k.all.items ++ link ∷ []) ≡ take (k + 1) h.steps =
    links_push c.loop-k.all.items link ∙ (λ j. c.loop-k.invariant.0 j ++ (i, held j) ∷ []) ∙ sym (taken_more h.steps k i d c.step.ensures (there_later h.start _ k d c.at.ensures)) in
    let one : c.args.last - k ≡ suc (c.args.last - (k + 1)) = omega (arith, c.loop-k-test.true, c.requires.count) in (
      ap links_of c.in_ok-push.ensures.items ∙ steps,
      subst (AreMarked c.args.unread (c.args.last - (k + 1))) (sym c.in_ok-push.ensures.items) (marked_push c.args.unread (c.args.last - (k + 1)) (c.args.last - k) c.loop-k.all.items link one c.loop-k.invariant.1 c.fresh.ensures.grew),
    )
