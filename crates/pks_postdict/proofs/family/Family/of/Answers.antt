use Rattle.std.proofs.Common.{rules, arith, ◌≡◌, ◌≤◌, ◌-◌, nat_le, List, None, length, sym, ap, ◌∙◌, subst}
use Rattle.std.proofs.lemmas.List.{length-map}
use Rattle.std.proofs.lemmas.Option.{same_Some}
use Rattle.pks_terms.specs.Sets.{Each}
use Rattle.pks_terms.specs.Databases.{Five}
use Rattle.pks_terms.specs.Actions.{Instance}
use Rattle.pks_terms.specs.Handed.{IsStepOf}
use Rattle.pks_terms.specs.Closure.{first_clash}
use Rattle.pks_terms.specs.Settling.{steps_with_last, with_last}
use Rattle.pks_terms.specs.Saturated.{IsSaturated}
use Rattle.pks_terms.proofs.ListLaws.{each_weaker}
use Rattle.pks_terms.specs.Moments.{IsMomentOf}
use Rattle.pks_laws.proofs.SearchStates.{with_last_of}
use Rattle.pks_query_lookup.specs.Fives.{five_of}
use Rattle.pks_postdict.specs.Families.{held_of, link_of, links_of}
use Rattle.pks_postdict.specs.Growing.{AreSpared, IsFine}
use Rattle.pks_postdict.specs.Read.{AreRead}
use Rattle.pks_postdict.proofs.Sparing.{first_stays, fresh_spared, moment_saturated, moment_fine, read_with_last, fine_of, all_fine, last_as_long, last_steps}
use Rattle.pks_postdict.proofs.family.Family.of.Goals as goal

pub returns-then-last-eq0-clause-spared : goal.returns-then-last-eq0-clause-spared
returns-then-last-eq0-clause-spared c = λ p v moments moment some read.
    subst (AreSpared p c.fresh.result) (sym c.new.ensures.items) (
      λ h. subst (IsSaturated p.signature) (sym (ap held_of c.fresh.ensures.held)) (moment_saturated p.signature v.signature.values (five_of c.args.d) moment),
      subst (IsFine p.signature) (sym c.fresh.ensures.held) (moment_fine p.signature v.signature.values (five_of c.args.d) moment),
    )

pub returns-clause-moments : goal.returns-clause-moments
returns-clause-moments c =
    let h = c.args.h.now in
    let first : held_of c.fresh-2.result.held ≡ h.start = ap held_of c.fresh-2.ensures.held ∙ ap five_of c.in_ok-first.ensures ∙ sym (same_Some h.start (five_of c.at.result.now) c.at.ensures) in
    let later : 1 ≤ length h.steps = search rules in
    sym (first_stays h.start (five_of c.args.d) (held_of c.fresh-2.result.held) h.steps (links_of c.in_ok-later.later.items) later first c.in_ok-later.ensures.links)

pub returns-clause-spared : goal.returns-clause-spared
returns-clause-spared c = λ p v moments moment some read.
    let d = five_of c.args.d in
    let h = c.args.h.now in
    let values = v.signature.values in
    let s = p.signature in
    let all = with_last_of p v h d moments moment in
    let start = c.fresh-2.result in
    let xs = c.in_ok-later.later.items in
    let first : held_of start.held ≡ h.start = ap held_of c.fresh-2.ensures.held ∙ ap five_of c.in_ok-first.ensures ∙ sym (same_Some h.start (five_of c.at.result.now) c.at.ensures) in
    let later : 1 ≤ length h.steps = search rules in
    let links = c.in_ok-later.ensures.links in
    let steps : Each (λ (step : Instance × Five). IsSaturated s step.1) (with_last h d).steps = each_weaker (λ (step : Instance × Five). IsStepOf p step.0 × IsMomentOf s step.1) (λ (step : Instance × Five). IsSaturated s step.1) (λ step k. moment_saturated s values step.1 k.1) (with_last h d).steps all.steps in
    let fine : Each (λ (step : Instance × Five). first_clash s step.1 ≡ None) (with_last h d).steps = each_weaker (λ (step : Instance × Five). IsStepOf p step.0 × IsMomentOf s step.1) (λ (step : Instance × Five). first_clash s step.1 ≡ None) (λ step k. moment_fine s values step.1 k.1) (with_last h d).steps all.steps in
    let whole : links_of xs ≡ steps_with_last h.steps d = links ∙ last_steps h.start d h.steps later in
    let longer : length (links_of xs) ≡ length (steps_with_last h.steps d) = ap (λ (ys : List (Instance × Five)). length ys) whole in
    let mapped : length (links_of xs) ≡ length xs = length-map xs link_of in
    let kept : length (steps_with_last h.steps d) ≡ length h.steps = last_as_long d h.steps in
    let same : c.len-last.result - 1 ≡ length xs = omega (arith, c.len-last.ensures.count, longer, mapped, kept) in
    let grew : start.grew ≡ nat_le (length xs) c.args.unread = c.fresh-2.ensures.grew ∙ ap (λ m. nat_le m c.args.unread) same in
    let given : AreRead p c.args.unread h.start (steps_with_last h.steps d) = read_with_last p c.args.unread h.start d h.steps some read in
    let rest : AreRead p c.args.unread (held_of start.held) (links_of xs) = subst (λ (e : Five). AreRead p c.args.unread e (links_of xs)) (sym first) (subst (AreRead p c.args.unread h.start) (sym whole) given) in
    fresh_spared p c.args.unread start xs grew c.in_ok-later.ensures.marked
    (subst (IsSaturated s) (sym first) (moment_saturated s values h.start moments.start))
    (subst (Each (λ (step : Instance × Five). IsSaturated s step.1)) (sym links) steps)
    (fine_of s start.held (subst (λ (e : Five). first_clash s e ≡ None) (sym first) (moment_fine s values h.start moments.start)))
    (all_fine s xs (subst (Each (λ (step : Instance × Five). first_clash s step.1 ≡ None)) (sym links) fine))
    rest
