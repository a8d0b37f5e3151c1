use Rattle.std.proofs.Common.{◌≡◌, ◌∙◌, ◌++◌, List, true, false, ap, sym, rules}
use Rattle.std.proofs.lemmas.List.{map-append}
use Rattle.pks_terms.specs.Actions.{Target, target_at, conj_at}
use Rattle.pks_terms.specs.Settling.{undoes}
use Rattle.pks_terms.specs.Spoiling.{some_may}
use Rattle.pks_terms.specs.Syntax.{Literal}
use Rattle.pks_terms.specs.Views.{literal_of, literals_in, conj_of, target_of}
use Rattle.pks_query_lookup.specs.Fives.{five_of}
use Rattle.pks_postdict_rules.specs.Changes.{signature_in, before_in, given_in, effects_by, some_effects}
use Rattle.pks_postdict_rules.specs.Targets.{is_denied_after, denied_alone}
use Rattle.pks_postdict_rules.proofs.Effects.{given_so}
use Rattle.pks_postdict_rules.proofs.firing.put_cannot_have_fired.Goals as goal

pub returns : goal.returns
returns c =
    let s = signature_in c.args.change.now in
    let d = before_in c.args.change.now in
    let later = some_effects c.args.change.now c.args.later.now in
    let x = target_at (given_in c.args.change.now) (target_of c.args.e.now.target) in
    let cond = conj_at (given_in c.args.change.now) (conj_of c.args.e.now.cond) in
    let after = five_of c.args.after.now in
    let passed : c.in_ok-is_denied_after.field-0 ≡ true = search rules in
    let denied : is_denied_after s (effects_by c.args.change.now) d after x ≡ true = sym c.in_ok-is_denied_after.ensures ∙ passed in
    let undone : some_may s d (undoes s d x) later ≡ false =
    ap (λ (y : Target). some_may s d (undoes s d y) later) (sym c.at.ensures.says) ∙ sym c.can_be_undone.ensures ∙ c.if-can_be_undone.false in
    let whole : literals_in c.front.result.now ≡ cond = ap literals_in c.front.ensures ∙ c.at-cond.ensures.says in
    let says : literals_in c.as_slice.result.now ≡ denied_alone s d cond =
    ap literals_in c.as_slice.ensures.value ∙ c.in_ok-denied.ensures ∙ ap (denied_alone s d) whole in
    ap literals_in c.in_ok-extend_from_slice.ensures.items
    ∙ map-append literal_of c.args.to.now.items c.as_slice.result.now
    ∙ ap (λ (ls : List Literal). literals_in c.args.to.now.items ++ ls) (says ∙ given_so (is_denied_after s (effects_by c.args.change.now) d after x) (some_may s d (undoes s d x) later) (denied_alone s d cond) denied undone)
