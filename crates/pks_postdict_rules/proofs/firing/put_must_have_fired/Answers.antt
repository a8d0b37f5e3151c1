use Rattle.std.proofs.Common.{◌≡◌, ◌∙◌, ◌++◌, List, true, false, ap, sym, rules}
use Rattle.std.proofs.lemmas.List.{map-append}
use Rattle.pks_terms.specs.Actions.{Target, target_at, conj_at}
use Rattle.pks_terms.specs.Settling.{makes_same}
use Rattle.pks_terms.specs.Spoiling.{some_may}
use Rattle.pks_terms.specs.Syntax.{Literal}
use Rattle.pks_terms.specs.Views.{literal_of, literals_in, conj_of, target_of}
use Rattle.pks_query_lookup.specs.Fives.{five_of}
use Rattle.pks_postdict_rules.specs.Changes.{signature_in, before_in, given_in, effects_by, some_effects}
use Rattle.pks_postdict_rules.specs.Targets.{has_turned}
use Rattle.pks_postdict_rules.proofs.Effects.{given_so}
use Rattle.pks_postdict_rules.proofs.firing.put_must_have_fired.Goals as goal

pub returns : goal.returns
returns c =
    let s = signature_in c.args.change.now in
    let d = before_in c.args.change.now in
    let others = some_effects c.args.change.now c.args.earlier.now ++ some_effects c.args.change.now c.args.later.now in
    let x = target_at (given_in c.args.change.now) (target_of c.args.e.now.target) in
    let cond = conj_at (given_in c.args.change.now) (conj_of c.args.e.now.cond) in
    let after = five_of c.args.after.now in
    let passed : c.in_ok-has_turned.field-0 ≡ true = search rules in
    let turned : has_turned s (effects_by c.args.change.now) d after x ≡ true = sym c.in_ok-has_turned.ensures ∙ passed in
    let made : some_may s d (makes_same s d x) others ≡ false =
    ap (λ (y : Target). some_may s d (makes_same s d y) others) (sym c.at.ensures.says) ∙ sym c.is_made_otherwise.ensures ∙ c.if-is_made_otherwise.false in
    let says : literals_in c.front-literals.result.now ≡ cond = ap literals_in c.front-literals.ensures ∙ c.at-cond.ensures.says in
    ap literals_in c.in_ok-extend_from_slice.ensures.items
    ∙ map-append literal_of c.args.to.now.items c.front-literals.result.now
    ∙ ap (λ (ls : List Literal). literals_in c.args.to.now.items ++ ls) (says ∙ given_so (has_turned s (effects_by c.args.change.now) d after x) (some_may s d (makes_same s d x) others) cond turned made)
