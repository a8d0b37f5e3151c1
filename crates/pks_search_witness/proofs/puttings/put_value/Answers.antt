use Rattle.std.proofs.Common.{◌≡◌, true, List, [], take, map, sym, ap, ◌∙◌, subst}
use Rattle.pks_terms.specs.declared.term.Inner.{Inner as DInner}
use Rattle.pks_terms.specs.declared.term.Term.{Term as DTerm}
use Rattle.pks_terms.specs.Syntax.{object}
use Rattle.pks_terms.specs.Orders.{number_of, arguments_of}
use Rattle.pks_terms.specs.Actions.{Assign}
use Rattle.pks_terms.specs.Typed.{IsTypedTarget}
use Rattle.pks_terms.specs.Views.{inner_of, term_of, signature_of}
use Rattle.pks_world.specs.Contents.{places_of, has_place}
use Rattle.pks_search_witness.specs.Typing.{is_typed_place}
use Rattle.pks_search_witness.proofs.Typed.{assign_typed, place_kept}
use Rattle.pks_search_witness.proofs.puttings.put_value.Goals as goal

pub put_value-requires : goal.put_value-requires
put_value-requires c =
    let s = signature_of c.args.p.now.signature in
    let w = c.args.w.now in
    let ts = map inner_of (take c.in-App.n c.in-App.args) in
    let typed : is_typed_place s c.in-App.fun.0 ts c.in-Obj.d.0 ≡ true = sym (c.is_typed_place.ensures ∙ ap (λ (us : List DInner). is_typed_place s c.in-App.fun.0 (map inner_of us) c.in-Obj.d.0) c.front.ensures) ∙ c.if-is_typed_place.true in
    subst (λ (t : DTerm). has_place (places_of w) (term_of t) ≡ true) (sym c.in-App.is) (place_kept s w c.in-App.fun.0 ts c.in-Obj.d.0 typed c.requires)

pub returns-then-is_typed_place : goal.returns-then-is_typed_place
returns-then-is_typed_place c =
    let s = signature_of c.args.p.now.signature in
    let ts = map inner_of (take c.in-App.n c.in-App.args) in
    let typed : is_typed_place s c.in-App.fun.0 ts c.in-Obj.d.0 ≡ true = sym (c.is_typed_place.ensures ∙ ap (λ (us : List DInner). is_typed_place s c.in-App.fun.0 (map inner_of us) c.in-Obj.d.0) c.front.ensures) ∙ c.if-is_typed_place.true in
    c.put_value.ensures.of_signature s (subst (λ (t : DTerm). IsTypedTarget s [] (Assign (number_of (term_of t)) (arguments_of (term_of t)) (object c.in-Obj.d.0))) (sym c.in-App.is) (assign_typed s c.in-App.fun.0 ts c.in-Obj.d.0 typed)) c.requires
