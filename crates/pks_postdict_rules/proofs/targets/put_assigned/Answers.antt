use Rattle.std.proofs.Common.{◌≡◌, ◌∙◌, ◌++◌, List, ap, map}
use Rattle.pks_terms.specs.Syntax.{Apply, Literal}
use Rattle.pks_terms.specs.Settling.{argument_forms}
use Rattle.pks_terms.specs.Views.{term_of, terms_of, literals_in}
use Rattle.pks_kf.specs.Known.{literals_of}
use Rattle.pks_query_lookup.specs.declared.five.Five.{Five}
use Rattle.pks_query_lookup.specs.Reading.{first_inners}
use Rattle.pks_postdict_rules.specs.Changes.{signature_in, before_in, effects_by}
use Rattle.pks_postdict_rules.specs.Targets.{stable_terms, equations_at}
use Rattle.pks_postdict_rules.proofs.StableForms.{equations_of}
use Rattle.pks_postdict_rules.proofs.targets.put_assigned.Goals as goal

pub returns : goal.returns
returns c =
    let s = signature_in c.args.change.now in
    let d = before_in c.args.change.now in
    let es = effects_by c.args.change.now in
    let xs = first_inners c.in-App.n c.in-App.args in
    let places : terms_of c.as_slice.result.now ≡ map (Apply c.in-App.fun.0) (argument_forms d.kf xs) =
    ap terms_of c.as_slice.ensures.value ∙ c.in_ok-places.ensures ∙ ap (λ (f : Five). map (Apply c.in-App.fun.0) (argument_forms (literals_of f.kf) xs)) c.normals.ensures in
    let values : terms_of c.as_slice-2.result.now ≡ stable_terms s d es (term_of c.args.value.now) = ap terms_of c.as_slice-2.ensures.value ∙ c.in_ok-values.ensures in
    let all : equations_at s d es (terms_of c.as_slice.result.now) (terms_of c.as_slice-2.result.now) ≡ equations_at s d es (map (Apply c.in-App.fun.0) (argument_forms d.kf xs)) (stable_terms s d es (term_of c.args.value.now)) = λ i. equations_at s d es (places i) (values i) in
    rw c.in-App.is
    (c.in_ok-put_equations_at.ensures
    ∙ ap (λ (ls : List Literal). literals_in c.args.to.now.items ++ ls) (all ∙ equations_of s d es c.in-App.fun.0 (argument_forms d.kf xs) (stable_terms s d es (term_of c.args.value.now))))
