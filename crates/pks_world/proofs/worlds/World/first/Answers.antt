use Rattle.std.proofs.Common.{◌≤◌, ◌<◌, length, subst, sym}
use Rattle.std.proofs.lemmas.List.{length-map}
use Rattle.std.proofs.lemmas.Option.{slice_get_within}
use Rattle.pks_terms.specs.Sets.{Each}
use Rattle.pks_terms.specs.Signatures.{Shape}
use Rattle.pks_terms.specs.Meaning.{IsWorld}
use Rattle.pks_terms.specs.Views.{shape_of, signature_of}
use Rattle.pks_terms.proofs.ListLaws.{each_unmapped}
use Rattle.pks_world.proofs.Filling.{each_second, elsewhere_least, first_is, first_typed, all_places}
use Rattle.pks_world.proofs.worlds.World.first.Goals as goal

pub returns-clause-world : goal.returns-clause-world
returns-clause-world c =
    let s = signature_of c.args.p.now.signature in
    first_is s _ c.new.ensures.empty c.in_ok-values.ensures.least (λ f. elsewhere_least s c.in_ok-others.others.items c.args.p.now.signature.functions f c.in_ok-others.ensures)

pub returns-clause-of_signature : goal.returns-clause-of_signature
returns-clause-of_signature c = λ v.
    let s = signature_of c.args.p.now.signature in
    let functions = c.args.p.now.signature.functions in
    let few = each_unmapped (λ (x : Shape). length x.arguments ≤ 2) shape_of functions (each_second (λ (x : Shape). Each (λ a. a < s.types) x.arguments) (λ (x : Shape). length x.arguments ≤ 2) (λ x. x.result < s.types) s.functions v.functions.0) in
    record {
      typed = subst (IsWorld s) (sym (returns-clause-world c)) (first_typed s v.values);
      places = all_places s _ (length functions) (λ f x h. subst (λ n. f < n) (length-map functions shape_of) (slice_get_within s.functions f x h)) (c.in_ok-values.ensures.filled few);
    }
