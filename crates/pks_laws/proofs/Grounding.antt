-- An instance with the values of its arguments in place of them is one of the problem.
use Rattle.std.proofs.Common.{◌≡◌, ◌&&◌, true, false, [], map, slice_get, Option, Some, None, refl, sym, true≢false}
use Rattle.std.specs.Option.{option_map_or}
use Rattle.std.proofs.lemmas.Bool.{and_parts}
use Rattle.pks_terms.specs.Syntax.{Object, Parameter, Apply, Inner}
use Rattle.pks_terms.specs.Signatures.{Shape, Signature, fits_type, object_is_of}
use Rattle.pks_terms.specs.Worlds.{World, inner_value}
use Rattle.pks_terms.specs.Meaning.{IsWorld}
use Rattle.pks_terms.specs.Actions.{Instance}
use Rattle.pks_terms.specs.Problems.{Problem, schema_of}
use Rattle.pks_terms.specs.Knowledge.{grounded}
use Rattle.pks_terms.specs.Valid.{all_fit, inner_fits}
use Rattle.pks_terms.specs.Handed.{IsStepOf}
use Rattle.pks_terms.proofs.Types.{objects_are_of}
use Rattle.pks_laws.proofs.Fitting.{Keeps, all_fit_kept, map_keeps, object_wider}

-- the value of an argument may stand wherever it may
value_keeps : (s : Signature) (w : World) → IsWorld s w → (u : Inner) → Keeps (inner_fits s []) (inner_fits s []) u (Object (inner_value w u))
value_keeps s w i (Object d) = λ a h. h
value_keeps s w i (Parameter k) = λ a h. absurd (true≢false (sym h))
value_keeps s w i (Apply f ds) = λ a h.
    elim (slice_get s.functions f) as (λ (o : Option Shape). slice_get s.functions f ≡ o → option_map_or (λ (x : Shape). all_fit (object_is_of s) x.arguments ds && fits_type s x.result a) o false ≡ true → object_is_of s a (w.value f (map (λ d. d) ds)) ≡ true) [
      | None ↦ λ q k. absurd (true≢false (sym k))
      | Some x ↦ λ q k. object_wider s x.result a (w.value f (map (λ d. d) ds)) (and_parts (all_fit (object_is_of s) x.arguments ds) _ k).1 (objects_are_of s x.result (w.value f (map (λ d. d) ds)) (i.typed f (map (λ d. d) ds) x q))
    ] refl h

pub grounded_of : (p : Problem) (w : World) (i : Instance) → IsWorld p.signature w → IsStepOf p i → IsStepOf p (grounded w i)
grounded_of p w i world m = record {
  action = m.action;
  arguments = all_fit_kept (inner_fits p.signature []) (inner_fits p.signature []) (schema_of p i.action).parameters i.arguments (map (λ t. Object (inner_value w t)) i.arguments)
      (map_keeps (inner_fits p.signature []) (inner_fits p.signature []) (λ t. Object (inner_value w t)) (value_keeps p.signature w world) i.arguments) m.arguments;
}
