-- The instances of actions that databases allow: their preconditions are answered, and their arguments are known values.
use Rattle.std.proofs.Common.{◌≡◌, ◌+◌, ℕ, zero, suc, Bool, true, false, cond, List, [], ◌∷◌, map, filter, filter_map, slice_get, unwrap_or, Option, Some, None, option_map, refl, sym, ap, ◌∙◌, subst, inl, inr, arith, zero-add}
use Rattle.std.proofs.lemmas.Option.{none-some, same_Some}
use Rattle.pks_terms.specs.Sets.{Each, IsIn, all_some, choices_from}
use Rattle.pks_terms.specs.Syntax.{Object, Parameter, Apply, Inner, Term, as_object}
use Rattle.pks_terms.specs.Signatures.{has_type, objects_of}
use Rattle.pks_terms.specs.Worlds.{World, inner_value, value_of}
use Rattle.pks_terms.specs.Databases.{Five}
use Rattle.pks_terms.specs.Actions.{Schema, Instance, argument}
use Rattle.pks_terms.specs.Problems.{Problem, schema_of}
use Rattle.pks_terms.specs.Branching.{as_inner, candidates, is_allowed, instances_at, numbered, instances}
use Rattle.pks_terms.proofs.ListLaws.{each_append, each_in, each_of, each_map, each_filter_map, in_mapped, in_filtered, in_flat_mapped, each_choice, values_of_all_some}
use Rattle.pks_laws.proofs.Values.{inner_object_value}

pub in_numbered : {X : Type 0} (xs : List X) (n : ℕ) (q : ℕ × X) → IsIn q (numbered n xs) → (k : ℕ) × (q.0 ≡ n + k) × (slice_get xs k ≡ Some q.1)
in_numbered [] n q i = absurd i
in_numbered {X} (x ∷ xs) n q (inl e) = (0, sym (ap (λ (r : ℕ × X). r.0) e) ∙ omega arith, ap (λ (r : ℕ × X). Some r.1) e)
in_numbered (x ∷ xs) n q (inr i) = let r = in_numbered xs (n + 1) q i in let k = r.0 in let e : q.0 ≡ n + suc k = r.1 ∙ omega arith in (suc k, e, r.2)

-- of what action an allowed instance is
pub allowed_instance : (p : Problem) (d : Five) (i : Instance) → IsIn i (instances p d) → (is_allowed p.signature d (schema_of p i.action) i.arguments ≡ true) × IsIn i.arguments (choices_from (map (candidates p.signature d) (schema_of p i.action).parameters))
unfolding instances
allowed_instance p d i h =
    let a = in_flat_mapped (instances_at p.signature d) (numbered 0 p.schemas) i h in
    let b = in_mapped (λ (given : List Inner). let x : Instance = record { action = a.0.0; arguments = given } in x) (filter (is_allowed p.signature d a.0.1) (choices_from (map (candidates p.signature d) a.0.1.parameters))) i a.2 in
    let c = in_filtered (is_allowed p.signature d a.0.1) (choices_from (map (candidates p.signature d) a.0.1.parameters)) b.0 b.1 in
    let n = in_numbered p.schemas 0 a.0 a.1 in
    let action : a.0.0 ≡ i.action = ap (λ (x : Instance). x.action) b.2 in
    let given : b.0 ≡ i.arguments = ap (λ (x : Instance). x.arguments) b.2 in
    let k : n.0 ≡ i.action = sym (zero-add n.0) ∙ sym n.1 ∙ action in
    let schema : a.0.1 ≡ schema_of p i.action =
    sym (ap (λ o. unwrap_or o (record { cost = 1; parameters = []; pre = []; effects = []; senses = []; adds = [] })) n.2) ∙ ap (λ j. schema_of p j) k in (
      (λ j. is_allowed p.signature d (sym schema j) (sym given j)) ∙ c.1,
      subst (λ (q : Schema × List Inner). IsIn q.1 (choices_from (map (candidates p.signature d) q.0.parameters))) (pair a.0.1 (schema_of p i.action) b.0 i.arguments schema given) c.0,
    )
  where
    pair : (x y : Schema) (u v : List Inner) → x ≡ y → u ≡ v → ◌≡◌ {A = Schema × List Inner} (x, u) (y, v)
    pair x y u v e f = λ j. (e j, f j)

as_inner_value : (w : World) (t : Term) (u : Inner) → as_inner t ≡ Some u → inner_value w u ≡ value_of w t
unfolding value_of
as_inner_value w (Object d) u h = absurd (none-some u h)
as_inner_value w (Parameter i) u h = absurd (none-some u h)
as_inner_value w (Apply f ts) u h =
    elim (all_some (map as_object ts)) as (λ o. all_some (map as_object ts) ≡ o → ◌≡◌ {A = Option Inner} (option_map (λ ds. Apply f ds) o) (Some u) → inner_value w u ≡ w.value f (map (inner_value w) ts)) [
      | None ↦ λ q k. absurd (none-some u k)
      | Some ds ↦ λ q k. ap (inner_value w) (sym (same_Some (Apply f ds) u k)) ∙ ap (w.value f) (map_same ds ∙ sym (values_of_all_some as_object (inner_value w) (inner_object_value w) ts ds q))
    ] refl h
  where
    map_same : (ds : List ℕ) → map (λ d. d) ds ≡ ds
    map_same [] = refl
    map_same (d ∷ ds) = λ i. d ∷ map_same ds i

-- its arguments have the same values in worlds that agree on Kv
pub arguments_alike : (w w' : World) (p : Problem) (d : Five) → Each (λ t. value_of w t ≡ value_of w' t) d.kv → (i : Instance) → IsIn i (instances p d) → Each (λ t. inner_value w t ≡ inner_value w' t) i.arguments
arguments_alike w w' p d known i h =
    let P : Inner → Type 0 = λ t. inner_value w t ≡ inner_value w' t in
    let tys = (schema_of p i.action).parameters in
    each_in (Each P) (choices_from (map (candidates p.signature d) tys)) i.arguments
    (each_choice P (candidates p.signature d) tys (each_of (λ a. Each P (candidates p.signature d a)) tys (λ a j.
    each_append P (map Object (objects_of p.signature a)) (filter_map (λ t. cond (has_type p.signature t a) (as_inner t) None) d.kv)
    (each_map P Object (objects_of p.signature a) (each_of (λ e. e ≡ e) (objects_of p.signature a) (λ e k. refl)))
    (each_filter_map P (λ t. cond (has_type p.signature t a) (as_inner t) None) d.kv (λ t u k e.
    let typed : as_inner t ≡ Some u = chosen (has_type p.signature t a) (as_inner t) u e in
    as_inner_value w t u typed ∙ each_in (λ t. value_of w t ≡ value_of w' t) d.kv t known k ∙ sym (as_inner_value w' t u typed)))))) (allowed_instance p d i h).1
  where
    chosen : (b : Bool) (o : Option Inner) (u : Inner) → cond b o None ≡ Some u → o ≡ Some u
    chosen true o u e = e
    chosen false o u e = absurd (none-some u e)

pub argument_alike : (w w' : World) (given : List Inner) → Each (λ t. inner_value w t ≡ inner_value w' t) given → (i : ℕ) → inner_value w (argument given i) ≡ inner_value w' (argument given i)
argument_alike w w' [] a i = refl
argument_alike w w' (t ∷ ts) a zero = a.0
argument_alike w w' (t ∷ ts) a (suc i) = argument_alike w w' ts a.1 i
