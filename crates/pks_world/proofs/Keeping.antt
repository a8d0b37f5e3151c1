-- What the ordered containers of a world say after one change.
use Rattle.std.proofs.Common.{◌≡◌, ℕ, Bool, true, false, cond, ◌||◌, List, [], ◌∷◌, map, take, length, Option, Some, refl, sym, ap, ◌∙◌, subst}
use Rattle.std.specs.BTreeMap.{BTreeMap}
use Rattle.std.specs.BTreeSet.{BTreeSet}
use Rattle.std.specs.List.{list_any}
use Rattle.std.specs.Ordering.{is_eq}
use Rattle.std.specs.Option.{is_some, unwrap_or, option_map}
use Rattle.std.specs.Map.{lookup, keys_of}
use Rattle.pks_terms.specs.Syntax.{Object, place, Atom}
use Rattle.pks_terms.specs.Syntax as syntax
use Rattle.pks_terms.specs.Orders.{atom_cmp, term_cmp, term_eq}
use Rattle.pks_terms.specs.declared.ids.ObjId.{ObjId}
use Rattle.pks_terms.specs.declared.term.Inner.TheVariants as inner_is
use Rattle.pks_terms.specs.declared.term.Term.{Term}
use Rattle.pks_terms.specs.declared.term.Term.TheVariants as term_is
use Rattle.pks_terms.specs.declared.literal.PredAtom.{PredAtom}
use Rattle.pks_terms.specs.Views.{object_of, inner_of, term_of, atom_of}
use Rattle.pks_world.specs.declared.worlds.World.{World as DWorld}
use Rattle.pks_world.specs.First.{Writes}
use Rattle.pks_world.specs.Applied.{StayListed}
use Rattle.pks_world.specs.Contents.{ground, atom_eq, is_listed, value_elsewhere, places_of, world_of, with_truth, with_value}

-- objects lifted and viewed again
viewed : (ds : List ℕ) → map term_of (map (λ d. term_is.Obj (record { 0 = d })) ds) ≡ map Object ds
viewed [] = refl
viewed (d ∷ ds) = λ i. Object d ∷ viewed ds i

taken : {X : Type 0} (f : ℕ → X) (ds : List ℕ) → take (length ds) (map f ds) ≡ map f ds
taken f [] = refl
taken f (d ∷ ds) = λ i. f d ∷ taken f ds i

-- an atom of the program at these objects
atom_at : ℕ → List ℕ → PredAtom
atom_at p ds = record { pred = record { 0 = p }; n = length ds; args = map (λ d. term_is.Obj (record { 0 = d })) ds }

atom_viewed : (p : ℕ) (ds : List ℕ) → atom_of (atom_at p ds) ≡ ground p ds
unfolding atom_at
atom_viewed p ds = λ i. record { predicate = p; arguments = (ap (map term_of) (taken (λ d. term_is.Obj (record { 0 = d })) ds) ∙ viewed ds) i }

-- one atom is as said, and each other one as it was
pub told : (w : DWorld) (n : BTreeSet PredAtom) (a : PredAtom) (b : Bool)
    → ((q : PredAtom) → list_any (λ x. is_eq (atom_cmp (atom_of q) (atom_of x))) n.keys ≡ cond (is_eq (atom_cmp (atom_of a) (atom_of q))) b (list_any (λ x. is_eq (atom_cmp (atom_of q) (atom_of x))) w.atoms.keys))
    → world_of (record w { atoms = n }) ≡ with_truth (world_of w) (atom_of a) b
unfolding world_of
told w n a b h =
    let each : (p : ℕ) (ds : List ℕ) → is_listed n.keys (ground p ds) ≡ cond (atom_eq (atom_of a) (ground p ds)) b (is_listed w.atoms.keys (ground p ds)) =
    λ p ds. subst (λ (x : Atom). is_listed n.keys x ≡ cond (atom_eq (atom_of a) x) b (is_listed w.atoms.keys x)) (atom_viewed p ds) (h (atom_at p ds)) in
    λ i. record { truth = λ p ds. each p ds i; value = (world_of w).value }

-- a place of the program at these objects
place_at : ℕ → List ℕ → Term
place_at f ds = term_is.App (record { 0 = f }) (length ds) (map (λ d. inner_is.Obj (record { 0 = d })) ds)

inners_viewed : (ds : List ℕ) → map inner_of (map (λ d. inner_is.Obj (record { 0 = d })) ds) ≡ map Object ds
inners_viewed [] = refl
inners_viewed (d ∷ ds) = λ i. Object d ∷ inners_viewed ds i

place_viewed : (f : ℕ) (ds : List ℕ) → term_of (place_at f ds) ≡ place f ds
unfolding place_at
place_viewed f ds = λ i. syntax.Apply f ((ap (map inner_of) (taken (λ d. inner_is.Obj (record { 0 = d })) ds) ∙ inners_viewed ds) i)

-- a place is among those for which a value is kept where one is found
pub found : (t : syntax.Term) (es : List (Term × ObjId)) → list_any (term_eq t) (map term_of (keys_of es)) ≡ is_some (lookup (λ u. is_eq (term_cmp t (term_of u))) es)
unfolding term_eq
found t [] = refl
found t (e ∷ es) = elim (is_eq (term_cmp t (term_of e.0))) as (λ b. (b || list_any (λ u. is_eq (term_cmp t u)) (map term_of (keys_of es))) ≡ is_some (cond b (Some e.1) (lookup (λ u. is_eq (term_cmp t (term_of u))) es))) [
  | true ↦ refl
  | false ↦ found t es
]

chosen : (b : Bool) (d : ObjId) (o : Option ObjId) (other : ℕ) → unwrap_or (option_map object_of (cond b (Some d) o)) other ≡ cond b d.0 (unwrap_or (option_map object_of o) other)
chosen true d o other = refl
chosen false d o other = refl

-- one place has this value, and each other one as it was
pub valued : (w : DWorld) (n : BTreeMap Term ObjId) (t : Term) (d : ObjId)
    → ((q : Term) → lookup (λ u. is_eq (term_cmp (term_of q) (term_of u))) n.entries ≡ cond (is_eq (term_cmp (term_of t) (term_of q))) (Some d) (lookup (λ u. is_eq (term_cmp (term_of q) (term_of u))) w.values.entries))
    → world_of (record w { values = n }) ≡ with_value (world_of w) (term_of t) d.0
unfolding world_of term_eq
valued w n t d h =
    let each : (f : ℕ) (ds : List ℕ) → lookup (λ u. is_eq (term_cmp (place f ds) (term_of u))) n.entries ≡ cond (is_eq (term_cmp (term_of t) (place f ds))) (Some d) (lookup (λ u. is_eq (term_cmp (place f ds) (term_of u))) w.values.entries) =
    λ f ds. subst (λ (x : syntax.Term). lookup (λ u. is_eq (term_cmp x (term_of u))) n.entries ≡ cond (is_eq (term_cmp (term_of t) x)) (Some d) (lookup (λ u. is_eq (term_cmp x (term_of u))) w.values.entries)) (place_viewed f ds) (h (place_at f ds)) in
    λ i. record { truth = (world_of w).truth; value = λ f ds. (ap (λ o. unwrap_or (option_map object_of o) (value_elsewhere w.others.items f)) (each f ds) ∙ chosen (is_eq (term_cmp (term_of t) (place f ds))) d (lookup (λ u. is_eq (term_cmp (place f ds) (term_of u))) w.values.entries) (value_elsewhere w.others.items f)) i }

-- the same of the number that is kept
pub chosen_value : (b : Bool) (d : ObjId) (o : Option ObjId) → option_map object_of (cond b (Some d) o) ≡ cond b (Some d.0) (option_map object_of o)
chosen_value true d o = refl
chosen_value false d o = refl

-- one place has this value
pub kept_one : (m n : List (Term × ObjId)) (t : Term) (d : ObjId)
    → ((q : Term) → lookup (λ u. is_eq (term_cmp (term_of q) (term_of u))) n ≡ cond (is_eq (term_cmp (term_of t) (term_of q))) (Some d) (lookup (λ u. is_eq (term_cmp (term_of q) (term_of u))) m))
    → Writes (term_eq (term_of t)) d.0 m n
unfolding term_eq
kept_one m n t d h = λ f ds.
    ap (option_map object_of) (subst (λ (x : syntax.Term). lookup (λ u. is_eq (term_cmp x (term_of u))) n ≡ cond (is_eq (term_cmp (term_of t) x)) (Some d) (lookup (λ u. is_eq (term_cmp x (term_of u))) m)) (place_viewed f ds) (h (place_at f ds)))
    ∙ chosen_value (is_eq (term_cmp (term_of t) (place f ds))) d (lookup (λ u. is_eq (term_cmp (place f ds) (term_of u))) m)

-- one more test
pub chosen_more : {X : Type 0} (a b : Bool) (x y : X) → cond b x (cond a x y) ≡ cond (a || b) x y
chosen_more true true x y = refl
chosen_more true false x y = refl
chosen_more false b x y = refl

-- the same atoms make the same world
pub same_told : (w : DWorld) (n : BTreeSet PredAtom) → n.keys ≡ w.atoms.keys → world_of (record w { atoms = n }) ≡ world_of w
unfolding world_of
same_told w n e = λ i. record { truth = λ p ds. is_listed (e i) (ground p ds); value = (world_of w).value }

-- a place that is listed stays listed after one more
pub still_listed : (w : DWorld) (n : BTreeMap Term ObjId) (t : Term) (d : ObjId)
    → ((q : Term) → lookup (λ u. is_eq (term_cmp (term_of q) (term_of u))) n.entries ≡ cond (is_eq (term_cmp (term_of t) (term_of q))) (Some d) (lookup (λ u. is_eq (term_cmp (term_of q) (term_of u))) w.values.entries))
    → StayListed (places_of w) (places_of (record w { values = n }))
unfolding places_of
still_listed w n t d h = λ f ds k.
    let old = λ (x : syntax.Term). lookup (λ u. is_eq (term_cmp x (term_of u))) w.values.entries in
    let each : lookup (λ u. is_eq (term_cmp (place f ds) (term_of u))) n.entries ≡ cond (is_eq (term_cmp (term_of t) (place f ds))) (Some d) (old (place f ds)) =
    subst (λ (x : syntax.Term). lookup (λ u. is_eq (term_cmp x (term_of u))) n.entries ≡ cond (is_eq (term_cmp (term_of t) x)) (Some d) (old x)) (place_viewed f ds) (h (place_at f ds)) in
    found (place f ds) n.entries ∙ ap is_some each ∙ some_more (is_eq (term_cmp (term_of t) (place f ds))) d (old (place f ds)) (sym (found (place f ds) w.values.entries) ∙ k)
  where
    some_more : (b : Bool) (d : ObjId) (o : Option ObjId) → is_some o ≡ true → is_some (cond b (Some d) o) ≡ true
    some_more true d o e = refl
    some_more false d o e = e
