-- Only an application is the place of an assignment.
use Rattle.std.proofs.Common.{◌≡◌, ◌&&◌, ◌||◌, ◌∙◌, Bool, true, false, cond, ℕ, List, [], ◌∷◌, Some, None, ap, refl, subst}
use Rattle.std.specs.List.{list_any}
use Rattle.pks_terms.specs.declared.term.Term as term
use Rattle.pks_terms.specs.declared.term.Term.TheVariants as term_is
use Rattle.pks_terms.specs.Sets.{with_later}
use Rattle.pks_terms.specs.Syntax.{Object, Parameter, Apply, Inner, Term, Literal}
use Rattle.pks_terms.specs.Orders.{term_cmp, term_eq}
use Rattle.pks_terms.specs.Databases.{inner_normal}
use Rattle.pks_terms.specs.Queries.{Plain}
use Rattle.pks_terms.specs.Actions.{Target, Set, Unset, Clear, Assign, Effect, ItemKv, Schema, inner_at, term_at}
use Rattle.pks_terms.specs.Justified.{Case, J6, J7, is_place, senses_value, assigns_known, item_case}
use Rattle.pks_terms.specs.Progress.{is_sensed, place_at}
use Rattle.pks_terms.specs.ValidProblems.{IsApplication}
use Rattle.pks_terms.specs.Views.{term_of}
use Rattle.pks_terms.proofs.ListLaws.{map-map}
use Rattle.pks_progress_adds.specs.Deeds.{with_normal_arguments}

no_object : (d : ℕ) (x : Target) → is_place (Object d) x ≡ false
unfolding term_eq term_cmp
no_object d (Assign f ts value) = refl
no_object d (Set a) = refl
no_object d (Unset a) = refl
no_object d (Clear y) = refl

no_parameter : (n : ℕ) (x : Target) → is_place (Parameter n) x ≡ false
unfolding term_eq term_cmp
no_parameter n (Assign f ts value) = refl
no_parameter n (Set a) = refl
no_parameter n (Unset a) = refl
no_parameter n (Clear y) = refl

none_placed : (t : Term) → ((x : Target) → is_place t x ≡ false) → (q : Effect × List Effect → Bool) (ps : List (Effect × List Effect)) → list_any (λ p. is_place t p.0.target && q p) ps ≡ false
none_placed t h q [] = refl
none_placed t h q (p ∷ ps) = ap (λ b. (b && q p) || list_any (λ p. is_place t p.0.target && q p) ps) (h p.0.target) ∙ none_placed t h q ps

pub placed : (t : term.Term) (q : Effect × List Effect → Bool) (ps : List (Effect × List Effect)) → list_any (λ p. is_place (term_of t) p.0.target && q p) ps ≡ true → IsApplication t
placed (term_is.Obj d) q ps h = let e = none_placed (Object d.0) (no_object d.0) q ps in absurd (cc)
placed (term_is.Param n) q ps h = let e = none_placed (Parameter n) (no_parameter n) q ps in absurd (cc)
placed (term_is.App f n ts) q ps h = tt

-- the case of a term of a known value, where it isn't assigned
sensed_alone : (a : Bool) (k : Case) → cond a (Some J6) (cond false (Some J7) None) ≡ Some k → is_sensed k ≡ true
sensed_alone true k h = let e : J6 ≡ k = cc in subst (λ c. is_sensed c ≡ true) e refl
sensed_alone false k h = absurd (cc)

sensed_unassigned : (a b : Bool) (k : Case) → b ≡ false → cond a (Some J6) (cond b (Some J7) None) ≡ Some k → is_sensed k ≡ true
sensed_unassigned a b k e h = sensed_alone a k (subst (λ z. cond a (Some J6) (cond z (Some J7) None) ≡ Some k) e h)

module _ (g : List Plain) (sc : Schema) (k : Case) where
  unassigned : (t : Term) → ((x : Target) → is_place t x ≡ false) → item_case g sc (ItemKv t) ≡ Some k → is_sensed k ≡ true
  unassigned t n h =
      sensed_unassigned (list_any (senses_value t) sc.senses) (list_any (assigns_known g t) (with_later sc.effects)) k
      (none_placed t n _ (with_later sc.effects)) h

  pub assigned : (t : term.Term) → item_case g sc (ItemKv (term_of t)) ≡ Some k → is_sensed k ≡ false → IsApplication t
  assigned (term_is.Obj d) h n = let e = unassigned (Object d.0) (no_object d.0) h in absurd (cc)
  assigned (term_is.Param i) h n = let e = unassigned (Parameter i) (no_parameter i) h in absurd (cc)
  assigned (term_is.App f i ts) h n = tt

-- the assigned application, its arguments put in and then in normal form
pub placed_at : (kf : List Literal) (given : List Inner) (t : term.Term) → IsApplication t → with_normal_arguments kf (term_at given (term_of t)) ≡ place_at kf given (term_of t)
placed_at kf given (term_is.Obj d) h = absurd h
placed_at kf given (term_is.Param i) h = absurd h
placed_at kf given (term_is.App f n ts) h = ap (Apply f.0) (map-map (inner_at given) (inner_normal kf) _)
