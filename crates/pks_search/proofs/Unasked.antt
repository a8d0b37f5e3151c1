-- Twins at what is left of a history: a step that leaves what the aims ask leaves what tells them apart.
use Rattle.std.proofs.Common.{◌≡◌, ◌==◌, ◌&&◌, ◌||◌, ℕ, Bool, true, false, cond, not, List, [], ◌∷◌, refl, sym, ap, ◌∙◌, subst, ⊎_elim, true≢false}
use Rattle.std.specs.List.{list_any, list_all}
use Rattle.std.proofs.lemmas.Bool.{and_parts, or_cases, or_from, not-true, not-false, cases_Bool}
use Rattle.pks_terms.specs.Sets.{Each, IsIn}
use Rattle.pks_terms.specs.Syntax.{Object, Parameter, Apply, Term, Relation, Named, Equality, Literal, negated}
use Rattle.pks_terms.specs.Signatures.{Signature}
use Rattle.pks_terms.specs.Worlds.{World, true_in, all_true_in}
use Rattle.pks_terms.specs.Databases.{Five}
use Rattle.pks_terms.specs.Actions.{Target, Set, Unset, Clear, Assign, Effect, Instance, applied_to}
use Rattle.pks_terms.specs.Queries.{KnowWhether}
use Rattle.pks_terms.specs.Problems.{Aim, AtStart, Problem}
use Rattle.pks_terms.specs.Settling.{History, effects_of}
use Rattle.pks_terms.specs.Knowledge.{grounded, after_action}
use Rattle.pks_terms.specs.Versions.{IsNow}
use Rattle.pks_terms.proofs.ListLaws.{each_in, each_from_all}
use Rattle.pks_terms.specs.Objects.{is_object, are_objects, is_of_objects}
use Rattle.pks_laws.proofs.Holding.{true_in-negated}
use Rattle.pks_laws.proofs.Doing.{effects_do}
use Rattle.pks_laws_forget.specs.Transparent.{at_other_objects}
use Rattle.pks_laws_forget.specs.Looks.{IsLook, AreWithout, without_looks}
use Rattle.pks_laws_forget.specs.Transparent.{AreSetsAlong}
use Rattle.pks_laws_forget.proofs.TestedLooks.{unlooked_without}
use Rattle.pks_laws_forget.proofs.Worlds.{both_without, same_present}
use Rattle.pks_laws_forget.specs.Staying.{leaves, literal_stays, aim_stays, aims_stay}
use Rattle.pks_history_forget.specs.Same.{may_go, asked_from, without_unasked}
use Rattle.pks_search_distance.specs.Counted.{are_apart, may_make, may_meet}
use Rattle.pks_search_distance.proofs.Unmet.{stays_unmet}
use Rattle.pks_search.specs.Twins.{MayBeTwins}

-- ---- a literal that the effects leave is as it was

abbrev literal_with : Relation → List Term → Bool → Literal
literal_with r ts b = record { relation = r; arguments = ts; positive = b }

apart_there : (ts us : List Term) → at_other_objects ts us ≡ true → are_apart ts us ≡ true
apart_there [] us h = absurd (true≢false (sym h))
apart_there (t ∷ ts) [] h = absurd (true≢false (sym h))
apart_there (Object d ∷ ts) (Object e ∷ us) h = ⊎_elim (λ k. ap (λ b. b || are_apart ts us) k) (λ k. or_later (not (d == e)) (are_apart ts us) (apart_there ts us k)) (or_cases (not (d == e)) (at_other_objects ts us) h)
  where
    or_later : (a b : Bool) → b ≡ true → (a || b) ≡ true
    or_later true b k = refl
    or_later false b k = k
apart_there (Object d ∷ ts) (Parameter i ∷ us) h = apart_there ts us h
apart_there (Object d ∷ ts) (Apply g vs ∷ us) h = apart_there ts us h
apart_there (Parameter i ∷ ts) (u ∷ us) h = apart_there ts us h
apart_there (Apply f vs ∷ ts) (u ∷ us) h = apart_there ts us h

-- the target doesn't make it true
no_and : (a b : Bool) → b ≡ false → (a && b) ≡ false
no_and true b k = k
no_and false b k = refl

not_hit : (q p : ℕ) (ts us : List Term) → (not (q == p) || at_other_objects ts us) ≡ true → ((q == p) && not (are_apart ts us)) ≡ false
not_hit q p ts us h =
    ⊎_elim
    (λ k. ap (λ b. b && not (are_apart ts us)) (not-true (q == p) k))
    (λ k. no_and (q == p) (not (are_apart ts us)) (ap not (apart_there ts us k)))
    (or_cases (not (q == p)) (at_other_objects ts us) h)

or_false : (a : Bool) → (a || false) ≡ true → a ≡ true
or_false true k = refl
or_false false k = k

none_made : (p : ℕ) (ts : List Term) (b : Bool) (x : Target) → leaves (literal_with (Named p) ts b) x ≡ true → may_make x (literal_with (Named p) ts b) ≡ false
none_made p ts b (Set a) h = no_and b _ (not_hit a.predicate p a.arguments ts h)
none_made p ts b (Unset a) h = no_and (not b) _ (not_hit a.predicate p a.arguments ts h)
none_made p ts b (Clear x) h = no_and (not b) _ (not-true (x.predicate == p) (or_false (not (x.predicate == p)) h))
none_made p ts b (Assign f us value) h = refl

none_of_all : (p : ℕ) (ts : List Term) (b : Bool) (es : List Effect) → list_all (λ e. leaves (literal_with (Named p) ts b) e.target) es ≡ true → list_any (λ e. may_make e.target (literal_with (Named p) ts b)) es ≡ false
none_of_all p ts b [] h = refl
none_of_all p ts b (e ∷ es) h =
    let k = and_parts (leaves (literal_with (Named p) ts b) e.target) _ h in
    or_from (may_make e.target (literal_with (Named p) ts b)) _ (none_made p ts b e.target k.0) (none_of_all p ts b es k.1)

all_plain : (ts : List Term) → are_objects ts ≡ true → list_all is_object ts ≡ true
all_plain [] h = refl
all_plain (Object d ∷ ts) h = all_plain ts h
all_plain (Parameter i ∷ ts) h = absurd (true≢false (sym h))
all_plain (Apply f us ∷ ts) h = absurd (true≢false (sym h))

none_met : (r : Relation) (ts : List Term) (b : Bool) (es : List Effect) → is_of_objects (literal_with r ts b) ≡ true → list_all (λ e. leaves (literal_with r ts b) e.target) es ≡ true → may_meet es (literal_with r ts b) ≡ false
none_met (Named p) ts b es o h = or_from (not (list_all is_object ts)) _ (ap not (all_plain ts o)) (none_of_all p ts b es h)
none_met Equality ts b es o h = absurd (true≢false (sym o))

module _ (w : World) (es : List Effect) where
  literal_stayed : (l : Literal) → is_of_objects l ≡ true → list_all (λ e. leaves l e.target) es ≡ true → true_in (applied_to w es) l ≡ true_in w l
  literal_stayed l o h =
      ⊎_elim
      (λ k. not-false (true_in (applied_to w es) l) (sym (true_in-negated (applied_to w es) l) ∙ stays_unmet w es (negated l) (none_met l.relation l.arguments (not l.positive) es o h) (true_in-negated w l ∙ ap not k)) ∙ sym k)
      (λ k. stays_unmet w es l (none_met l.relation l.arguments l.positive es o h) k ∙ sym k)
      (cases_Bool (true_in w l))

  formula_stayed : (s : Signature) (before after : Five) (c : List Literal) → list_all (literal_stays s es before after) c ≡ true → all_true_in (applied_to w es) c ≡ all_true_in w c
  unfolding all_true_in
  formula_stayed s before after [] h = refl
  formula_stayed s before after (l ∷ ls) h =
      let k = and_parts (literal_stays s es before after l) _ h in
      let q = and_parts (is_of_objects l && list_all (λ e. leaves l e.target) es) _ k.0 in
      let r = and_parts (is_of_objects l) _ q.0 in
      λ i. literal_stayed l r.0 r.1 i && formula_stayed s before after ls k.1 i

-- ---- letting go of the first moment

module _ (p : Problem) where
  -- the formula is as it was
  asked_stays : (d : Five) (i : Instance) (e : Five) (c : List Literal) → IsIn (AtStart (record { asks = KnowWhether c; denied = false })) p.goal → aims_stay p d i e ≡ true → (w : World) → all_true_in (after_action p w (grounded w i)) c ≡ all_true_in w c
  asked_stays d i e c member stay w =
      let stays : Aim → Bool = aim_stays p.signature (effects_of p i) d e in
      let all : Each (λ a. stays a ≡ true) p.goal = each_from_all (λ a. stays a ≡ true) stays (λ a b. b) p.goal (and_parts _ _ stay).1 in
      let one : stays (AtStart (record { asks = KnowWhether c; denied = false })) ≡ true = each_in (λ a. stays a ≡ true) p.goal (AtStart (record { asks = KnowWhether c; denied = false })) all member in
      let asked : list_all (literal_stays p.signature (effects_of p i) d e) c ≡ true = (and_parts (list_all (literal_stays p.signature (effects_of p i) d e) c) _ one).0 in
      subst (λ u. all_true_in u c ≡ all_true_in w c) (effects_do p w i) (formula_stayed w (effects_of p i) p.signature d e c asked)

  pub later_twins : (d : Five) (i : Instance) (h : History) (v v' : World) → aims_stay p d i h.start ≡ true → MayBeTwins p (record { start = d; steps = (i, h.start) ∷ h.steps }) v v' → MayBeTwins p h v v'
  later_twins d i h v v' stay m =
      let c = m.apart.0 in
      let stayed = asked_stays d i h.start c m.apart.1 stay in
      record {
        first = after_action p m.first (grounded m.first i);
        second = after_action p m.second (grounded m.second i);
        both = record { along = m.both.along.1; along' = m.both.along'.1; agree = m.both.agree.1 };
        apart = (c, m.apart.1, λ e. m.apart.2 (sym (stayed m.first) ∙ e ∙ stayed m.second));
        leads = m.leads;
        leads' = m.leads';
      }

  asked_twins : (d : Five) (steps : List (Instance × Five)) (v v' : World) → MayBeTwins p (record { start = d; steps = steps }) v v' → MayBeTwins p (asked_from p d steps) v v'
  asked_twins d [] v v' m = m
  asked_twins d (step ∷ steps) v v' m =
      elim (may_go p d step.0 step.1) as (λ b. may_go p d step.0 step.1 ≡ b → MayBeTwins p (cond b (asked_from p step.1 steps) (record { start = d; steps = step ∷ steps })) v v') [
        | true ↦ λ e. asked_twins step.1 steps v v' (later_twins d step.0 (record { start = step.1; steps = steps }) v v' (and_parts (aims_stay p d step.0 step.1) _ e).0 m)
        | false ↦ λ e. m
      ] refl

  -- where each aim is of the last moment there are no twins
  pub no_plain_twins : (h : History) (v v' : World) → Each IsNow p.goal → MayBeTwins p h v v' → ⊥
  no_plain_twins h v v' plain m = each_in IsNow p.goal _ plain m.apart.1

  -- a look changes no world
  unlooked_twins : (h g : History) (v v' : World) → AreWithout (IsLook p) h.start h.steps g.start g.steps → MayBeTwins p h v v' → MayBeTwins p g v v'
  unlooked_twins h g v v' k m = record {
    first = m.first;
    second = m.second;
    both = both_without p m.first m.second h g k m.both;
    apart = m.apart;
    leads = sym (same_present p m.first h.start h.steps g.start g.steps k) ∙ m.leads;
    leads' = sym (same_present p m.second h.start h.steps g.start g.steps k) ∙ m.leads';
  }

  -- twins at a history are twins at what is left of it
  pub twins_left : (h rest : History) → AreSetsAlong h → ((Each IsNow p.goal → ⊥) → rest ≡ without_unasked p (without_looks p h)) → (v v' : World) → MayBeTwins p h v v' → MayBeTwins p rest v v'
  twins_left h rest sets asked v v' m =
      let g = without_looks p h in
      subst (λ k. MayBeTwins p k v v') (sym (asked (λ plain. no_plain_twins h v v' plain m)))
      (asked_twins g.start g.steps v v' (unlooked_twins h g v v' (unlooked_without p h.start h.steps sets.start sets.steps) m))
