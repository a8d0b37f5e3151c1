-- When the rules add nothing to what an action leaves and what its adds give.
use Rattle.std.proofs.Common.{◌≡◌, ◌⊎◌, ◌&&◌, ◌||◌, ℕ, Bool, true, false, not, cond, List, [], ◌∷◌, map, filter, length, Option, None, option_and_then, refl, sym, ap, ◌∙◌, subst, inl, inr, ⊎_elim, true≢false}
use Rattle.std.specs.List.{list_any, cons_option}
use Rattle.std.specs.Ordering.{on}
use Rattle.std.proofs.lemmas.Bool.{and_parts}
use Rattle.pks_terms.specs.declared.literal.Literal.{Literal as DLiteral}
use Rattle.pks_terms.specs.Sets.{Each, IsOrdered}
use Rattle.pks_terms.specs.Syntax.{Inner, Term, Relation, Named, Equality, Literal, negated}
use Rattle.pks_terms.specs.Orders.{literal_cmp, number_of, arguments_of}
use Rattle.pks_terms.specs.Signatures.{Signature, HasValues}
use Rattle.pks_terms.specs.Databases.{entry_cmp, Five, told, value_if_at, values_at, holds}
use Rattle.pks_terms.specs.Closure.{applications_in, first_clash, IsClosed}
use Rattle.pks_terms.specs.Saturated.{IsSaturated}
use Rattle.pks_terms.specs.Moments.{IsInOrder}
use Rattle.pks_terms.specs.Actions.{Target, Set, Unset, Clear, Assign, Effect, target_at, effect_at}
use Rattle.pks_terms.specs.Spoiling.{may_fire, may_change, some_may, may_be_changed, is_stable, are_stable, may_be_denied, spoils}
use Rattle.pks_terms.specs.Views.{literal_of}
use Rattle.pks_terms.proofs.ListLaws.{each_kept}
use Rattle.pks_terms.proofs.SetLaws.{added_same}
use Rattle.pks_pmap_set.specs.Members.{is_member}
use Rattle.pks_pmap_set.proofs.Mapped.{is_member-map}
use Rattle.pks_kf.specs.Known.{literals_of}
use Rattle.pks_query_lookup.specs.Tables.{GiveAlike}
use Rattle.pks_query_lookup.specs.Forms.{HasItsForms}
use Rattle.pks_laws.specs.Lookup.{is_among}
use Rattle.pks_laws_progress.proofs.Steps.{all_of}
use Rattle.pks_laws_progress.proofs.Keeping.{lasting_closed}
use Rattle.pks_laws_progress.proofs.Loose.{loose_closed, loose_values, loose_found}
use Rattle.pks_progress.specs.Ahead.{is_assignment, assign_nothing, PutsIn, BringsNothing, IsStill}

pub is_literal_among : (l : DLiteral) (ls : List DLiteral) → is_member (on literal_of literal_cmp) l ls ≡ is_among literal_cmp (literal_of l) (literals_of ls)
is_literal_among l ls = is_member-map literal_of literal_cmp l ls

pub ruleset members = (is_literal_among)

-- ---- what no effect assigns stays

target_assigns : (given : List Inner) (t : Target) → is_assignment (target_at given t) ≡ is_assignment t
target_assigns given (Set a) = refl
target_assigns given (Unset a) = refl
target_assigns given (Clear x) = refl
target_assigns given (Assign f ts v) = refl

pub effects_assign : (given : List Inner) (es : List Effect) → assign_nothing (map (effect_at given) es) ≡ assign_nothing es
effects_assign given [] = refl
effects_assign given (e ∷ es) = λ i. not (target_assigns given e.target i) && effects_assign given es i

pub ruleset assigned = (effects_assign)

and_false : (b : Bool) → (b && false) ≡ false
and_false true = refl
and_false false = refl

module _ (s : Signature) (d : Five) where
  target_changes_nothing : (kf : List Literal) (f : ℕ) (us : List Inner) (t : Target) → not (is_assignment t) ≡ true → may_change s kf f us t ≡ false
  target_changes_nothing kf f us (Set a) h = refl
  target_changes_nothing kf f us (Unset a) h = refl
  target_changes_nothing kf f us (Clear x) h = refl
  target_changes_nothing kf f us (Assign g ts v) h = absurd (true≢false (sym h))

  change_nothing : (f : ℕ) (us : List Inner) (es : List Effect) → assign_nothing es ≡ true → some_may s d (may_change s d.kf f us) es ≡ false
  change_nothing f us [] h = refl
  change_nothing f us (e ∷ es) h =
      let p = and_parts (not (is_assignment e.target)) _ h in
      (λ i. (may_fire s d e && target_changes_nothing d.kf f us e.target p.0 i) || change_nothing f us es p.1 i)
      ∙ ap (λ b. b || false) (and_false (may_fire s d e))

  module _ (es : List Effect) (nothing : assign_nothing es ≡ true) where
    stable : (t : Term) → is_stable s d es t ≡ true
    unfolding is_stable may_be_changed
    stable t = all_of (λ u. not (may_be_changed s d es u)) (applications_in t) (λ u i. ap not (change_nothing (number_of u) (arguments_of u) es nothing))

    given_at : ℕ → List ℕ → Literal → Option ℕ
    given_at f ds l = option_and_then (value_if_at f ds) (told l.relation l.arguments l.positive)

    unspoiled : (f : ℕ) (ds : List ℕ) (l : Literal) → (given_at f ds l ≡ None) ⊎ (spoils s d es l ≡ false)
    unfolding spoils told given_at
    unspoiled f ds l = of_relation l.relation l.arguments l.positive
      where
        of_relation : (r : Relation) (ts : List Term) (b : Bool) → (option_and_then (value_if_at f ds) (told r ts b) ≡ None) ⊎ ((not (are_stable s d es ts) || may_be_denied s d es r ts b) ≡ false)
        of_relation (Named p) ts b = inl refl
        of_relation Equality ts b = inr (ap (λ c. not c || false) (all_of (is_stable s d es) ts (λ t i. stable t)))

    values_stay : (f : ℕ) (ds : List ℕ) (kf : List Literal) → values_at (filter (λ l. not (spoils s d es l)) kf) f ds ≡ values_at kf f ds
    unfolding values_at given_at
    values_stay f ds [] = refl
    values_stay f ds (l ∷ ls) =
        elim (spoils s d es l) as (λ b. spoils s d es l ≡ b → values_at (cond (not b) (l ∷ filter (λ l. not (spoils s d es l)) ls) (filter (λ l. not (spoils s d es l)) ls)) f ds ≡ values_at (l ∷ ls) f ds) [
          | true ↦ λ q. ⊎_elim
              (λ n. values_stay f ds ls ∙ sym (ap (λ o. cons_option o (values_at ls f ds)) n))
              (λ n. absurd (true≢false (sym q ∙ n)))
              (unspoiled f ds l)
          | false ↦ λ q i. cons_option (given_at f ds l) (values_stay f ds ls i)
        ] refl

-- ---- what lasts, with literals put in from which nothing follows

module _ (s : Signature) (d k e : Five) (es : List Effect) (ls : List Literal) (inhabited : HasValues s) (closed : IsClosed s d) (sides : Each IsInOrder d.kf)
    (ordered : IsOrdered literal_cmp k.kf) (put : PutsIn s d es k ls e) (none : BringsNothing k ls e) where
  known : k.kf ≡ filter (λ l. not (spoils s d es l)) d.kf
  known = ap (λ (x : Five). x.kf) put.kept

  kept_closed : IsSaturated s k × (first_clash s k ≡ None)
  kept_closed = lasting_closed s d k es inhabited closed sides known (ap (λ (x : Five). x.kx) put.kept) (ap (λ (x : Five). x.lcw) put.kept)

  kept_sides : Each IsInOrder k.kf
  kept_sides = subst (Each IsInOrder) (sym known) (each_kept IsInOrder (λ l. not (spoils s d es l)) d.kf sides)

  same_regions : e.lcw ≡ k.lcw
  same_regions = put.regions ∙ added_same entry_cmp k.lcw put.more (sym (ap length put.regions) ∙ none.regions)

  pub has_its_forms : HasItsForms e.kf
  has_its_forms = record { forms = loose_found s k e ls inhabited kept_closed.0 kept_closed.1 ordered kept_sides put.literals put.groups same_regions none.literals }

  pub gives_alike : assign_nothing es ≡ true → GiveAlike e.kf d.kf
  gives_alike h = record {
    alike = λ f ds. loose_values k.kf e.kf k.kx ls ordered put.literals none.literals f ds ∙ ap (λ kf. values_at kf f ds) known ∙ values_stay s d es h f ds d.kf;
  }

  pub is_still : list_any (λ l. holds s e (negated l)) ls ≡ false → IsStill s e
  is_still h =
      let r = loose_closed s k e ls inhabited kept_closed.0 kept_closed.1 ordered put.literals put.groups same_regions none.literals h in
      record { saturated = r.0; fine = r.1 }
