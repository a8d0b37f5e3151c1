-- Twins of a problem's start, and what is seen in both worlds of some twins.
use Rattle.std.proofs.Common.{◌≡◌, ◌==◌, ℕ, Bool, true, false, not, List, [], ◌∷◌, map, filter_map, Option, Some, None, refl, sym, ap, ◌∙◌, subst, true≢false}
use Rattle.std.specs.List.{list_all}
use Rattle.std.proofs.lemmas.Bool.{and_parts, eqb-true, not-true}
use Rattle.std.proofs.lemmas.Option.{none-some, same_Some}
use Rattle.pks_terms.specs.Signatures.{Signature}
use Rattle.pks_terms.specs.Sets.{Each, IsIn, set_of}
use Rattle.pks_terms.specs.Syntax.{Literal, Term}
use Rattle.pks_terms.specs.Orders.{conj_cmp, term_cmp}
use Rattle.pks_terms.specs.Worlds.{World, value_of, all_true_in}
use Rattle.pks_terms.specs.Queries.{KnowWhether}
use Rattle.pks_terms.specs.Actions.{Sense, SenseWhether, SenseValue, SenseAll, Instance, SeenWhether, SeenValue, seen, observed, sense_at}
use Rattle.pks_terms.specs.Problems.{Start, StartKf, StartKw, StartKv, StartKx, StartLcw, AtStart, Problem, schema_of, whether_start, value_start, initial, IsCompatible, StartAlike}
use Rattle.pks_terms.specs.Knowledge.{observations}
use Rattle.pks_search_witness.specs.declared.twins.Twins.{Twins}
use Rattle.pks_terms.proofs.ListLaws.{each_in, each_from_all, each_set_of, each_filter_map}
use Rattle.pks_search_witness.specs.Apart.{first_in, second_in, AreApart, AreFirst, are_equal, agree_on, finds_same}

equal_true : (a b : Bool) → are_equal a b ≡ true → a ≡ b
equal_true true b h = sym h
equal_true false b h = sym (not-true b h)

equal_itself : (a b : Bool) → a ≡ b → are_equal a b ≡ true
equal_itself true b h = sym h
equal_itself false b h = ap not (sym h)

-- ---- the start

module _ (w w' : World) where
  formula_alike : (x : Start) (c : List Literal) → whether_start x ≡ Some c → agree_on w w' x ≡ true → all_true_in w c ≡ all_true_in w' c
  formula_alike (StartKw k) c e h = subst (λ f. all_true_in w f ≡ all_true_in w' f) (same_Some k c e) (equal_true _ _ h)
  formula_alike (StartKf l) c e h = absurd (none-some c e)
  formula_alike (StartKv t) c e h = absurd (none-some c e)
  formula_alike (StartKx g) c e h = absurd (none-some c e)
  formula_alike (StartLcw x) c e h = absurd (none-some c e)

  term_alike : (x : Start) (t : Term) → value_start x ≡ Some t → agree_on w w' x ≡ true → value_of w t ≡ value_of w' t
  term_alike (StartKv u) t e h = subst (λ x. value_of w x ≡ value_of w' x) (same_Some u t e) (eqb-true (value_of w u) (value_of w' u) h)
  term_alike (StartKf l) t e h = absurd (none-some t e)
  term_alike (StartKw c) t e h = absurd (none-some t e)
  term_alike (StartKx g) t e h = absurd (none-some t e)
  term_alike (StartLcw x) t e h = absurd (none-some t e)

  start_alike : (p : Problem) → IsCompatible p w → IsCompatible p w' → list_all (agree_on w w') p.init ≡ true → StartAlike p w w'
  unfolding initial
  start_alike p k k' h =
      let all = each_from_all (λ x. agree_on w w' x ≡ true) (agree_on w w') (λ x b. b) p.init h in
      record {
        first = k;
        second = k';
        whether = each_set_of (λ c. all_true_in w c ≡ all_true_in w' c) conj_cmp (filter_map whether_start p.init) (each_filter_map (λ c. all_true_in w c ≡ all_true_in w' c) whether_start p.init (λ x c i e. formula_alike x c e (each_in (λ x. agree_on w w' x ≡ true) p.init x all i)));
        values = each_set_of (λ t. value_of w t ≡ value_of w' t) term_cmp (filter_map value_start p.init) (each_filter_map (λ t. value_of w t ≡ value_of w' t) value_start p.init (λ x t i e. term_alike x t e (each_in (λ x. agree_on w w' x ≡ true) p.init x all i)));
      }

-- two compatible worlds that agree on what is known at the start, and that a formula tells apart which the goal asks of it
pub first_twins : (p : Problem) (x : Twins) (w w' : World) (c : List Literal) → first_in x ≡ w → second_in x ≡ w' → IsCompatible p w → IsCompatible p w' → list_all (agree_on w w') p.init ≡ true
    → IsIn (AtStart (record { asks = KnowWhether c; denied = false })) p.goal → are_equal (all_true_in w c) (all_true_in w' c) ≡ false → AreFirst p x
first_twins p x w w' c e e' k k' agree asked apart =
    let alike : StartAlike p w w' = start_alike w w' p k k' agree in
    let told : AreApart p w w' = (c, asked, λ q. true≢false (sym (equal_itself (all_true_in w c) (all_true_in w' c) q) ∙ apart)) in
    record {
      alike = subst (λ (u : World). StartAlike p u (second_in x)) (sym e) (subst (λ (u : World). StartAlike p w u) (sym e') alike);
      apart = subst (λ (u : World). AreApart p u (second_in x)) (sym e) (subst (λ (u : World). AreApart p w u) (sym e') told);
    }

-- ---- what is seen

module _ (s : Signature) (w w' : World) where
  one_seen : (x : Sense) → finds_same w w' x ≡ true → seen s w x ≡ seen s w' x
  one_seen (SenseWhether c) h = ap (SeenWhether c) (equal_true (all_true_in w c) (all_true_in w' c) h)
  one_seen (SenseValue t) h = ap (SeenValue t) (eqb-true (value_of w t) (value_of w' t) h)
  one_seen (SenseAll x) h = absurd (true≢false (sym h))

  all_seen : (xs : List Sense) → list_all (finds_same w w') xs ≡ true → observed s w xs ≡ observed s w' xs
  unfolding observed
  all_seen [] h = refl
  all_seen (x ∷ xs) h = let k = and_parts (finds_same w w' x) _ h in λ i. one_seen x k.0 i ∷ all_seen xs k.1 i

pub same_seen : (p : Problem) (w w' : World) (g : Instance) → list_all (finds_same w w') (map (sense_at g.arguments) (schema_of p g.action).senses) ≡ true → observations p w g ≡ observations p w' g
unfolding observations
same_seen p w w' g h = all_seen p.signature w w' (map (sense_at g.arguments) (schema_of p g.action).senses) h
