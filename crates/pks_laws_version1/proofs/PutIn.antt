-- Arguments put into the text of an action where no type has a parent.
use Rattle.std.proofs.Common.{◌≡◌, ◌||◌, ℕ, Bool, true, false, List, [], ◌∷◌, map, Some, None, refl, sym, ap, ◌∙◌, subst, ⊎_elim, true≢false}
use Rattle.std.specs.Option.{option_map_or}
use Rattle.std.proofs.lemmas.Bool.{and_parts, or_cases, eqb-true}
use Rattle.pks_terms.specs.Sets.{Each}
use Rattle.pks_terms.specs.Syntax.{Inner, Term, Relation, Named, Equality, Literal}
use Rattle.pks_terms.specs.Orders.{literal_cmp, literal}
use Rattle.pks_terms.specs.Signatures.{Signature, fits_type, type_of}
use Rattle.pks_terms.specs.Queries.{Plain, Know, KnowWhether, KnowValue}
use Rattle.pks_terms.specs.Actions.{Effect, term_at, literal_at, conj_at, plain_at, effect_at, Schema}
use Rattle.pks_terms.specs.Valid.{all_fit, inner_fits, term_fits, type_in, is_term, is_related, is_literal, sides_fit, IsLiteralText, IsConjText, IsPlainText, IsTargetText, IsSchemaText}
use Rattle.pks_terms.proofs.ListLaws.{each_in, each_of, each_map, each_set_of, each_weaker}
use Rattle.pks_terms.proofs.Types.{fits_alone}
use Rattle.pks_laws.proofs.Versions.{ordered_typed}
use Rattle.pks_laws.proofs.Fitting.{term_at_keeps}
use Rattle.pks_laws.proofs.Belonging.{L}
use Rattle.pks_laws.proofs.BelongingSteps.{put_literal, put_effects}
use Rattle.pks_laws_version1.proofs.Looking.{U, V, type_is}
use Rattle.pks_laws_version1.proofs.Rounds.{IsFirstPlain}
use Rattle.pks_laws_version1.proofs.Deeds.{IsFirstEffect}

module _ (s : Signature) (none : Each (λ o. o ≡ None) s.parents) where
  abbrev X : Literal → Type 0
  X = V s none

  same_type : (a b : ℕ) → (fits_type s a b || fits_type s b a) ≡ true → a ≡ b
  same_type a b h = ⊎_elim (λ k. eqb-true a b (sym (fits_alone s none a b) ∙ k)) (λ k. sym (eqb-true b a (sym (fits_alone s none b a) ∙ k))) (or_cases (fits_type s a b) _ h)

  -- the sides of an equation as written have one type
  text_type : (params : List ℕ) (t u : Term) → sides_fit s params Equality (t ∷ u ∷ []) ≡ true → (a : ℕ) × (type_in s params t ≡ Some a) × (type_in s params u ≡ Some a)
  text_type params t u h =
      elim (type_in s params t) as (λ o. option_map_or (λ a. option_map_or (λ b. fits_type s a b || fits_type s b a) (type_in s params u) false) o false ≡ true → (a : ℕ) × (o ≡ Some a) × (type_in s params u ≡ Some a)) [
        | None ↦ λ q. absurd (true≢false (sym q))
        | Some a ↦ elim (type_in s params u) as (λ o. option_map_or (λ b. fits_type s a b || fits_type s b a) o false ≡ true → (c : ℕ) × (Some a ≡ Some c) × (o ≡ Some c)) [
          | None ↦ λ q. absurd (true≢false (sym q))
          | Some b ↦ λ q. (a, refl, ap Some (sym (same_type a b q)))
        ]
      ] h

  module _ (params : List ℕ) (given : List Inner) (fit : all_fit (inner_fits s []) params given ≡ true) where
    put_type : (t : Term) (a : ℕ) → is_term s params t ≡ true → type_in s params t ≡ Some a → type_of s (term_at given t) ≡ Some a
    put_type t a h q = type_is s none a (term_at given t) (term_at_keeps s params given fit t a (subst (λ o. option_map_or (λ own. term_fits s params own t) o false ≡ true) q h))

    put_sides : (r : Relation) (ts : List Term) (b : Bool) → is_related s params r ts ≡ true → sides_fit s params r ts ≡ true → U s none (literal r (map (term_at given) ts) b)
    unfolding literal
    put_sides (Named p) ts b h q = tt
    put_sides Equality (t ∷ u ∷ []) b h q =
        let e = text_type params t u q in
        let both = and_parts (is_term s params t) _ h in
        unfold literal in ordered_typed s none (term_at given t) (term_at given u) b e.0 (put_type t e.0 both.0 e.1) (put_type u e.0 both.1 e.2)
    put_sides Equality [] b h q = absurd (true≢false (sym h))
    put_sides Equality (t ∷ []) b h q = absurd (true≢false (sym h))
    put_sides Equality (t ∷ u ∷ v ∷ ts) b h q = absurd (true≢false (sym h))

    pub put_first : (l : Literal) → IsLiteralText s params l → X (literal_at given l)
    unfolding literal_at is_literal
    put_first l k = (unfold literal_at is_literal in put_literal s params given fit l k.typed, put_sides l.relation l.arguments l.positive k.typed k.sides)

    pub put_conj_first : (c : List Literal) → IsConjText s params c → Each X (conj_at given c)
    put_conj_first c t = each_set_of X literal_cmp (map (literal_at given) c) (each_map X (literal_at given) c (each_weaker (IsLiteralText s params) (λ l. X (literal_at given l)) put_first c t.0))

    pub put_plain : (x : Plain) → IsPlainText s params x → IsFirstPlain s none (plain_at given x)
    put_plain (Know l) t = put_first l t
    put_plain (KnowWhether c) t = put_conj_first c t
    put_plain (KnowValue u) t = tt

  -- the effects of an action, its arguments put in
  pub put_effects_first : (sc : Schema) → IsSchemaText s sc → (given : List Inner) → all_fit (inner_fits s []) sc.parameters given ≡ true → Each (IsFirstEffect s none) (map (effect_at given) sc.effects)
  put_effects_first sc text given fit =
      let written = put_effects s sc.parameters given fit sc.effects text.effects in
      let typed : Each (λ (e : Effect). Each X e.condition) (map (effect_at given) sc.effects) =
      each_map (λ (e : Effect). Each X e.condition) (effect_at given) sc.effects
      (each_weaker (λ e. IsConjText s sc.parameters e.condition × IsTargetText s sc.parameters e.target) (λ e. Each X (conj_at given e.condition)) (λ e k. put_conj_first sc.parameters given fit e.condition k.0) sc.effects text.effects) in
      each_of (IsFirstEffect s none) (map (effect_at given) sc.effects) (λ e i.
      (each_in (λ (e : Effect). Each X e.condition) (map (effect_at given) sc.effects) e typed i, (each_in (λ (e : Effect). Each (L s) e.condition × IsTargetText s [] e.target) (map (effect_at given) sc.effects) e written i).1))
