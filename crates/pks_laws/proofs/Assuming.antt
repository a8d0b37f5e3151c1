-- The fourth law: what is assumed on the side that is so in a world is true of all worlds that the databases don't tell from it.
use Rattle.std.proofs.Common.{◌≡◌, ◌&&◌, true, false, cond, not, is_eq, List, [], ◌∷◌, filter, refl, sym, ap, ◌∙◌, ⊎_elim, true≢false}
use Rattle.std.specs.List.{list_all}
use Rattle.std.proofs.lemmas.Bool.{cases_Bool, eq-eqb, not_from_false}
use Rattle.pks_terms.specs.Signatures.{Signature}
use Rattle.pks_terms.specs.Sets.{Each}
use Rattle.pks_terms.specs.Syntax.{object, Equality, Literal}
use Rattle.pks_terms.specs.Orders.{term_eq, literal_cmp, conj_cmp, equation}
use Rattle.pks_terms.specs.Worlds.{World, value_of, true_in, all_true_in}
use Rattle.pks_terms.specs.Databases.{Five, holds}
use Rattle.pks_terms.specs.Meaning.{IsTrueIn, IsTrueOf}
use Rattle.pks_terms.specs.Branching.{Choice, Act, BranchOn, CasesOn, Side, AsTrue, AsFalse, Is, denials, assumed_formula, assumed, IsSo, IsMember}
use Rattle.pks_terms.proofs.ListLaws.{each_added, each_insert_in, each_in, each_kept, each_from_all}
use Rattle.pks_laws.proofs.Holding.{true_in-literal, true_in-negated, holds_true}

module _ {s : Signature} (w : World) (d : Five) (m : IsTrueIn s w d) where
  -- of a false formula the one literal that isn't derived is false
  denials_true : (c : List Literal) → list_all (true_in w) c ≡ false → Each (λ l. true_in w l ≡ true) (denials (filter (λ l. not (holds s d l)) c))
  denials_true [] h = absurd (true≢false h)
  denials_true (l ∷ ls) h =
      elim (holds s d l) as (λ b. holds s d l ≡ b → Each (λ l. true_in w l ≡ true) (denials (cond (not b) (l ∷ filter (λ l. not (holds s d l)) ls) (filter (λ l. not (holds s d l)) ls)))) [
        | true ↦ λ q. denials_true ls (sym (ap (λ b. b && list_all (true_in w) ls) (holds_true w d m l q)) ∙ h)
        | false ↦ λ q. elim (filter (λ l. not (holds s d l)) ls) as (λ r. filter (λ l. not (holds s d l)) ls ≡ r → Each (λ l. true_in w l ≡ true) (denials (l ∷ r))) [
          | [] ↦ λ k. (true_in-negated w l ∙ not_from_false _ (⊎_elim (λ t. absurd (true≢false (sym (all_held ls k) ∙ sym (ap (λ b. b && list_all (true_in w) ls) t) ∙ h))) (λ f. f) (cases_Bool (true_in w l))), tt)
          | x ∷ xs ↦ λ k. tt
        ] refl
      ] refl
    where
      all_held : (ls : List Literal) → filter (λ l. not (holds s d l)) ls ≡ [] → list_all (true_in w) ls ≡ true
      all_held [] k = refl
      all_held (x ∷ xs) k =
          elim (holds s d x) as (λ b. holds s d x ≡ b → cond (not b) (x ∷ filter (λ l. not (holds s d l)) xs) (filter (λ l. not (holds s d l)) xs) ≡ [] → (true_in w x && list_all (true_in w) xs) ≡ true) [
            | true ↦ λ q r. ap (λ b. b && list_all (true_in w) xs) (holds_true w d m x q) ∙ all_held xs r
            | false ↦ λ q r. cc
          ] refl k

  formula_assumed : (c : List Literal) (news : List Literal) → Each (λ l. true_in w l ≡ true) news → IsTrueIn s w (assumed_formula d c news)
  formula_assumed c news a = record { world = m.world; known = each_added (λ l. true_in w l ≡ true) literal_cmp d.kf news m.known a; groups = m.groups; regions = m.regions }

module _ {s : Signature} (w w' : World) (d : Five) (m : IsTrueOf s w w' d) where
  -- the side is so in the other world too
  pub so_too : (c : Choice) (side : Side) → IsMember d c → IsSo w c side → IsSo w' c side
  so_too (BranchOn c) AsTrue i h = sym (each_in (λ c. all_true_in w c ≡ all_true_in w' c) d.kw c m.whether i) ∙ h
  so_too (BranchOn c) AsFalse i h = sym (each_in (λ c. all_true_in w c ≡ all_true_in w' c) d.kw c m.whether i) ∙ h
  so_too (CasesOn t) (Is e) i h = sym (each_in (λ t. value_of w t ≡ value_of w' t) d.kv t m.values i) ∙ h
  so_too (BranchOn c) (Is e) i h = absurd h
  so_too (CasesOn t) AsTrue i h = absurd h
  so_too (CasesOn t) AsFalse i h = absurd h
  so_too (Act x) AsTrue i h = absurd h
  so_too (Act x) AsFalse i h = absurd h
  so_too (Act x) (Is e) i h = absurd h

  one_assumed : (u : World) → IsTrueIn s u d → (c : Choice) (side : Side) → IsSo u c side → IsTrueIn s u (assumed s d c side)
  unfolding assumed all_true_in
  one_assumed u n (BranchOn c) AsTrue h = formula_assumed u d n c c (each_from_all (λ l. true_in u l ≡ true) (true_in u) (λ l t. t) c h)
  one_assumed u n (BranchOn c) AsFalse h = formula_assumed u d n c (denials (filter (λ l. not (holds s d l)) c)) (denials_true u d n c h)
  one_assumed u n (CasesOn t) (Is e) h =
      record { world = n.world; known = each_insert_in (λ l. true_in u l ≡ true) literal_cmp (equation t (object e)) d.kf equal n.known; groups = n.groups; regions = n.regions }
    where
      equal : true_in u (equation t (object e)) ≡ true
      equal = true_in-literal u Equality (t ∷ object e ∷ []) true ∙ eq-eqb (value_of u t) (value_of u (object e)) (h ∙ unfold value_of in refl)
  one_assumed u n (BranchOn c) (Is e) h = absurd h
  one_assumed u n (CasesOn t) AsTrue h = absurd h
  one_assumed u n (CasesOn t) AsFalse h = absurd h
  one_assumed u n (Act x) AsTrue h = absurd h
  one_assumed u n (Act x) AsFalse h = absurd h
  one_assumed u n (Act x) (Is e) h = absurd h

  kept_formulas : (c : Choice) (side : Side) → Each (λ c. all_true_in w c ≡ all_true_in w' c) (assumed s d c side).kw
  unfolding assumed
  kept_formulas (BranchOn c) AsTrue = each_kept (λ c. all_true_in w c ≡ all_true_in w' c) (λ b. not (is_eq (conj_cmp b c))) d.kw m.whether
  kept_formulas (BranchOn c) AsFalse = each_kept (λ c. all_true_in w c ≡ all_true_in w' c) (λ b. not (is_eq (conj_cmp b c))) d.kw m.whether
  kept_formulas (BranchOn c) (Is e) = m.whether
  kept_formulas (CasesOn t) AsTrue = m.whether
  kept_formulas (CasesOn t) AsFalse = m.whether
  kept_formulas (CasesOn t) (Is e) = m.whether
  kept_formulas (Act x) AsTrue = m.whether
  kept_formulas (Act x) AsFalse = m.whether
  kept_formulas (Act x) (Is e) = m.whether

  kept_terms : (c : Choice) (side : Side) → Each (λ t. value_of w t ≡ value_of w' t) (assumed s d c side).kv
  unfolding assumed
  kept_terms (CasesOn t) (Is e) = each_kept (λ t. value_of w t ≡ value_of w' t) (λ u. not (term_eq u t)) d.kv m.values
  kept_terms (CasesOn t) AsTrue = m.values
  kept_terms (CasesOn t) AsFalse = m.values
  kept_terms (BranchOn c) AsTrue = m.values
  kept_terms (BranchOn c) AsFalse = m.values
  kept_terms (BranchOn c) (Is e) = m.values
  kept_terms (Act x) AsTrue = m.values
  kept_terms (Act x) AsFalse = m.values
  kept_terms (Act x) (Is e) = m.values

  pub assumed_true : (c : Choice) (side : Side) → IsMember d c → IsSo w c side → IsTrueOf s w w' (assumed s d c side)
  assumed_true c side i h = record {
    first = one_assumed w m.first c side h;
    second = one_assumed w' m.second c side (so_too c side i h);
    whether = kept_formulas c side;
    values = kept_terms c side;
  }
