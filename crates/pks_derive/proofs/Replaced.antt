-- Progression with other adds that have a case.
use Rattle.std.proofs.Common.{◌≡◌, Bool, true, false, cond, is_some, List, [], ◌∷◌, map, filter, refl, sym, ap, ◌∙◌, subst}
use Rattle.std.specs.List.{list_any}
use Rattle.pks_terms.specs.Sets.{Each, IsIn, first_of_each}
use Rattle.pks_terms.specs.Syntax.{Literal}
use Rattle.pks_terms.specs.Worlds.{World}
use Rattle.pks_terms.specs.Databases.{Five}
use Rattle.pks_terms.specs.Meaning.{IsWorld, IsTrueOf}
use Rattle.pks_terms.specs.Closure.{Outcome, Next}
use Rattle.pks_terms.specs.Queries.{Plain}
use Rattle.pks_terms.specs.Actions.{Item, ItemKf, ItemKw, ItemKv, ItemLcw, Add, Schema, Instance, sense_at, applied_to, observed}
use Rattle.pks_terms.specs.Justified.{given_of, whether_case, item_case, case_of}
use Rattle.pks_terms.specs.Progress.{progressed, Progress}
use Rattle.pks_terms.specs.Problems.{Problem, schema_of}
use Rattle.pks_terms.specs.Typed.{IsTyped, AreJustified}
use Rattle.pks_terms.specs.Branching.{instances}
use Rattle.pks_terms.specs.Settling.{effects_of}
use Rattle.pks_terms.specs.Knowledge.{grounded, after_action, observations}
use Rattle.pks_terms.specs.Shapes.{same_add, shapes, derived_adds, with_derived_adds}
use Rattle.pks_terms.proofs.ListLaws.{each_filter}
use Rattle.pks_laws.proofs.Tidying.{closed_true}
use Rattle.pks_laws.proofs.Deciding.{progressed_true}
use Rattle.pks_laws.proofs.Instances.{allowed_instance, arguments_alike, argument_alike}
use Rattle.pks_laws.proofs.Doing.{effects_do, grounded_alike}
use Rattle.pks_laws.proofs.Staying.{worlds_stay}
use Rattle.pks_derive.specs.Replacing.{with_adds}

-- ---- the case of an add doesn't depend on the adds that the action has

whether_same : (g : List Plain) (sc : Schema) (adds : List Add) (c : List Literal) → whether_case g (with_adds sc adds) c ≡ whether_case g sc c
whether_same g sc adds [] = refl
whether_same g sc adds (l ∷ []) = refl
whether_same g sc adds (l ∷ m ∷ c) = refl

item_same : (g : List Plain) (sc : Schema) (adds : List Add) (x : Item) → item_case g (with_adds sc adds) x ≡ item_case g sc x
item_same g sc adds (ItemKf l) = refl
item_same g sc adds (ItemKw c) = whether_same g sc adds c
item_same g sc adds (ItemKv t) = refl
item_same g sc adds (ItemLcw x) = refl

case_same : (sc : Schema) (adds : List Add) (a : Add) → case_of (with_adds sc adds) a ≡ case_of sc a
unfolding case_of
case_same sc adds a = item_same (given_of sc a) sc adds a.item

-- ---- each derived add has a case

module _ {X : Type 0} (P : X → Type 0) (same : X → X → Bool) where
  first_by : (b : Bool) (x : X) (ys zs : List X) → P x → Each P ys → Each P zs → Each P (cond b ys (x ∷ zs))
  first_by true x ys zs h k m = k
  first_by false x ys zs h k m = (h, m)

  each_first : (before xs : List X) → Each P xs → Each P (first_of_each same before xs)
  each_first before [] h = tt
  each_first before (x ∷ xs) h = first_by (list_any (same x) before) x (first_of_each same before xs) (first_of_each same (x ∷ before) xs) h.0 (each_first before xs h.1) (each_first (x ∷ before) xs h.1)

abbrev HasCase : Schema → List Add → Add → Type 0
HasCase sc adds a = is_some (case_of (with_adds sc adds) a) ≡ true

cases_of : (sc : Schema) (adds : List Add) → Each (HasCase sc adds) (derived_adds sc)
unfolding derived_adds
cases_of sc adds =
    each_first (HasCase sc adds) same_add [] (filter (λ a. is_some (case_of sc a)) (shapes sc))
    (each_filter (HasCase sc adds) (λ a. is_some (case_of sc a)) (shapes sc) (λ a i e. ap is_some (case_same sc adds a) ∙ e))

pub derived_justified : (sc : Schema) → AreJustified (with_derived_adds sc)
derived_justified sc = cases_of sc (derived_adds sc)

-- ---- truth is kept

pub replaced_true : (p : Problem) (w w' : World) (d : Five) (i : Instance) (adds : List Add) (o : Outcome) → IsTyped p → IsTrueOf p.signature w w' d → IsIn i (instances p d)
    → AreJustified (with_adds (schema_of p i.action) adds)
    → observations p (after_action p w (grounded w i)) (grounded w i) ≡ observations p (after_action p w' (grounded w' i)) (grounded w' i) → Progress p.signature d (with_adds (schema_of p i.action) adds) i o
    → (e : Five) × (o ≡ Next e) × IsTrueOf p.signature (after_action p w (grounded w i)) (after_action p w' (grounded w' i)) e
unfolding observations
replaced_true p w w' d i adds o typed m chosen justified seen progress =
    let args = arguments_alike w w' p d m.values i chosen in
    let same = effects_do p w i in
    let same' = effects_do p w' i in
    let sc = with_adds (schema_of p i.action) adds in
    let seen_alike = (λ j. observed p.signature (same j) (map (sense_at (grounded w i).arguments) sc.senses)) ∙ seen ∙ (λ j. observed p.signature (sym same' j) (map (sense_at (sym (grounded_alike w w' i args) j).arguments) sc.senses)) in
    let r = closed_true p.signature (applied_to w (effects_of p i)) (applied_to w' (effects_of p i)) (progressed p.signature d sc i.arguments)
    (progressed_true p.signature w w' d m i.arguments sc (argument_alike w w' i.arguments args) (allowed_instance p d i chosen).0 justified
    (subst (IsWorld p.signature) (sym same) (worlds_stay p typed w d i m.first.world m.first chosen)) (subst (IsWorld p.signature) (sym same') (worlds_stay p typed w' d i m.second.world m.second chosen)) seen_alike) o progress in
    (r.0, r.1, subst (λ (v : World). IsTrueOf p.signature v (after_action p w' (grounded w' i)) r.0) same (subst (λ (v : World). IsTrueOf p.signature (applied_to w (effects_of p i)) v r.0) same' r.2))

pub derived_true : (p : Problem) (w w' : World) (d : Five) (i : Instance) (o : Outcome) → IsTyped p → IsTrueOf p.signature w w' d → IsIn i (instances p d)
    → observations p (after_action p w (grounded w i)) (grounded w i) ≡ observations p (after_action p w' (grounded w' i)) (grounded w' i) → Progress p.signature d (with_derived_adds (schema_of p i.action)) i o
    → (e : Five) × (o ≡ Next e) × IsTrueOf p.signature (after_action p w (grounded w i)) (after_action p w' (grounded w' i)) e
derived_true p w w' d i o typed m chosen seen progress = replaced_true p w w' d i (derived_adds (schema_of p i.action)) o typed m chosen (derived_justified (schema_of p i.action)) seen progress
