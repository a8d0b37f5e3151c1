-- A file without a fault states a valid problem.
use Rattle.std.proofs.Common.{◌≡◌, ◌⊎◌, inl, inr, ℕ, ◌≤◌, ◌<◌, nat_lt, [], ◌∷◌, length, Option, Some, None, refl, sym, ap, arith}
use Rattle.std.specs.Prelude.{codes}
use Rattle.std.proofs.lemmas.Option.{none-some}
use Rattle.pks_terms.specs.Sets.{Each}
use Rattle.pks_terms.specs.Actions.{Schema}
use Rattle.pks_terms.specs.Versions.{IsNow, IsFirstVersion}
use Rattle.pks_terms.specs.Versions as versions
use Rattle.pks_terms.specs.Valid.{IsConjText, IsPlainText, AreQueries, IsTargetText, IsSenseText, IsItemText, IsSchemaText, IsStartText, IsValidSignature, IsValid}
use Rattle.pks_text.specs.Forms.{Form, Listing, Forms, no_forms, form}
use Rattle.pks_reader_shape.specs.declared.grammar.Version.{Version}
use Rattle.pks_reader_shape.specs.declared.grammar.Version.TheVariants.{First, Second}
use Rattle.pks_reader_shape.specs.declared.grammar.Sort.TheVariants as sort
use Rattle.pks_reader_shape.specs.declared.grammar.Part.TheVariants.{One}
use Rattle.pks_reader_shape.specs.Grammar.{lists, is_allowed}
use Rattle.pks_reader_shape.specs.Walk.{count}
use Rattle.pks_reader_shape.specs.Files.{or_else, number_of}
use Rattle.pks_reader_shape.specs.Language.{IsOf, Matches, one, nothing as no_parts}
use Rattle.pks_reader_names.specs.Scopes.{Scope, signature_in}
use Rattle.pks_reader_names.specs.Tables.{entries_of}
use Rattle.pks_reader_names.specs.Parts.{behind, behind_head, section, first_forms, only}
use Rattle.pks_reader_names.specs.Sentences.{query_faults, effect_faults, sense_faults, add_faults, start_faults, aim_faults, problem_faults}
use Rattle.pks_reader_names.specs.Declarations.{Types, name_of, type_faults, parent_named, first_in, second_in, parameter_in, parameters_section, within, cost_faults, parts_section, action_faults, actions_among, actions_section, nothing, section_table}
use Rattle.pks_reader_names.specs.Meaning.{scope_of}
use Rattle.pks_reader_names.proofs.Least.{least_none}
use Rattle.pks_reader_declared.specs.FirstFault.{declarations_fault, meaning_fault}
use Rattle.pks_reader_problem.specs.Stated.{all, cost_in, query_in, effect_in, sense_in, add_in, schema_in, stated_in, start_in, aim_in, problem_in, problem_by}
use Rattle.pks_reader_problem.proofs.Few.{first_count, section_length}
use Rattle.pks_reader_problem.proofs.Walked.{first_all}
use Rattle.pks_laws_reader.specs.Facts.{HasShapes}
use Rattle.pks_laws_reader.proofs.Shapes.{of_sort, of_lists}
use Rattle.pks_laws_reader.proofs.Numbers.{faultless, when, each_form, each_forms, each_all, all_hold}
use Rattle.pks_laws_reader.proofs.Fitting.{own_types}
use Rattle.pks_laws_reader.proofs.Sentences.{query_text, effect_text, sense_text, add_text, start_text, aim_text}
use Rattle.pks_laws_reader.proofs.Sections.{action_is, params_are, pre_are, effects_are, senses_are, knows_are, cost_holds, no_cost, domain_parts, domain_is, functions_are, types_are, actions_are, problem_is, init_are, goal_are}
use Rattle.pks_laws_reader.proofs.Tabled.{each_of_first, each_declared, each_said, section_faultless, entries_length, type_within, each_type}
use Rattle.pks_laws_reader.proofs.Signed.{scope_shapes, within_shapes, signature_valid}
use Rattle.pks_laws_reader.proofs.Costs.{cost_between}

-- ---- actions

-- the type of a parameter
param_within : (v : Version) (types : Types) (f : Form) → IsOf v sort.Param f → only (type_faults types) (behind_head f) ≡ [] → parameter_in types f < length types
unfolding lists is_allowed
param_within v types = of_lists v (λ f. only (type_faults types) (behind_head f) ≡ [] → parameter_in types f < length types) sort.Param (λ text. refl) tt (λ parts at end free m. by_parts parts at end m)
  where
    by_parts : (parts : Forms) (at end : ℕ) → Matches v (One sort.Variable ∷ One sort.Name ∷ []) parts → only (type_faults types) (behind parts) ≡ [] → parameter_in types (Listing parts at end) < length types
    by_parts _ at end (one _ _ x _ is (one _ _ t _ also no_parts)) e = type_within types t e

cost_is : (v : Version) (f : Form) → IsOf v sort.Number f → cost_faults f ≡ [] → (1 ≤ cost_in (form f no_forms)) × (cost_in (form f no_forms) ≤ 9999)
unfolding lists is_allowed
cost_is v = of_sort v (λ f. cost_faults f ≡ [] → (1 ≤ cost_in (form f no_forms)) × (cost_in (form f no_forms) ≤ 9999)) sort.Number (λ text at allowed e. cost_between text allowed (when (at, 208) (nat_lt 4 (length text)) e)) tt tt

cost_within : (v : Version) (fs : Forms) → Matches v (One sort.Number ∷ []) fs → only cost_faults fs ≡ [] → (1 ≤ cost_in fs) × (cost_in fs ≤ 9999)
cost_within v _ (one _ _ f _ is no_parts) = cost_is v f is

pub schema_text : (v : Version) (s : Scope) → HasShapes s → (f : Form) → IsOf v sort.Action f → action_faults s (behind_head f) ≡ [] → IsSchemaText (signature_in s) (schema_in s (behind_head f))
unfolding action_faults parameters_section parts_section stated_in within
schema_text v s shapes f is e =
    let fs = behind_head f in
    let m = action_is v f is in
    let params = section (codes "params") fs in
    let inner : Scope = within s fs in
    let own : HasShapes inner = within_shapes s fs shapes in
    let typed : parameters_section s.types params ≡ [] = search faultless in
    let parts : parts_section inner fs ≡ [] = search faultless in
    record {
      cost = cost_holds v fs m (λ gs. only cost_faults gs ≡ [] → (1 ≤ cost_in gs) × (cost_in gs ≤ 9999)) (λ e. omega arith) (cost_within v) (search faultless);
      parameters = (
        each_said (λ a. a < length s.types) first_in (parameter_in s.types) (first_forms 4 params)
            (each_forms _ _ _ (param_within v s.types) (first_forms 4 params) (each_of_first _ 4 params (params_are v fs m)) (section_faultless first_in 4 (parameter_in s.types) (λ f. only (type_faults s.types) (behind_head f)) params typed)),
        let a = entries_length inner.parameters in let b = section_length first_in 4 (parameter_in s.types) params in omega (arith, a, b),
      );
      pre = all_hold _ (query_faults inner) (λ q. IsPlainText (signature_in s) (own_types inner) q.asks) (query_in inner) (query_text inner own v) (section (codes "pre") fs) (pre_are v fs m) (search faultless);
      effects = all_hold _ (effect_faults inner) (λ x. IsConjText (signature_in s) (own_types inner) x.condition × IsTargetText (signature_in s) (own_types inner) x.target) (effect_in inner) (effect_text inner own v)
          (section (codes "effects") fs) (effects_are v fs m) (search faultless);
      senses = all_hold _ (sense_faults inner) (IsSenseText (signature_in s) (own_types inner)) (sense_in inner) (sense_text inner own v) (section (codes "senses") fs) (senses_are v fs m) (search faultless);
      adds = all_hold _ (add_faults inner) (λ x. AreQueries (signature_in s) (own_types inner) x.given × IsItemText (signature_in s) (own_types inner) x.item) (add_in inner) (add_text inner own v)
          (section (codes "knows") fs) (knows_are v fs m) (search faultless);
    }

-- ---- the first version

first_parent : (f : Form) → IsOf First sort.Kind f → (t : Types) → parent_named t (behind_head f) ≡ None
unfolding lists is_allowed
first_parent = of_sort First (λ f. (t : Types) → parent_named t (behind_head f) ≡ None) sort.Kind (λ text at allowed t. refl) tt tt

first_aim : (s : Scope) (f : Form) → IsOf First sort.Aim f → IsNow (aim_in s f)
unfolding lists is_allowed aim_in
first_aim s = of_lists First (λ f. IsNow (aim_in s f)) sort.Aim (λ text. refl) (search) tt

pub first_version : (d p : Form) → IsOf First sort.Domain d → IsOf First sort.Problem p → IsFirstVersion (problem_in 1 (behind_head d) (behind_head p))
unfolding problem_by scope_of stated_in
first_version d p is_d is_p =
    let domain = behind_head d in
    let s = scope_of 1 domain in
    let types = section (codes "types") domain in
    let m = domain_is First d is_d in
    record {
      version = refl;
      parents = each_type (λ t. Each (λ o. o ≡ None) (entries_of t)) [] (first_forms 16 types) tt
          (each_of_first _ 16 types (each_form _ _ (λ f is t a. each_declared (λ o. o ≡ None) t (name_of (first_in f)) (parent_named t (behind_head f)) a (first_parent f is t)) types (types_are First domain m)));
      costs = each_all _ (λ (x : Schema). x.cost ≡ 1) (λ f. schema_in s (behind_head f)) (λ f is. ap cost_in (no_cost f is)) (actions_among domain) (actions_are First domain m);
      aims = each_all _ IsNow (aim_in s) (first_aim s) (section (codes "goal") (behind_head p)) (goal_are First (behind_head p) (problem_is First p is_p));
    }

-- ---- the whole

pub or_none : {X : Type 0} (a b : Option X) → or_else a b ≡ None → (a ≡ None) × (b ≡ None)
or_none None b e = (refl, e)
or_none (Some x) b e = absurd (none-some x (sym e))

pub none_first : {X : Type 0} (a b : Option X) → or_else a b ≡ None → a ≡ None
none_first a b e = (or_none a b e).0

pub none_later : {X : Type 0} (a b : Option X) → or_else a b ≡ None → b ≡ None
none_later a b e = (or_none a b e).1

-- where no list of faults has a first, none has a fault
pub ruleset unrefused = (none_first, none_later, least_none, faultless)

pub all_length : {X : Type 0} (meant : Form → X) (fs : Forms) → length (all meant fs) ≡ count fs
all_length meant no_forms = refl
all_length meant (form f fs) = let r = all_length meant fs in omega (arith, r)

schemas_text : (v : Version) (s : Scope) → HasShapes s → (domain : Forms) → Matches v domain_parts domain → actions_section s domain ≡ []
    → Each (IsSchemaText (signature_in s)) (all (λ f. schema_in s (behind_head f)) (actions_among domain)) × (length (all (λ f. schema_in s (behind_head f)) (actions_among domain)) ≤ 256)
unfolding actions_section
schemas_text v s shapes domain m e =
    let fs = actions_among domain in
    let same : first_forms 64 fs ≡ fs = first_all (section_table second_in 64 nothing fs) second_in 64 fs (search faultless) in
    let few = (first_count 64 fs).0 in
    let counted : count (first_forms 64 fs) ≡ count fs = ap count same in
    let long = all_length (λ f. schema_in s (behind_head f)) fs in (
      each_all _ (IsSchemaText (signature_in s)) (λ f. schema_in s (behind_head f)) (λ f is. is) fs
          (each_forms _ _ _ (schema_text v s shapes) fs (actions_are v domain m) (rw same at (section_faultless second_in 64 nothing (λ f. action_faults s (behind_head f)) fs e))),
      omega (arith, few, counted, long),
    )

-- the version
version_is : (v : Version) (d p : Form) → IsOf v sort.Domain d → IsOf v sort.Problem p → ((problem_in (number_of v) (behind_head d) (behind_head p)).version ≡ 2) ⊎ IsFirstVersion (problem_in (number_of v) (behind_head d) (behind_head p))
unfolding problem_by
version_is First d p is_d is_p = inr (first_version d p is_d is_p)
version_is Second d p is_d is_p = inl refl

-- the declarations alone
pub valid_declarations : (v : Version) (version : ℕ) (d : Form) → IsOf v sort.Domain d → declarations_fault version (behind_head d) ≡ None → IsValidSignature (signature_in (scope_of version (behind_head d)))
unfolding declarations_fault
valid_declarations v version d is e = signature_valid v version (behind_head d) (functions_are v (behind_head d) (domain_is v d is)) (search unrefused) (search unrefused) (search unrefused)

pub valid_problem : (v : Version) (d p : Form) → IsOf v sort.Domain d → IsOf v sort.Problem p → meaning_fault (number_of v) (behind_head d) (behind_head p) ≡ None → IsValid (problem_in (number_of v) (behind_head d) (behind_head p))
unfolding problem_by scope_of meaning_fault problem_faults
valid_problem v d p is_d is_p e =
    let s = scope_of (number_of v) (behind_head d) in
    let shapes = scope_shapes (number_of v) (behind_head d) in
    let problem = behind_head p in
    let n = problem_is v p is_p in
    record {
      version = version_is v d p is_d is_p;
      signature = valid_declarations v (number_of v) d is_d (search unrefused);
      schemas = schemas_text v s shapes (behind_head d) (domain_is v d is_d) (search unrefused);
      init = all_hold _ (start_faults s) (IsStartText (signature_in s)) (start_in s) (start_text s shapes v refl) (section (codes "init") problem) (init_are v problem n) (search unrefused);
      goal = all_hold _ (aim_faults s) (λ x. IsPlainText (signature_in s) [] (versions.query_in x).asks) (aim_in s) (aim_text s shapes v) (section (codes "goal") problem) (goal_are v problem n) (search unrefused);
    }
