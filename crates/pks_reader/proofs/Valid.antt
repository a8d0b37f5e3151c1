-- The problem that a file without a fault states is valid.
use Rattle.std.proofs.Common.{◌≡◌, ◌∙◌, ◌≤◌, ◌<◌, ◌^◌, ℕ, Bor, List, [], ◌∷◌, None, length, map, refl, sym, subst}
use Rattle.std.proofs.lemmas.List.{length-map}
use Rattle.pks_terms.specs.Sets.{Each}
use Rattle.pks_terms.specs.Signatures.{Shape}
use Rattle.pks_terms.specs.Counts.{SignatureCounts, ProblemCounts}
use Rattle.pks_terms.specs.Problems.{Problem}
use Rattle.pks_terms.specs.Valid.{IsValid}
use Rattle.pks_terms.specs.ValidProblems.{AssignsToPlace, AreNames, IsValidProblem}
use Rattle.pks_terms.specs.Views.{shape_of, schema_of, problem_of}
use Rattle.pks_terms.specs.declared.problem.Shape.{Shape as CodeShape}
use Rattle.pks_terms.specs.declared.schema.Schema.{Schema as CodeSchema}
use Rattle.pks_terms.specs.declared.problem.Problem.{Problem as CodeProblem}
use Rattle.pks_text.specs.Forms.{Form}
use Rattle.pks_reader_shape.specs.declared.grammar.Version.{Version}
use Rattle.pks_reader_shape.specs.declared.grammar.Sort.TheVariants as sort
use Rattle.pks_reader_shape.specs.Files.{number_of}
use Rattle.pks_reader_shape.specs.Language.{IsOf}
use Rattle.pks_reader_names.specs.Parts.{behind_head}
use Rattle.pks_reader_declared.specs.FirstFault.{meaning_fault}
use Rattle.pks_reader_problem.specs.Sizes.{IsCounted, AreCounted}
use Rattle.pks_reader_problem.specs.Spans.{named_of}
use Rattle.pks_reader_problem.specs.Stated.{Named, problem_in, named_in}
use Rattle.pks_laws_reader.specs.Facts.{AreNamed}
use Rattle.pks_laws_reader.proofs.Whole.{valid_problem}
use Rattle.pks_laws_reader.proofs.Naming.{problem_named}

few_counted : (P : Shape → Type 0) (n : ℕ) → ((x : Shape) → P x → length x.arguments ≤ n) → (xs : List CodeShape) → Each IsCounted xs → Each P (map shape_of xs) → Each (λ x. x.n ≤ n) xs
few_counted P n few [] counted are = tt
few_counted P n few (x ∷ xs) counted are = (subst (λ (k : ℕ). k ≤ n) (sym counted.0) (few (shape_of x) are.0), few_counted P n few xs counted.1 are.1)

signature_counts : (q : CodeProblem) → IsValid (problem_of q) → AreCounted q.signature → SignatureCounts q.signature
signature_counts q valid counted =
    let predicates = valid.signature.predicates in
    let functions = valid.signature.functions in
    record {
      predicates = few_counted (λ x. Each (λ a. a < q.signature.types) x.arguments × (length x.arguments ≤ 3)) 3 (λ x is. is.1) q.signature.predicates counted.predicates predicates.0;
      functions = few_counted (λ x. Each (λ a. a < q.signature.types) x.arguments × (length x.arguments ≤ 2) × (x.result < q.signature.types)) 2 (λ x is. is.1) q.signature.functions counted.functions functions.0;
    }

-- as many names as were lent
lent_names : (xs : List (List (Bor (List ℕ)))) → map (λ names. length names) (map (λ names. map (λ t. t.now) names) xs) ≡ map (λ names. length names) xs
lent_names [] = refl
lent_names (x ∷ xs) = λ i. length-map x (λ t. t.now) i ∷ lent_names xs i

-- as many types as parameters
seen_parameters : (xs : List CodeSchema) → map (λ x. length x.parameters) (map schema_of xs) ≡ map (λ x. length x.params) xs
seen_parameters [] = refl
seen_parameters (x ∷ xs) = λ i. length-map x.params (λ t. t.0) i ∷ seen_parameters xs i

named_problem : (v : Version) (d p : Form) (q : CodeProblem) → IsOf v sort.Domain d → meaning_fault (number_of v) (behind_head d) (behind_head p) ≡ None
    → problem_of q ≡ problem_in (number_of v) (behind_head d) (behind_head p) → named_of q ≡ named_in (number_of v) (behind_head d) p → AreNamed (problem_of q) (named_of q)
named_problem v d p q domain faultless says named =
    subst (λ (n : Named). AreNamed (problem_of q) n) (sym named) (subst (λ (x : Problem). AreNamed x (named_in (number_of v) (behind_head d) p)) (sym says) (problem_named v d p domain faultless))

pub valid : (v : Version) (d p : Form) (q : CodeProblem) → IsOf v sort.Domain d → IsOf v sort.Problem p → meaning_fault (number_of v) (behind_head d) (behind_head p) ≡ None
    → problem_of q ≡ problem_in (number_of v) (behind_head d) (behind_head p) → named_of q ≡ named_in (number_of v) (behind_head d) p
    → AreCounted q.signature → (SignatureCounts q.signature → ProblemCounts q) → Each (λ x. Each (λ e. AssignsToPlace e.target) x.effects) q.schemas
    → (length q.init < 2 ^ 32) × Each (λ x. length x.adds < 2 ^ 32) q.schemas → IsValidProblem q
valid v d p q domain problem faultless says named counted counts places numbered =
    let is_valid : IsValid (problem_of q) = subst IsValid (sym says) (valid_problem v d p domain problem faultless) in
    let names = named_problem v d p q domain faultless says named in
    record {
      says = is_valid;
      counts = counts (signature_counts q is_valid counted);
      places = places;
      numbered = numbered;
      types = names.types;
      objects = subst (λ (n : ℕ). AreNames n (map (λ t. t.now) q.names.objects)) (length-map q.signature.objects (λ t. t.0)) names.objects;
      predicates = subst (λ (n : ℕ). AreNames n (map (λ t. t.now) q.names.predicates)) (length-map q.signature.predicates shape_of) names.predicates;
      none_is_not = names.none_is_not;
      functions = subst (λ (n : ℕ). AreNames n (map (λ t. t.now) q.names.functions)) (length-map q.signature.functions shape_of) names.functions;
      actions = subst (λ (n : ℕ). AreNames n (map (λ x. x.name.now) q.schemas)) (length-map q.schemas schema_of) names.actions;
      parameters = sym (lent_names q.names.params) ∙ names.parameters ∙ seen_parameters q.schemas;
    }
