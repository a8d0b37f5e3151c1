-- Codes, limits and problems of files of the first version.
use Rattle.std.proofs.Common.{◌≡◌, ◌||◌, ◌==◌, ◌≤◌, ℕ, Bool, true, false, cond, List, [], ◌∷◌, length, Option, Some, None, refl, sym, ap, ◌∙◌, subst, ⊎_elim, true≢false, codes, arith}
use Rattle.std.proofs.lemmas.Bool.{eqb-true, or_cases}
use Rattle.pks_terms.specs.Problems.{Problem}
use Rattle.pks_terms.specs.Valid.{IsValid}
use Rattle.pks_terms.specs.Versions.{IsFirstVersion}
use Rattle.pks_terms.proofs.Types.{fits_alone, fits_itself, both_ways}
use Rattle.pks_text.specs.Forms.{Form, Forms, place_of}
use Rattle.pks_reader_shape.specs.declared.grammar.Version.{Version}
use Rattle.pks_reader_shape.specs.declared.grammar.Version.TheVariants.{First, Second}
use Rattle.pks_reader_shape.specs.Files.{version_of, number_of}
use Rattle.pks_reader_names.specs.Tables as tables
use Rattle.pks_reader_names.specs.Tables.{Table, entries_of}
use Rattle.pks_reader_names.specs.Scopes.{Scope, signature_in, fits, type_of}
use Rattle.pks_reader_names.specs.Parts.{text_of, behind_head, section}
use Rattle.pks_reader_names.specs.Terms as terms
use Rattle.pks_reader_names.specs.Declarations as declarations
use Rattle.pks_reader_names.specs.Declarations.{Types, objects_from, most_objects}
use Rattle.pks_reader_names.specs.Meaning.{scope_of}
use Rattle.pks_reader_problem.specs.Stated.{Named, problem_in, problem_by}
use Rattle.pks_reader_world.specs.Facts as facts
use Rattle.pks_laws_reader.proofs.Whole.{first_version, valid_problem}
use Rattle.pks_reader_problem.proofs.Few.{objects_length}
use Rattle.pks_laws_reader.proofs.Tabled.{entries_length}
use Rattle.pks_reader.specs.Files.{IsFileOf, faults_by_section, FormsState}
use Rattle.pks_reader.proofs.Firsts.{faultless, meaning_first}
use Rattle.pks_reader.proofs.Parted.{of_version}
use Rattle.pks_laws_version1.specs.Codes as old
use Rattle.pks_laws_version1.specs.Codes.{HasNoParents}

-- ---- types

pub fits_same : (s : Scope) → HasNoParents s → (own wanted : ℕ) → fits s own wanted ≡ (own == wanted)
fits_same s none own wanted = fits_alone (signature_in s) none own wanted

either_same : (s : Scope) → HasNoParents s → (a b : ℕ) → ((a == b) || (b == a)) ≡ (a == b)
either_same s none a b = both_ways ((a == b) || (b == a)) (a == b) (λ h. ⊎_elim (λ e. e) (λ e. turned (eqb-true b a e)) (or_cases (a == b) (b == a) h)) (λ h. ap (λ c. c || (b == a)) h)
  where
    turned : b ≡ a → (a == b) ≡ true
    turned e = subst (λ c. (a == c) ≡ true) (sym e) (sym (fits_same s none a a) ∙ fits_itself (signature_in s) a)

pub mistyped_same : (s : Scope) → HasNoParents s → (wanted : Option ℕ) (t : Form) → terms.mistyped s wanted t ≡ old.mistyped s wanted t
mistyped_same s none None t = refl
mistyped_same s none (Some wanted) t = λ i. elim (type_of s t) [ None ↦ [] | Some own ↦ cond (fits_same s none own wanted i) [] ((place_of t, 206) ∷ []) ]

pub apart_same : (s : Scope) → HasNoParents s → (left right : Option ℕ) (at : ℕ) → terms.apart s left right at ≡ old.apart left right at
apart_same s none None right at = refl
apart_same s none (Some a) None at = refl
apart_same s none (Some a) (Some b) at =
    (λ i. cond (fits_same s none a b i || fits_same s none b a i) [] ((at, 206) ∷ [])) ∙ ap (λ c. cond c [] ((at, 206) ∷ [])) (either_same s none a b)

object_same : (s : Scope) → HasNoParents s → (owns : List ℕ) (wanted : ℕ) → declarations.has_object s owns wanted ≡ old.has_object owns wanted
object_same s none [] wanted = refl
object_same s none (own ∷ owns) wanted = λ i. fits_same s none own wanted i || object_same s none owns wanted i

pub empty_same : (s : Scope) → HasNoParents s → (result : Option Form) → declarations.empty_faults s result ≡ old.empty_faults s result
empty_same s none None = refl
empty_same s none (Some f) = λ i. elim (tables.number_of s.types (text_of f)) [ None ↦ [] | Some wanted ↦ cond (object_same s none (entries_of s.objects) wanted i) [] ((place_of f, 209) ∷ []) ]

pub misfit_same : (s : Scope) → HasNoParents s → (wanted : Option ℕ) (own at : ℕ) → facts.misfit s wanted own at ≡ old.misfit wanted own at
misfit_same s none None own at = refl
misfit_same s none (Some wanted) own at = λ i. cond (fits_same s none own wanted i) [] ((at, 302) ∷ [])

pub limit_same : (types : Types) (fs : Forms) → declarations.objects_section 1 types fs ≡ old.objects_section types fs
unfolding declarations.objects_section
limit_same types fs = refl

-- ---- files

pub no_parents : (fs : List Form) (d p : Form) → IsFileOf fs First d p → HasNoParents (scope_of 1 (behind_head d))
unfolding problem_by scope_of
no_parents fs d p file = let is = of_version fs First d p file in (first_version d p is.0 is.1).parents

pub first_states : (fs : List Form) (p : Problem) (n : Named) → FormsState fs p n → version_of fs ≡ First → IsValid p × IsFirstVersion p
first_states fs p n s v =
    let same : s.version ≡ First = sym s.file.version ∙ v in
    let is = of_version fs s.version s.domain s.problem s.file in
    let valid = valid_problem s.version s.domain s.problem is.0 is.1
    (meaning_first (number_of s.version) (behind_head s.domain) (behind_head s.problem) ∙ faultless (faults_by_section (number_of s.version) (behind_head s.domain) (behind_head s.problem)) s.faultless) in (
      subst IsValid (sym s.says) valid,
      subst IsFirstVersion (sym s.says) (by_version s.version same is.0 is.1),
    )
  where
    by_version : (w : Version) → w ≡ First → Rattle.pks_reader_shape.specs.Language.IsOf w Rattle.pks_reader_shape.specs.declared.grammar.Sort.TheVariants.Domain s.domain
        → Rattle.pks_reader_shape.specs.Language.IsOf w Rattle.pks_reader_shape.specs.declared.grammar.Sort.TheVariants.Problem s.problem → IsFirstVersion (problem_in (number_of w) (behind_head s.domain) (behind_head s.problem))
    by_version First e is_d is_p = first_version s.domain s.problem is_d is_p
    by_version Second e is_d is_p = absurd (true≢false (ap is_second e))
      where
        is_second : Version → Bool
        is_second First = false
        is_second Second = true

pub few_objects : (fs : List Form) (p : Problem) (n : Named) → FormsState fs p n → version_of fs ≡ First → length p.signature.objects ≤ 64
unfolding problem_by scope_of
few_objects fs p n s v =
    let types = declarations.types_in (section (codes "types") (behind_head s.domain)) in
    let fs = section (codes "objects") (behind_head s.domain) in
    let short = objects_length types 64 [] fs in
    let entries = entries_length (objects_from types 64 [] fs) in
    let all : length p.signature.objects ≡ length (entries_of (objects_from types (most_objects (number_of s.version)) [] fs)) = ap (λ (q : Problem). length q.signature.objects) s.says in
    let few : length p.signature.objects ≡ length (entries_of (objects_from types 64 [] fs)) = all ∙ ap (λ (w : Version). length (entries_of (objects_from types (most_objects (number_of w)) [] fs))) (sym s.file.version ∙ v) in
    omega (arith, short, entries, few)
