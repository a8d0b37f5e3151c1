-- A text of the first version reads as by that version's own rules.
use Rattle.std.proofs.Common.{◌≡◌, inl, inr, ⊎_elim, ◌++◌, ℕ, List, [], ◌∷◌, length, Option, Some, None, slice_get, codes, refl, sym, ap, ◌∙◌, subst}
use Rattle.std.proofs.lemmas.List.{append-nil}
use Rattle.std.specs.Option.{option_map_or}
use Rattle.pks_terms.specs.Sets.{Each}
use Rattle.pks_terms.specs.Worlds.{World}
use Rattle.pks_terms.specs.Printed.{Text}
use Rattle.pks_terms.specs.Problems.{Problem}
use Rattle.pks_terms.specs.Jobs.{Job}
use Rattle.pks_terms.specs.Answers.{GivenWorld, File, Reading, ReadAs, Faulty, Status, Done, NoPlan, Words, Refused, ReadFault, WriteFault, Memory, text_for}
use Rattle.pks_text.specs.Forms.{Form, Forms, no_forms, form, list_of}
use Rattle.pks_reader_shape.specs.declared.grammar.Version.{Version}
use Rattle.pks_reader_shape.specs.declared.grammar.Version.TheVariants.{First}
use Rattle.pks_reader_shape.specs.declared.grammar.Sort.TheVariants as sort
use Rattle.pks_reader_shape.specs.Grammar.{lists, is_allowed}
use Rattle.pks_reader_shape.specs.Files.{Fault, or_else, version_of, number_of}
use Rattle.pks_reader_shape.specs.Language.{IsOf}
use Rattle.pks_reader_names.specs.Tables.{declare}
use Rattle.pks_reader_names.specs.Scopes.{Scope}
use Rattle.pks_reader_names.specs.Parts.{behind_head, section, first_forms, only}
use Rattle.pks_reader_names.specs.Sentences.{problem_faults}
use Rattle.pks_reader_names.specs.Declarations as declarations
use Rattle.pks_reader_names.specs.Declarations.{Types, first_in, name_of, name_faults, type_faults, parent_named, past_names, objects_from, predicates_in, functions_in, predicates_section, functions_section, actions_section}
use Rattle.pks_reader_names.specs.Meaning as meaning
use Rattle.pks_reader_problem.specs.Stated.{Named, problem_by, named_by, problem_in, named_in}
use Rattle.pks_laws_reader.specs.Facts.{EachForm}
use Rattle.pks_laws_reader.proofs.Shapes.{of_sort}
use Rattle.pks_laws_reader.proofs.Sections.{domain_is, types_are}
use Rattle.pks_laws_reader.proofs.Tabled.{each_of_first}
use Rattle.pks_reader_world.specs.Stated as world
use Rattle.pks_reader_world.specs.Stated.{contents_fault, parts_at, place_at, world_in}
use Rattle.pks_reader.specs.Files as now
use Rattle.pks_reader.specs.Files.{IsFirstOf}
use Rattle.pks_reader.specs.Texts as texts
use Rattle.pks_reader.specs.Inputs as inputs
use Rattle.pks_reader.proofs.Parted.{of_version}
use Rattle.pks_laws_version1.specs.Files as old
use Rattle.pks_laws_version1.specs.Texts.{IsOfFirstVersion}
use Rattle.pks_laws_version1.specs.Answering as answering
use Rattle.pks_laws_version1.proofs.Grammars.{file_to_now, file_to_old}
use Rattle.pks_laws_version1.proofs.Old.{limit_same}
use Rattle.pks_laws_version1.proofs.Shaped.{same_shape, same_world_shape}

-- ---- what is declared

-- a type of the first version has nothing behind its name
abbrev IsAlone : Form → Type 0
IsAlone f = (t : Types) → (parent_named t (behind_head f) ≡ None) × (only (type_faults t) (behind_head f) ≡ [])

type_alone : (f : Form) → IsOf First sort.Kind f → IsAlone f
unfolding lists is_allowed
type_alone = of_sort First IsAlone sort.Kind (λ text at allowed t. (refl, refl)) tt tt

alone : (fs : Forms) → EachForm (IsOf First sort.Kind) fs → EachForm IsAlone fs
alone no_forms a = tt
alone (form f fs) a = (type_alone f a.0, alone fs a.1)

same_types_from : (fs : Forms) → EachForm IsAlone fs → (types : Types) → declarations.types_from types fs ≡ old.types_from types fs
same_types_from no_forms a types = refl
same_types_from (form f fs) a types =
    same_types_from fs a.1 (declare types (name_of (first_in f)) (parent_named types (behind_head f)))
    ∙ ap (λ (o : Option ℕ). old.types_from (declare types (name_of (first_in f)) o) fs) (a.0 types).0

same_type_faults : (fs : Forms) → EachForm IsAlone fs → (types : Types) → declarations.types_faults types fs ≡ old.types_faults types fs
same_type_faults no_forms a types = refl
same_type_faults (form f fs) a types =
    (λ i. (ap (λ (xs : List Fault). name_faults types (first_in f) ++ xs) (a.0 types).1 ∙ append-nil (name_faults types (first_in f))) i
    ++ (same_type_faults fs a.1 (declare types (name_of (first_in f)) (parent_named types (behind_head f))) ∙ ap (λ (o : Option ℕ). old.types_faults (declare types (name_of (first_in f)) o) fs) (a.0 types).0) i)

module _ (domain : Forms) (kinds : EachForm (IsOf First sort.Kind) (section (codes "types") domain)) where
  abbrev kept : Forms
  kept = first_forms 16 (section (codes "types") domain)

  alone_kept : EachForm IsAlone kept
  alone_kept = alone kept (each_of_first (IsOf First sort.Kind) 16 (section (codes "types") domain) kinds)

  same_types : declarations.types_in (section (codes "types") domain) ≡ old.types_in (section (codes "types") domain)
  same_types = same_types_from kept alone_kept []

  same_types_section : declarations.types_section (section (codes "types") domain) ≡ old.types_section (section (codes "types") domain)
  unfolding declarations.types_section
  same_types_section = λ i. same_type_faults kept alone_kept [] i ++ past_names (same_types i) first_in 16 (section (codes "types") domain)

  same_scope : meaning.scope_of 1 domain ≡ old.scope_of domain
  unfolding meaning.scope_of old.scope_of
  same_scope = λ i. record {
    types = same_types i;
    objects = objects_from (same_types i) 64 [] (section (codes "objects") domain);
    predicates = predicates_in (same_types i) (section (codes "predicates") domain);
    functions = functions_in (same_types i) (section (codes "functions") domain);
    parameters = [];
  }

  same_sections : (problem : Forms) → now.faults_by_section 1 domain problem ≡ old.faults_by_section domain problem
  unfolding now.faults_by_section
  same_sections problem = λ i.
      same_types_section i
      ∷ (ap (λ (s : Scope). declarations.objects_section 1 s.types (section (codes "objects") domain)) same_scope ∙ limit_same (old.scope_of domain).types (section (codes "objects") domain)) i
      ∷ predicates_section (same_scope i).types (section (codes "predicates") domain)
      ∷ functions_section (record (same_scope i) { functions = [] }) (section (codes "functions") domain)
      ∷ actions_section (same_scope i) domain
      ∷ problem_faults (same_scope i) problem
      ∷ []

-- ---- forms

kinds_of : (d : Form) → IsOf First sort.Domain d → EachForm (IsOf First sort.Kind) (section (codes "types") (behind_head d))
kinds_of d is = types_are First (behind_head d) (domain_is First d is)

module _ (fs : List Form) (first : version_of fs ≡ First) where
  file_then : (v : Version) (d p : Form) → now.IsFileOf fs v d p → old.IsFileOf fs d p
  file_then v d p file = record { file = file_to_old fs file.file first; domain = file.domain; problem = file.problem }

  file_now : (d p : Form) → old.IsFileOf fs d p → now.IsFileOf fs First d p
  file_now d p file = let both = file_to_now fs file.file in record { file = both.0; version = both.1; domain = file.domain; problem = file.problem }

  kinds_in : (d p : Form) → now.IsFileOf fs First d p → EachForm (IsOf First sort.Kind) (section (codes "types") (behind_head d))
  kinds_in d p file = kinds_of d (of_version fs First d p file).0

  is_first : (v : Version) (d p : Form) → now.IsFileOf fs v d p → v ≡ First
  is_first v d p file = sym file.version ∙ first

  at_first : (v : Version) (d p : Form) → now.IsFileOf fs v d p → now.IsFileOf fs First d p
  at_first v d p file = subst (λ (w : Version). now.IsFileOf fs w d p) (is_first v d p file) file

  sections_then : (v : Version) (d p : Form) → now.IsFileOf fs v d p → now.faults_by_section (number_of v) (behind_head d) (behind_head p) ≡ old.faults_by_section (behind_head d) (behind_head p)
  sections_then v d p file =
      ap (λ (w : Version). now.faults_by_section (number_of w) (behind_head d) (behind_head p)) (is_first v d p file)
      ∙ same_sections (behind_head d) (kinds_in d p (at_first v d p file)) (behind_head p)

  scope_then : (v : Version) (d p : Form) → now.IsFileOf fs v d p → meaning.scope_of (number_of v) (behind_head d) ≡ old.scope_of (behind_head d)
  scope_then v d p file =
      ap (λ (w : Version). meaning.scope_of (number_of w) (behind_head d)) (is_first v d p file) ∙ same_scope (behind_head d) (kinds_in d p (at_first v d p file))

  refused_then : (end : ℕ) (fault : Fault) → now.AreRefused end fs fault → old.AreRefused end fs fault
  refused_then end fault (now.by_shape e) = old.by_shape (sym (same_shape end fs first) ∙ e)
  refused_then end fault (now.by_meaning v d p file is) = old.by_meaning d p (file_then v d p file) (subst (IsFirstOf fault) (sections_then v d p file) is)

  refused_now : (end : ℕ) (fault : Fault) → old.AreRefused end fs fault → now.AreRefused end fs fault
  refused_now end fault (old.by_shape e) = now.by_shape (same_shape end fs first ∙ e)
  refused_now end fault (old.by_meaning d p file is) = now.by_meaning First d p (file_now d p file) (subst (IsFirstOf fault) (sym (sections_then First d p (file_now d p file))) is)

  same_problem : (v : Version) (d p : Form) → now.IsFileOf fs v d p → problem_in (number_of v) (behind_head d) (behind_head p) ≡ problem_by 1 (old.scope_of (behind_head d)) (behind_head d) (behind_head p)
  same_problem v d p file =
      ap (λ (w : Version). problem_by (number_of w) (meaning.scope_of (number_of v) (behind_head d)) (behind_head d) (behind_head p)) (is_first v d p file)
      ∙ ap (λ (s : Scope). problem_by 1 s (behind_head d) (behind_head p)) (scope_then v d p file)

  same_named : (v : Version) (d p : Form) → now.IsFileOf fs v d p → named_in (number_of v) (behind_head d) p ≡ named_by (old.scope_of (behind_head d)) (behind_head d) p
  same_named v d p file = ap (λ (s : Scope). named_by s (behind_head d) p) (scope_then v d p file)

  state_then : (p : Problem) (n : Named) → now.FormsState fs p n → old.FormsState fs p n
  state_then p n s = record {
    domain = s.domain;
    problem = s.problem;
    file = file_then s.version s.domain s.problem s.file;
    faultless = subst (Each (λ (faults : List Fault). faults ≡ [])) (sections_then s.version s.domain s.problem s.file) s.faultless;
    says = s.says ∙ same_problem s.version s.domain s.problem s.file;
    named = s.named ∙ same_named s.version s.domain s.problem s.file;
  }

  state_now : (p : Problem) (n : Named) → old.FormsState fs p n → now.FormsState fs p n
  state_now p n s =
      let file = file_now s.domain s.problem s.file in
      record {
        version = First;
        domain = s.domain;
        problem = s.problem;
        file = file;
        faultless = subst (Each (λ (faults : List Fault). faults ≡ [])) (sym (sections_then First s.domain s.problem file)) s.faultless;
        says = s.says ∙ sym (same_problem First s.domain s.problem file);
        named = s.named ∙ sym (same_named First s.domain s.problem file);
      }

  -- ---- the world

  module _ (d p : Form) (file : now.IsFileOf fs First d p) where
    same_declared : world.declared_by fs ≡ old.declared_by fs
    unfolding world.declared_by
    same_declared =
        ap (λ (w : Version). meaning.scope_of (number_of w) (parts_at fs 1)) first
        ∙ same_scope (parts_at fs 1) (subst (λ (g : Forms). EachForm (IsOf First sort.Kind) (section (codes "types") g)) (sym (ap (λ (o : Option Form). option_map_or behind_head o no_forms) file.domain)) (kinds_in d p file))

    same_world : world.world_by fs ≡ old.world_by fs
    unfolding world.world_by
    same_world = ap (λ (s : Scope). world_in s (parts_at fs 3)) same_declared

    same_world_fault : world.world_fault fs ≡ old.world_fault fs
    unfolding world.world_fault
    same_world_fault = λ i. elim (slice_get fs 3) [ None ↦ Some (place_at fs 2, 310) | Some w ↦ or_else (same_world_shape fs first i) (contents_fault (same_declared i) w) ]

    same_stated : (text : Text) (o : Option Form) (fault : Option Fault) → inputs.world_stated text fs o fault ≡ old.world_stated text fs o fault
    same_stated text None fault = refl
    same_stated text (Some w) (Some fault) = refl
    same_stated text (Some w) None = ap (λ (w : World). GivenWorld w) same_world

    same_file : (text : Text) (q : Problem) (n : Named) → inputs.file_in text fs q n ≡ old.file_in text fs q n
    same_file text q n =
        let worlds = ap (inputs.world_stated text fs (slice_get fs 3)) same_world_fault ∙ same_stated text (slice_get fs 3) (old.world_fault fs) in
        λ i. record (inputs.file_in text fs q n) { world = worlds i }

-- ---- texts

module _ (text : Text) (first : IsOfFirstVersion text) where
  faulty_then : (fault : Fault) → inputs.IsFaulty text fault → old.IsFaulty text fault
  faulty_then _ (inputs.too_long long) = old.too_long long
  faulty_then _ (inputs.too_high short at high) = old.too_high short at high
  faulty_then _ (inputs.refused short low fault is) = old.refused short low fault (by_cause is)
    where
      by_cause : texts.IsRefused text fault → old.IsRefused text fault
      by_cause (texts.by_text found is coded) = old.by_text found is coded
      by_cause (texts.by_forms fs spelled are) = old.by_forms fs spelled (refused_then (list_of fs) (first fs spelled) (length text) fault are)

  faulty_now : (fault : Fault) → old.IsFaulty text fault → inputs.IsFaulty text fault
  faulty_now _ (old.too_long long) = inputs.too_long long
  faulty_now _ (old.too_high short at high) = inputs.too_high short at high
  faulty_now _ (old.refused short low fault is) = inputs.refused short low fault (by_cause is)
    where
      by_cause : old.IsRefused text fault → texts.IsRefused text fault
      by_cause (old.by_text found is coded) = texts.by_text found is coded
      by_cause (old.by_forms fs spelled are) = texts.by_forms fs spelled (refused_now (list_of fs) (first fs spelled) (length text) fault are)

  read_then : (f : File) → inputs.IsRead text f → old.IsRead text f
  read_then f r =
      let v = first r.forms r.spelled in
      let s = r.states in
      record {
        short = r.short;
        low = r.low;
        forms = r.forms;
        spelled = r.spelled;
        problem = r.problem;
        named = r.named;
        states = state_then (list_of r.forms) v r.problem r.named s;
        gives = r.gives ∙ same_file (list_of r.forms) v s.domain s.problem (at_first (list_of r.forms) v s.version s.domain s.problem s.file) text r.problem r.named;
      }

  read_now : (f : File) → old.IsRead text f → inputs.IsRead text f
  read_now f r =
      let v = first r.forms r.spelled in
      let s = r.states in
      record {
        short = r.short;
        low = r.low;
        forms = r.forms;
        spelled = r.spelled;
        problem = r.problem;
        named = r.named;
        states = state_now (list_of r.forms) v r.problem r.named s;
        gives = r.gives ∙ sym (same_file (list_of r.forms) v s.domain s.problem (file_now (list_of r.forms) v s.domain s.problem s.file) text r.problem r.named);
      }

  pub reads_then : (x : Reading) → inputs.Reads text x → old.Reads text x
  reads_then (ReadAs f) r = read_then f r
  reads_then (Faulty at code) r = (r.0, faulty_then (r.0, code) r.1, r.2)

  pub reads_now : (x : Reading) → old.Reads text x → inputs.Reads text x
  reads_now (ReadAs f) r = read_now f r
  reads_now (Faulty at code) r = (r.0, faulty_now (r.0, code) r.1, r.2)

-- ---- answers

-- what is answered hangs on how the text reads alone
module _ (Old New : Text → Reading → Type 0) (j : Job) (input : Text) (reads : (x : Reading) → Old (text_for j input) x → New (text_for j input) x) where
  accepted_as : (P : File → Type 0) → answering.AcceptedAs Old j input P → answering.AcceptedAs New j input P
  accepted_as P a = (a.0, record { reads = reads (ReadAs a.0) a.1.reads; fine = a.1.fine }, a.2)

  pub answers_as : (status : Status) (text : Text) → answering.AnswersJob Old j input status text → answering.AnswersJob New j input status text
  answers_as Refused text a = ⊎_elim (λ r. inl (r.0, (r.1.0, reads r.1.0 r.1.1, r.1.2), r.2)) (λ talk. inr (accepted_as (λ f. answering.IsTalkRefused j input f text) talk)) a
  answers_as NoPlan text a = accepted_as (λ f. answering.IsUnplanned j f text) a
  answers_as Done text a = accepted_as (λ f. answering.IsDone j input f text) a
  answers_as Words text a = absurd a
  answers_as ReadFault text a = absurd a
  answers_as WriteFault text a = absurd a
  answers_as Memory text a = absurd a
