-- What forms state that are a file, and when they are refused.
use Rattle.std.specs.Prelude.{◌≡◌, ◌⊎◌, ℕ, List, [], ◌∷◌, Some, slice_get, codes}
use Rattle.pks_terms.specs.Sets.{Each}
use Rattle.pks_terms.specs.Problems.{Problem}
use Rattle.pks_text.specs.Forms.{Form, Forms}
use Rattle.pks_reader_shape.specs.declared.grammar.Version.{Version}
use Rattle.pks_reader_shape.specs.Files.{Fault, version_of, number_of, shape_fault}
use Rattle.pks_reader_shape.specs.Language.{IsFile}
use Rattle.pks_reader_names.specs.Parts.{behind_head, section}
use Rattle.pks_reader_names.specs.Sentences.{problem_faults}
use Rattle.pks_reader_names.specs.Declarations.{types_section, objects_section, predicates_section, functions_section, actions_section}
use Rattle.pks_reader_names.specs.Meaning.{scope_of}
use Rattle.pks_reader_names.specs.Leasts.{IsLeast}
use Rattle.pks_reader_problem.specs.Stated.{Named, problem_in, named_in}

-- the forms are a file of the grammar, of this version, with this domain and this problem
pub record IsFileOf (fs : List Form) (v : Version) (d p : Form) : Type 0 where
  pub file : IsFile fs
  pub version : version_of fs ≡ v
  pub domain : slice_get fs 1 ≡ Some d
  pub problem : slice_get fs 2 ≡ Some p

-- ---- the faults of meaning

-- All faults of meaning, section by section as they stand in the text, by the parts of the domain and of the problem behind their heads. Where functions are declared, none is declared before.
unfoldable pub faults_by_section : ℕ → Forms → Forms → List (List Fault)
faults_by_section version domain problem =
    let s = scope_of version domain in
    types_section (section (codes "types") domain)
    ∷ objects_section version s.types (section (codes "objects") domain)
    ∷ predicates_section s.types (section (codes "predicates") domain)
    ∷ functions_section (record s { functions = [] }) (section (codes "functions") domain)
    ∷ actions_section s domain
    ∷ problem_faults s problem
    ∷ []

-- the fault is the least, by place and then by code, of the first section that has faults
abbrev pub IsFirstOf : Fault → List (List Fault) → Type 0
IsFirstOf fault [] = ⊥
IsFirstOf fault (faults ∷ later) = IsLeast fault faults ⊎ ((faults ≡ []) × IsFirstOf fault later)

-- ---- what is refused, and what is stated

-- the forms of a text of so many bytes are refused with this fault, which is one of shape, or, where they are a file, the first of meaning
pub data AreRefused (end : ℕ) (fs : List Form) (fault : Fault) : Type 0 where
  by_shape : shape_fault end fs ≡ Some fault → AreRefused end fs fault
  by_meaning : (v : Version) (d p : Form) → IsFileOf fs v d p → IsFirstOf fault (faults_by_section (number_of v) (behind_head d) (behind_head p)) → AreRefused end fs fault

-- the forms are a file without faults, and state the problem with these names and places
pub record FormsState (fs : List Form) (p : Problem) (n : Named) : Type 0 where
  pub version : Version
  pub domain : Form
  pub problem : Form
  pub file : IsFileOf fs version domain problem
  pub faultless : Each (λ faults. faults ≡ []) (faults_by_section (number_of version) (behind_head domain) (behind_head problem))
  pub says : p ≡ problem_in (number_of version) (behind_head domain) (behind_head problem)
  pub named : n ≡ named_in (number_of version) (behind_head domain) problem
