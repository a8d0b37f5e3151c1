-- The first fault of meaning of a file.
use Rattle.std.specs.Prelude.{ℕ, [], Option, codes}
use Rattle.pks_text.specs.Forms.{Forms}
use Rattle.pks_reader_shape.specs.Files.{Fault, or_else}
use Rattle.pks_reader_names.specs.Parts.{section}
use Rattle.pks_reader_names.specs.Sentences.{problem_faults}
use Rattle.pks_reader_names.specs.Declarations.{types_section, objects_section, predicates_section, functions_section, actions_section}
use Rattle.pks_reader_names.specs.Meaning.{least, scope_of}

-- The first fault of the declarations. Sections come one behind the other, so the first section that has a fault has the first one. Where functions are declared, none is declared before.
unfoldable pub declarations_fault : ℕ → Forms → Option Fault
declarations_fault version domain =
    let s = scope_of version domain in
    or_else (least (types_section (section (codes "types") domain)))
    (or_else (least (objects_section version s.types (section (codes "objects") domain)))
    (or_else (least (predicates_section s.types (section (codes "predicates") domain)))
    (least (functions_section (record s { functions = [] }) (section (codes "functions") domain)))))

-- the first fault of meaning, by the parts of the domain and of the problem behind their heads
unfoldable pub meaning_fault : ℕ → Forms → Forms → Option Fault
meaning_fault version domain problem =
    let s = scope_of version domain in
    or_else (declarations_fault version domain) (or_else (least (actions_section s domain)) (least (problem_faults s problem)))
