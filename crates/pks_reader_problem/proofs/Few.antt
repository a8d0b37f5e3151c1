-- Tables are short, so that the names of a scope are few.
use Rattle.std.proofs.Common.{◌≤◌, ◌+◌, ◌-◌, ◌==◌, ℕ, zero, suc, true, false, cond, [], length, codes, arith}
use Rattle.pks_text.specs.Forms.{Form, Forms, no_forms, form}
use Rattle.pks_reader_shape.specs.Walk.{count}
use Rattle.pks_reader_names.specs.Tables.{Table, declare}
use Rattle.pks_reader_names.specs.Scopes.{Scope}
use Rattle.pks_reader_names.specs.Parts.{behind_head, first_forms, section}
use Rattle.pks_reader_names.specs.Declarations.{name_of, first_in, table_from, section_table, Types, type_named, parent_named, types_from, types_in, objects_from, most_objects, predicate_in, function_in, parameter_in, within}
use Rattle.pks_reader_names.specs.Meaning.{scope_of}
use Rattle.pks_reader_declared.proofs.Steps.{declare_length}
use Rattle.pks_reader_problem.specs.Sizes.{IsSmall}

pub first_count : (n : ℕ) (fs : Forms) → (count (first_forms n fs) ≤ n) × (count (first_forms n fs) ≤ count fs)
first_count zero fs = (omega arith, omega arith)
first_count (suc n) no_forms = (omega arith, omega arith)
first_count (suc n) (form f fs) = let r = first_count n fs in let a = r.0 in let b = r.1 in (omega (arith, a), omega (arith, b))

module _ {X : Type 0} where
  tabled_length : (named : Form → Form) (said : Form → X) (t : Table X) (fs : Forms) → length (table_from named said t fs) ≤ length t + count fs
  tabled_length named said t no_forms = omega arith
  tabled_length named said t (form f fs) =
      let a = tabled_length named said (declare t (name_of (named f)) (said f)) fs in
      let b = declare_length t (name_of (named f)) (said f) in
      omega (arith, a, b)

  pub section_length : (named : Form → Form) (n : ℕ) (said : Form → X) (fs : Forms) → length (section_table named n said fs) ≤ n
  section_length named n said fs = let a = tabled_length named said [] (first_forms n fs) in let b = (first_count n fs).0 in omega (arith, a, b)

types_count : (t : Types) (fs : Forms) → length (types_from t fs) ≤ length t + count fs
types_count t no_forms = omega arith
types_count t (form f fs) =
    let a = types_count (declare t (name_of (first_in f)) (parent_named t (behind_head f))) fs in
    let b = declare_length t (name_of (first_in f)) (parent_named t (behind_head f)) in
    omega (arith, a, b)

pub objects_length : (types : Types) (n : ℕ) (t : Table ℕ) (fs : Forms) → length (objects_from types n t fs) ≤ length t + n
objects_length types n t no_forms = omega arith
objects_length types n t (form f fs) =
    let table = table_from first_in (λ g. type_named types (first_in f)) t (first_forms n (behind_head f)) in
    let a = objects_length types (n - count (behind_head f)) table fs in
    let b = tabled_length first_in (λ g. type_named types (first_in f)) t (first_forms n (behind_head f)) in
    let c = first_count n (behind_head f) in
    let d = c.0 in
    let e = c.1 in
    omega (arith, a, b, d, e)

few_objects : (version : ℕ) → most_objects version ≤ 256
few_objects version = elim (version == 1) as (λ b. cond b 64 256 ≤ 256) [ true ↦ omega arith | false ↦ omega arith ]

-- what a domain declares
pub scope_small : (version : ℕ) (domain : Forms) → IsSmall (scope_of version domain)
unfolding scope_of
scope_small version domain =
    let types = types_in (section (codes "types") domain) in record {
      types = let a = types_count [] (first_forms 16 (section (codes "types") domain)) in let b = (first_count 16 (section (codes "types") domain)).0 in omega (arith, a, b);
      objects = let a = objects_length types (most_objects version) [] (section (codes "objects") domain) in let b = few_objects version in omega (arith, a, b);
      predicates = section_length first_in 32 (predicate_in types) (section (codes "predicates") domain);
      functions = section_length first_in 32 (function_in types) (section (codes "functions") domain);
      parameters = omega arith;
    }

-- and within an action
pub small_within : (s : Scope) (fs : Forms) → IsSmall s → IsSmall (within s fs)
unfolding within
small_within s fs small = record { types = small.types; objects = small.objects; predicates = small.predicates; functions = small.functions; parameters = section_length first_in 4 (parameter_in s.types) (section (codes "params") fs) }
