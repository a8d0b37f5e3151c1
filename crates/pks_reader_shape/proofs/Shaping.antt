-- The tests of a file's shape find no fault exactly where the file is of the grammar.
use Rattle.std.proofs.Common.{◌≡◌, ℕ, Bool, true, false, cond, List, [], ◌∷◌, Option, Some, None, option_map, slice_get, refl, sym, ap, ◌∙◌, subst, codes}
use Rattle.std.proofs.lemmas.Bool.{false≢true}
use Rattle.pks_text.specs.Forms.{Form, place_of}
use Rattle.pks_reader_shape.specs.declared.grammar.Version.{Version}
use Rattle.pks_reader_shape.specs.declared.grammar.Version.TheVariants.{First}
use Rattle.pks_reader_shape.specs.declared.grammar.Sort.TheVariants.{Domain, Problem}
use Rattle.pks_reader_shape.specs.Grammar.{lists, head_of_section}
use Rattle.pks_reader_shape.specs.Walk.{is_headed, fault_in}
use Rattle.pks_reader_shape.specs.Language.{IsOf, MayBeWorld, IsFile}
use Rattle.pks_reader_shape.specs.Files.{Fault, or_else, stated, is_version, version_of, top_fault, rest_fault, walk_fault, shape_fault}
use Rattle.pks_reader_shape.proofs.Heads.{some_none}
use Rattle.pks_reader_shape.proofs.Walking.{passes, walked_form}
use Rattle.pks_reader_shape.proofs.Deciding.{section_headed, faultless_form}

none_both : {a b : Option Fault} → or_else a b ≡ None → (a ≡ None) × (b ≡ None)
none_both {a = None} e = (refl, e)
none_both {a = Some fault} e = absurd (some_none e)

both_none : {a b : Option Fault} → a ≡ None → b ≡ None → or_else a b ≡ None
both_none {b = b} none later = ap (λ (o : Option Fault). or_else o b) none ∙ later

-- ---- one test

-- a place with a code
abbrev with_code : ℕ → ℕ → Fault
with_code code at = (at, code)

unmapped : (code : ℕ) (o : Option ℕ) → option_map (with_code code) o ≡ None → o ≡ None
unmapped code None e = refl
unmapped code (Some at) e = absurd (some_none e)

is_stated : (f : Form) → is_version f ≡ true → (v : Version) × (stated f ≡ Some v)
is_stated f e = by_version (stated f) e
  where
    by_version : (o : Option Version) → elim o [ None ↦ false | Some v ↦ true ] ≡ true → (v : Version) × (o ≡ Some v)
    by_version None e = absurd (false≢true e)
    by_version (Some v) e = (v, refl)

version_is : (f : Form) (v : Version) (fs : List Form) → stated f ≡ Some v → version_of (f ∷ fs) ≡ v
version_is f v fs e = ap (λ (o : Option Version). elim o [ None ↦ First | Some v ↦ v ]) e

version_states : (f : Form) (v : Version) → stated f ≡ Some v → is_version f ≡ true
version_states f v e = ap (λ (o : Option Version). elim o [ None ↦ false | Some v ↦ true ]) e

domain_headed : (v : Version) (f : Form) → IsOf v Domain f → is_headed (codes "domain") f ≡ true
unfolding lists head_of_section
domain_headed v f is = section_headed v Domain f refl is

problem_headed : (v : Version) (f : Form) → IsOf v Problem f → is_headed (codes "problem") f ≡ true
unfolding lists head_of_section
problem_headed v f is = section_headed v Problem f refl is

rest_is : (rest : List Form) → rest_fault (slice_get rest 0) (slice_get rest 1) ≡ None → MayBeWorld rest
rest_is [] e = tt
rest_is (w ∷ []) e = passes (is_headed (codes "world") w) (with_code 123 (place_of w)) e
rest_is (w ∷ f ∷ fs) e = by_head (is_headed (codes "world") w) e
  where
    by_head : (b : Bool) → cond b (Some (with_code 123 (place_of f))) (Some (with_code 123 (place_of w))) ≡ None → ⊥
    by_head true e = some_none e
    by_head false e = some_none e

is_rest : (rest : List Form) → MayBeWorld rest → rest_fault (slice_get rest 0) (slice_get rest 1) ≡ None
is_rest [] may = refl
is_rest (w ∷ []) may = ap (λ (b : Bool). cond b None (Some (with_code 123 (place_of w)))) may
is_rest (w ∷ f ∷ fs) may = absurd may

-- ---- all tests

record PassesAll (end : ℕ) (fs : List Form) : Type 0 where
  version : top_fault 120 is_version end (slice_get fs 0) ≡ None
  domain : top_fault 121 (is_headed (codes "domain")) end (slice_get fs 1) ≡ None
  problem : top_fault 122 (is_headed (codes "problem")) end (slice_get fs 2) ≡ None
  rest : rest_fault (slice_get fs 3) (slice_get fs 4) ≡ None
  domain_walk : walk_fault 124 (version_of fs) Domain (slice_get fs 1) ≡ None
  problem_walk : walk_fault 124 (version_of fs) Problem (slice_get fs 2) ≡ None

passes_all : (end : ℕ) (fs : List Form) → shape_fault end fs ≡ None → PassesAll end fs
unfolding shape_fault
passes_all end fs e =
    let one = none_both e in
    let two = none_both one.1 in
    let three = none_both two.1 in
    let four = none_both three.1 in
    let five = none_both four.1 in
    record { version = one.0; domain = two.0; problem = three.0; rest = four.0; domain_walk = five.0; problem_walk = five.1 }

all_passed : (end : ℕ) (fs : List Form) → PassesAll end fs → shape_fault end fs ≡ None
unfolding shape_fault
all_passed end fs p = both_none p.version (both_none p.domain (both_none p.problem (both_none p.rest (both_none p.domain_walk p.problem_walk))))

pub file_of : (end : ℕ) (fs : List Form) → shape_fault end fs ≡ None → IsFile fs
file_of end [] e = some_none (passes_all end [] e).version
file_of end (f ∷ []) e = some_none (passes_all end (f ∷ []) e).domain
file_of end (f ∷ d ∷ []) e = some_none (passes_all end (f ∷ d ∷ []) e).problem
file_of end (f ∷ d ∷ p ∷ rest) e =
    let all = passes_all end (f ∷ d ∷ p ∷ rest) e in
    let states = is_stated f (passes (is_version f) (with_code 120 (place_of f)) all.version) in
    let own = version_of (f ∷ d ∷ p ∷ rest) in
    let same : own ≡ states.0 = version_is f states.0 (d ∷ p ∷ rest) states.1 in (
      states.0,
      states.1,
      subst (λ (v : Version). IsOf v Domain d) same (walked_form own Domain d (unmapped 124 (fault_in own Domain d) all.domain_walk)),
      subst (λ (v : Version). IsOf v Problem p) same (walked_form own Problem p (unmapped 124 (fault_in own Problem p) all.problem_walk)),
      rest_is rest all.rest,
    )

pub of_file : (end : ℕ) (fs : List Form) → IsFile fs → shape_fault end fs ≡ None
of_file end [] is = absurd is
of_file end (f ∷ []) is = absurd is
of_file end (f ∷ d ∷ []) is = absurd is
of_file end (f ∷ d ∷ p ∷ rest) (v, states, domain, problem, may) =
    let own = version_of (f ∷ d ∷ p ∷ rest) in
    let same : v ≡ own = sym (version_is f v (d ∷ p ∷ rest) states) in
    all_passed end (f ∷ d ∷ p ∷ rest) (record {
      version = ap (λ (b : Bool). cond b None (Some (with_code 120 (place_of f)))) (version_states f v states);
      domain = ap (λ (b : Bool). cond b None (Some (with_code 121 (place_of d)))) (domain_headed v d domain);
      problem = ap (λ (b : Bool). cond b None (Some (with_code 122 (place_of p)))) (problem_headed v p problem);
      rest = is_rest rest may;
      domain_walk = ap (λ (o : Option ℕ). option_map (with_code 124) o) (faultless_form own Domain d (subst (λ (v : Version). IsOf v Domain d) same domain));
      problem_walk = ap (λ (o : Option ℕ). option_map (with_code 124) o) (faultless_form own Problem p (subst (λ (v : Version). IsOf v Problem p) same problem));
    })
