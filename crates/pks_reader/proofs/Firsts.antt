-- The first fault of meaning is the least of the first section that has faults.
use Rattle.std.proofs.Common.{◌≡◌, ◌∙◌, inl, inr, ℕ, false, List, [], ◌∷◌, Option, Some, None, codes, refl, sym, ap, subst, arith}
use Rattle.std.proofs.lemmas.Option.{none-some}
use Rattle.std.proofs.lemmas.Bool.Decides.{nat_tests}
use Rattle.pks_terms.specs.Sets.{Each}
use Rattle.pks_text.specs.Forms.{Forms}
use Rattle.pks_reader_shape.specs.Files.{Fault, or_else}
use Rattle.pks_reader_names.specs.Scopes.{Scope}
use Rattle.pks_reader_names.specs.Parts.{section}
use Rattle.pks_reader_names.specs.Sentences.{problem_faults}
use Rattle.pks_reader_names.specs.Declarations.{types_section, objects_section, predicates_section, functions_section, actions_section}
use Rattle.pks_reader_names.specs.Meaning.{is_before, least, scope_of}
use Rattle.pks_reader_names.specs.Leasts.{IsIn, IsLeast}
use Rattle.pks_reader_names.proofs.Least.{least_is, least_none}
use Rattle.pks_reader_declared.specs.FirstFault.{declarations_fault, meaning_fault}
use Rattle.pks_laws_reader.proofs.Whole.{or_none}
use Rattle.pks_reader.specs.Files.{faults_by_section, IsFirstOf}

-- ---- there is one least fault

same_place : (f g : Fault) → is_before f g ≡ false → is_before g f ≡ false → f.0 ≡ g.0
same_place f g fg gf = grind (arith, nat_tests)

same_code : (f g : Fault) → is_before f g ≡ false → is_before g f ≡ false → f.1 ≡ g.1
same_code f g fg gf = grind (arith, nat_tests)

not_either : (f g : Fault) → is_before f g ≡ false → is_before g f ≡ false → f ≡ g
not_either f g fg gf = λ i. (same_place f g fg gf i, same_code f g fg gf i)

least_one : (fs : List Fault) (f : Fault) → IsLeast f fs → least fs ≡ Some f
least_one fs f is = by_case (least fs) refl
  where
    by_case : (o : Option Fault) → least fs ≡ o → o ≡ Some f
    by_case None e = absurd (subst (λ (gs : List Fault). IsIn f gs) (least_none fs e) is.among)
    by_case (Some g) e = let other = least_is fs g e in ap Some (not_either g f (is.least g other.among) (other.least f is.among))

-- ---- sections

or_assoc : {X : Type 0} (a b c : Option X) → or_else (or_else a b) c ≡ or_else a (or_else b c)
or_assoc None b c = refl
or_assoc (Some x) b c = refl

or_nothing : {X : Type 0} (a : Option X) → or_else a None ≡ a
or_nothing None = refl
or_nothing (Some x) = refl

-- the first of the least faults
abbrev pub first_fault : List (List Fault) → Option Fault
first_fault [] = None
first_fault (fs ∷ later) = or_else (least fs) (first_fault later)

pub first_is : (ss : List (List Fault)) (f : Fault) → first_fault ss ≡ Some f → IsFirstOf f ss
first_is [] f e = absurd (none-some f e)
first_is (fs ∷ later) f e = by_least (least fs) refl e (first_is later f)
  where
    by_least : (o : Option Fault) → least fs ≡ o → or_else o (first_fault later) ≡ Some f → (first_fault later ≡ Some f → IsFirstOf f later) → IsFirstOf f (fs ∷ later)
    by_least None none e later_is = inr (least_none fs none, later_is e)
    by_least (Some g) some e later_is = inl (least_is fs f (some ∙ e))

pub is_first : (ss : List (List Fault)) (f : Fault) → IsFirstOf f ss → first_fault ss ≡ Some f
is_first [] f is = absurd is
is_first (fs ∷ later) f (inl is) = ap (λ (o : Option Fault). or_else o (first_fault later)) (least_one fs f is)
is_first (fs ∷ later) f (inr is) = ap (λ (gs : List Fault). or_else (least gs) (first_fault later)) is.0 ∙ is_first later f is.1

pub no_faults : (ss : List (List Fault)) → first_fault ss ≡ None → Each (λ fs. fs ≡ []) ss
no_faults [] e = tt
no_faults (fs ∷ later) e = let both = or_none (least fs) (first_fault later) e in (least_none fs both.0, no_faults later both.1)

pub faultless : (ss : List (List Fault)) → Each (λ fs. fs ≡ []) ss → first_fault ss ≡ None
faultless [] are = refl
faultless (fs ∷ later) are = ap (λ (gs : List Fault). or_else (least gs) (first_fault later)) are.0 ∙ faultless later are.1

-- ---- the sections of a file

pub meaning_first : (version : ℕ) (domain problem : Forms) → meaning_fault version domain problem ≡ first_fault (faults_by_section version domain problem)
unfolding meaning_fault declarations_fault faults_by_section
meaning_first version domain problem =
    let s : Scope = scope_of version domain in
    let t : Option Fault = least (types_section (section (codes "types") domain)) in
    let o : Option Fault = least (objects_section version s.types (section (codes "objects") domain)) in
    let p : Option Fault = least (predicates_section s.types (section (codes "predicates") domain)) in
    let f : Option Fault = least (functions_section (record s { functions = [] }) (section (codes "functions") domain)) in
    let a : Option Fault = least (actions_section s domain) in
    let m : Option Fault = least (problem_faults s problem) in
    or_assoc t (or_else o (or_else p f)) (or_else a m)
    ∙ ap (λ (x : Option Fault). or_else t x) (
    or_assoc o (or_else p f) (or_else a m)
    ∙ ap (λ (x : Option Fault). or_else o x) (or_assoc p f (or_else a m) ∙ ap (λ (x : Option Fault). or_else p (or_else f (or_else a x))) (sym (or_nothing m)))
    )
