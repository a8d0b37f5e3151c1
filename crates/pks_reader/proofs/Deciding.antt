-- Forms, and a text, state one problem or are refused with one fault.
use Rattle.std.proofs.Common.{◌≡◌, ◌∙◌, ◌⊎◌, inl, inr, ℕ, List, Some, None, Result, Ok, Err, IsOk, IfOk, IfErr, length, refl, sym, ap, subst}
use Rattle.std.proofs.lemmas.Option.{none-some}
use Rattle.std.proofs.lemmas.Bool.{false≢true}
use Rattle.pks_terms.specs.Problems.{Problem}
use Rattle.pks_terms.specs.Views.{problem_of}
use Rattle.pks_terms.specs.declared.problem.Problem.{Problem as CodeProblem}
use Rattle.pks_text.specs.Forms.{Form, Forms, list_of, forms_of, Spells}
use Rattle.pks_text.specs.Faults.{IsFirstFault, IsFaultOf, IsAnswered}
use Rattle.pks_text.specs.declared.tree.FormFault.{FormFault}
use Rattle.pks_text.specs.declared.tree.FormFault.TheVariants as text
use Rattle.pks_text.proofs.OneReading.{one_forms}
use Rattle.pks_reader_shape.specs.declared.grammar.Version.{Version}
use Rattle.pks_reader_shape.specs.Files.{Fault, number_of, shape_fault}
use Rattle.pks_reader_shape.specs.Language.{IsFile}
use Rattle.pks_reader_names.specs.Parts.{behind_head}
use Rattle.pks_reader_problem.specs.Spans.{named_of}
use Rattle.pks_reader_problem.specs.Stated.{Named, problem_in, named_in}
use Rattle.pks_reader_shape.specs.declared.report.Turned.{Turned}
use Rattle.pks_reader_shape.specs.declared.report.Turned.TheVariants.{Refused, Memory}
use Rattle.pks_reader.specs.Files.{IsFileOf, faults_by_section, AreRefused, by_shape, by_meaning, FormsState}
use Rattle.pks_reader.specs.Texts.{IsRefused, by_text, by_forms, States, coded}
use Rattle.pks_reader_shape.specs.Refusals.{Turns}
use Rattle.pks_reader.proofs.Firsts.{first_fault, is_first, faultless}
use Rattle.pks_reader.proofs.Parted.{some_same, same_parts, listed}

-- ---- forms

-- a file has no fault of shape
abbrev pub IsShaped : ℕ → List Form → Type 0
IsShaped end fs = IsFile fs → shape_fault end fs ≡ None

abbrev sections : Version → Form → Form → List (List Fault)
sections v d p = faults_by_section (number_of v) (behind_head d) (behind_head p)

same_sections : (fs : List Form) (v w : Version) (d e p q : Form) → IsFileOf fs v d p → IsFileOf fs w e q → sections v d p ≡ sections w e q
same_sections fs v w d e p q f g = let same = same_parts fs v w d e p q f g in λ i. sections (same.version i) (same.domain i) (same.problem i)

pub one_refusal : (end : ℕ) (fs : List Form) → IsShaped end fs → (f g : Fault) → AreRefused end fs f → AreRefused end fs g → f ≡ g
one_refusal end fs shaped f g (by_shape e) (by_shape h) = some_same (sym e ∙ h)
one_refusal end fs shaped f g (by_shape e) (by_meaning v d p file first) = absurd (none-some f (sym (shaped file.file) ∙ e))
one_refusal end fs shaped f g (by_meaning v d p file first) (by_shape e) = absurd (none-some g (sym (shaped file.file) ∙ e))
one_refusal end fs shaped f g (by_meaning v d p file first) (by_meaning w e q other second) =
    some_same (sym (is_first (sections v d p) f first) ∙ ap first_fault (same_sections fs v w d e p q file other) ∙ is_first (sections w e q) g second)

pub not_both : (end : ℕ) (fs : List Form) → IsShaped end fs → (f : Fault) (p : Problem) (n : Named) → AreRefused end fs f → FormsState fs p n → ⊥
not_both end fs shaped f p n (by_shape e) s = none-some f (sym (shaped s.file.file) ∙ e)
not_both end fs shaped f p n (by_meaning v d q file first) s =
    none-some f (sym (faultless (sections s.version s.domain s.problem) s.faultless) ∙ ap first_fault (same_sections fs s.version v s.domain d s.problem q s.file file) ∙ is_first (sections v d q) f first)

pub one_problem : (fs : List Form) (p q : Problem) (n m : Named) → FormsState fs p n → FormsState fs q m → (p ≡ q) × (n ≡ m)
one_problem fs p q n m s t =
    let same = same_parts fs s.version t.version s.domain t.domain s.problem t.problem s.file t.file in
    let problems : problem_in (number_of s.version) (behind_head s.domain) (behind_head s.problem) ≡ problem_in (number_of t.version) (behind_head t.domain) (behind_head t.problem) =
    λ i. problem_in (number_of (same.version i)) (behind_head (same.domain i)) (behind_head (same.problem i)) in
    let names : named_in (number_of s.version) (behind_head s.domain) s.problem ≡ named_in (number_of t.version) (behind_head t.domain) t.problem =
    λ i. named_in (number_of (same.version i)) (behind_head (same.domain i)) (same.problem i) in
    (s.says ∙ problems ∙ sym t.says, s.named ∙ names ∙ sym t.named)

-- ---- answers

pub turns_as : (P Q : Fault → Type 0) (e : Turned) → ((f : Fault) → P f → Q f) → Turns P e → Turns Q e
turns_as P Q (Refused r) as_q turns = (as_q (r.at, r.code) turns.0, turns.1)
turns_as P Q Memory as_q turns = tt

turned_not : (P : Fault → Type 0) (e : Turned) → Turns P e → ((f : Fault) → P f → ⊥) → e ≡ Memory
turned_not P (Refused r) turns none = absurd (none (r.at, r.code) turns.0)
turned_not P Memory turns none = refl

pub ok_as : {X : Type 0} (P Q : X → Type 0) (r : Result X Turned) → ((x : X) → P x → Q x) → IfOk r P → IfOk r Q
ok_as P Q (Ok x) as_q ok = as_q x ok
ok_as P Q (Err e) as_q ok = tt

pub err_as : {X : Type 0} (P Q : Fault → Type 0) (r : Result X Turned) → ((f : Fault) → P f → Q f) → IfErr r (Turns P) → IfErr r (Turns Q)
err_as P Q (Ok x) as_q err = tt
err_as P Q (Err e) as_q err = turns_as P Q e as_q err

-- a problem of which S holds, or a refusal with a fault of which P holds
only_stated : (S : Problem → Named → Type 0) (P : Fault → Type 0) (r : Result CodeProblem Turned) → IfOk r (λ q. S (problem_of q) (named_of q)) → IfErr r (Turns P)
    → ((p q : Problem) (n m : Named) → S p n → S q m → (p ≡ q) × (n ≡ m)) → ((f : Fault) (p : Problem) (n : Named) → P f → S p n → ⊥)
    → (p : Problem) (n : Named) → S p n → IfOk r (λ q. (problem_of q ≡ p) × (named_of q ≡ n)) × IfErr r (λ e. e ≡ Memory)
only_stated S P (Ok q) ok err one not p n s = (one (problem_of q) p (named_of q) n ok s, tt)
only_stated S P (Err e) ok err one not p n s = (tt, turned_not P e err (λ f is. not f p n is s))

only_refused : (S : Problem → Named → Type 0) (P : Fault → Type 0) (r : Result CodeProblem Turned) → IfOk r (λ q. S (problem_of q) (named_of q)) → IfErr r (Turns P)
    → ((f g : Fault) → P f → P g → f ≡ g) → ((f : Fault) (p : Problem) (n : Named) → P f → S p n → ⊥)
    → (f : Fault) → P f → (IsOk r → ⊥) × IfErr r (Turns (λ g. g ≡ f))
only_refused S P (Ok q) ok err one not f is = (λ is_ok. not f (problem_of q) (named_of q) is ok, tt)
only_refused S P (Err e) ok err one not f is = (λ is_ok. false≢true is_ok, turns_as P (λ g. g ≡ f) e (λ g h. one g f h is) err)

pub only_stated_in : (end : ℕ) (fs : List Form) → IsShaped end fs → (r : Result CodeProblem Turned) → IfOk r (λ q. FormsState fs (problem_of q) (named_of q)) → IfErr r (Turns (AreRefused end fs))
    → (p : Problem) (n : Named) → FormsState fs p n → IfOk r (λ q. (problem_of q ≡ p) × (named_of q ≡ n)) × IfErr r (λ e. e ≡ Memory)
only_stated_in end fs shaped r ok err = only_stated (FormsState fs) (AreRefused end fs) r ok err (one_problem fs) (not_both end fs shaped)

pub only_refused_in : (end : ℕ) (fs : List Form) → IsShaped end fs → (r : Result CodeProblem Turned) → IfOk r (λ q. FormsState fs (problem_of q) (named_of q)) → IfErr r (Turns (AreRefused end fs))
    → (f : Fault) → AreRefused end fs f → (IsOk r → ⊥) × IfErr r (Turns (λ g. g ≡ f))
only_refused_in end fs shaped r ok err = only_refused (FormsState fs) (AreRefused end fs) r ok err (one_refusal end fs shaped) (not_both end fs shaped)

-- ---- a text that spells forms and has no fault

abbrev pub HasNoFault : List ℕ → Type 0
HasNoFault text = (fault : FormFault) → IsFirstFault text fault → ⊥

pub states : (text : List ℕ) (fs : List Form) (p : Problem) (n : Named) → Spells text (forms_of fs) → HasNoFault text → FormsState fs p n → States text p n
states text fs p n spelled none s = record { forms = forms_of fs; reads = record { spelled = spelled; faultless = none }; states = subst (λ (gs : List Form). FormsState gs p n) (sym (listed fs)) s }

pub refuses : (text : List ℕ) (fs : List Form) (f : Fault) → Spells text (forms_of fs) → HasNoFault text → AreRefused (length text) fs f → IsRefused text f
refuses text fs f spelled none are = by_forms (forms_of fs) (record { spelled = spelled; faultless = none }) (subst (λ (gs : List Form). AreRefused (length text) gs f) (sym (listed fs)) are)

same_list : (text : List ℕ) (gs : Forms) (fs : List Form) → Spells text gs → Spells text (forms_of fs) → list_of gs ≡ fs
same_list text gs fs s t = ap list_of (one_forms text gs (forms_of fs) s t) ∙ listed fs

pub stated_in : (text : List ℕ) (fs : List Form) (p : Problem) (n : Named) → Spells text (forms_of fs) → States text p n → FormsState fs p n
stated_in text fs p n spelled s = subst (λ (gs : List Form). FormsState gs p n) (same_list text s.forms fs s.reads.spelled spelled) s.states

pub refused_in : (text : List ℕ) (fs : List Form) (f : Fault) → Spells text (forms_of fs) → HasNoFault text → IsRefused text f → AreRefused (length text) fs f
refused_in text fs f spelled none (by_text first is e) = absurd (none first is)
refused_in text fs f spelled none (by_forms gs reads are) = subst (λ (hs : List Form). AreRefused (length text) hs f) (same_list text gs fs reads.spelled spelled) are

-- ---- a text with a fault, or want of memory

is_fault : (source : List ℕ) (fault : FormFault) → IsFaultOf source fault → (coded fault ≡ None) ⊎ IsFirstFault source fault
is_fault source (text.BadByte at) is = inr is
is_fault source (text.Unclosed at) is = inr is
is_fault source (text.Unopened at) is = inr is
is_fault source (text.TooDeep at) is = inr is
is_fault source text.Memory is = inl refl

is_answer : (first fault : FormFault) → IsAnswered first fault → (coded fault ≡ None) ⊎ (fault ≡ first)
is_answer first (text.BadByte at) is = inr is
is_answer first (text.Unclosed at) is = inr is
is_answer first (text.Unopened at) is = inr is
is_answer first (text.TooDeep at) is = inr is
is_answer first text.Memory is = inl refl

not_coded : (fault : FormFault) → coded fault ≡ None → (f : Fault) → coded fault ≡ Some f → ⊥
not_coded fault none f e = none-some f (sym none ∙ e)

pub text_refuses : (source : List ℕ) (fault : FormFault) (e : Turned) → IsFaultOf source fault → Turns (λ f. coded fault ≡ Some f) e → Turns (IsRefused source) e
text_refuses source fault e is turns = elim (is_fault source fault is) [
  | inl none ↦ turns_as (λ f. coded fault ≡ Some f) (IsRefused source) e (λ f is_coded. absurd (not_coded fault none f is_coded)) turns
  | inr first ↦ turns_as (λ f. coded fault ≡ Some f) (IsRefused source) e (λ f is_coded. by_text fault first is_coded) turns
]

pub text_not_stated : (source : List ℕ) (fault : FormFault) (e : Turned) → IsFaultOf source fault → Turns (λ f. coded fault ≡ Some f) e → (p : Problem) (n : Named) → States source p n → e ≡ Memory
text_not_stated source fault e is turns p n s = elim (is_fault source fault is) [
  | inl none ↦ turned_not (λ f. coded fault ≡ Some f) e turns (not_coded fault none)
  | inr first ↦ absurd (s.reads.faultless fault first)
]

-- nothing is coded, or the fault is the one
coded_one : (fault : FormFault) (e : Turned) (f : Fault) → Turns (λ g. coded fault ≡ Some g) e → ((coded fault ≡ None) ⊎ (coded fault ≡ Some f)) → Turns (λ g. g ≡ f) e
coded_one fault e f turns (inl none) = turns_as (λ g. coded fault ≡ Some g) (λ g. g ≡ f) e (λ g is_coded. absurd (not_coded fault none g is_coded)) turns
coded_one fault e f turns (inr one) = turns_as (λ g. coded fault ≡ Some g) (λ g. g ≡ f) e (λ g is_coded. some_same (sym is_coded ∙ one)) turns

pub text_refused_once : (source : List ℕ) (fault : FormFault) (e : Turned) → IsFaultOf source fault → ((first : FormFault) → IsFirstFault source first → IsAnswered first fault) → Turns (λ f. coded fault ≡ Some f) e
    → (f : Fault) → IsRefused source f → Turns (λ g. g ≡ f) e
text_refused_once source fault e is only turns f (by_text first is_first is_coded) =
    coded_one fault e f turns (elim (is_answer first fault (only first is_first)) [ inl none ↦ inl none | inr same ↦ inr (ap coded same ∙ is_coded) ])
text_refused_once source fault e is only turns f (by_forms gs reads are) =
    coded_one fault e f turns (elim (is_fault source fault is) [ inl none ↦ inl none | inr first ↦ absurd (reads.faultless fault first) ])
