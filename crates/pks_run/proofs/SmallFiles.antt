-- The names of an input that was read are short, and the formulas that it states have few literals.
use Rattle.std.proofs.Common.{◌≡◌, ◌==◌, ◌≤◌, ℕ, zero, suc, Bool, true, false, cond, List, [], ◌∷◌, length, refl, sym, ap, ◌∙◌, subst, arith}
use Rattle.std.specs.Prelude.{codes}
use Rattle.std.specs.Map.{keys_of}
use Rattle.std.proofs.lemmas.Bool.{false≢true, eqb-true}
use Rattle.pks_terms.specs.Sets.{Each}
use Rattle.pks_terms.specs.ValidProblems.{is_name}
use Rattle.pks_terms.specs.Printed.{Text}
use Rattle.pks_terms.specs.Problems.{StartKf, StartKw, StartKv, StartKx, StartLcw}
use Rattle.pks_terms.specs.Actions.{ItemKf, ItemKw, ItemKv, ItemLcw}
use Rattle.pks_terms.specs.Closure.{in_sequence}
use Rattle.pks_terms.specs.Jobs.{Job}
use Rattle.pks_terms.specs.Talk.{talk}
use Rattle.pks_terms.specs.Trees.{Tree, IsPlan, depth}
use Rattle.pks_terms.specs.Answers.{File, IsAccepted, text_for}
use Rattle.pks_text.specs.Forms.{Form, Forms, no_forms, form}
use Rattle.pks_reader_shape.specs.Walk.{is_headed}
use Rattle.pks_reader_shape.specs.Files.{Fault, number_of}
use Rattle.pks_reader_names.specs.Scopes.{Scope, name_in}
use Rattle.pks_reader_names.specs.Parts.{text_of, behind_head, section, first_forms, each}
use Rattle.pks_reader_names.specs.Declarations.{first_in, second_in, name_of, entries_faults, past_names, section_table, section_faults, predicate_in, barred_faults, predicate_faults, predicates_section, function_in, function_faults, functions_section, within, action_faults, nothing, actions_among, actions_section}
use Rattle.pks_reader_names.specs.Meaning.{scope_of}
use Rattle.pks_reader_problem.specs.Stated.{Named, first, all, literal_in, conj_in, only_literal, only_term, only_pattern, item_in, given_in, add_in, stated_in, schema_in, start_in, problem_by, problem_in, action_name, named_by}
use Rattle.pks_laws_reader.specs.Facts.{EachForm}
use Rattle.pks_laws_reader.proofs.Numbers.{nil_parts}
use Rattle.pks_reader_problem.proofs.Walked.{first_all}
use Rattle.pks_reader.specs.Files.{faults_by_section}
use Rattle.pks_reader.specs.Inputs.{Reads, IsRead}
use Rattle.pks_agent.specs.Bounds.{IsShortTalk, HasShortNames, IsSmallStart, IsSmallItem, HasSmallFormulas}
use Rattle.pks_agent.proofs.SmallTests.{set_most, plan_small}
use Rattle.pks_agent.proofs.Widths.{short_plan}
use Rattle.pks_run.proofs.ShortNames.{IsShort, entries_short, read_short}
use Rattle.pks_run.proofs.Telling.{read_valid}

-- ---- names

section_short : {X : Type 0} (named : Form → Form) (n : ℕ) (said : Form → X) (faults : Form → List Fault) (fs : Forms) → section_faults named n said faults fs ≡ [] → Each IsShort (keys_of (section_table named n said fs))
section_short named n said faults fs e =
    (entries_short named said faults [] (first_forms n fs) tt (nil_parts (entries_faults named said faults [] (first_forms n fs)) (past_names (section_table named n said fs) named n fs) e).0).0

-- a name isn't spelled with a `?`
name_kept : (text : List ℕ) → is_name text ≡ true → name_in text ≡ text
name_kept [] e = refl
name_kept (b ∷ bytes) e = by_test (b == 63) (λ q. eqb-true b 63 q)
  where
    by_test : (c : Bool) → (c ≡ true → b ≡ 63) → cond c bytes (b ∷ bytes) ≡ b ∷ bytes
    by_test true same = absurd (false≢true (ap (λ (x : ℕ). is_name (x ∷ bytes)) (sym (same refl)) ∙ e))
    by_test false same = refl

actions_short : (fs : Forms) → Each (λ name. is_name name ≡ true) (all action_name fs) → EachForm (λ f. IsShort (name_of (second_in f))) fs → Each IsShort (all action_name fs)
actions_short no_forms spelled short = tt
actions_short (form f fs) spelled short = (subst IsShort (name_kept (text_of (second_in f)) spelled.0) short.0, actions_short fs spelled.1 short.1)

all_actions_short : (s : Scope) (domain : Forms) → actions_section s domain ≡ [] → Each (λ name. is_name name ≡ true) (all action_name (actions_among domain)) → Each IsShort (all action_name (actions_among domain))
unfolding actions_section
all_actions_short s domain e spelled =
    let actions = actions_among domain in
    let faults : Form → List Fault = λ f. action_faults s (behind_head f) in
    let parts = nil_parts (entries_faults second_in nothing faults [] (first_forms 64 actions)) (past_names (section_table second_in 64 nothing actions) second_in 64 actions) e in
    let short = (entries_short second_in nothing faults [] (first_forms 64 actions) tt parts.0).1 in
    actions_short actions spelled (subst (EachForm (λ f. IsShort (name_of (second_in f)))) (first_all (section_table second_in 64 nothing actions) second_in 64 actions parts.1) short)

pub read_names : (input : Text) (f : File) → IsRead input f → HasShortNames f.names
unfolding faults_by_section predicates_section functions_section scope_of named_by
read_names input f r =
    let s = r.states in
    let version = number_of s.version in
    let domain = behind_head s.domain in
    let scope = scope_of version domain in
    let predicates = section (codes "predicates") domain in
    let functions = section (codes "functions") domain in
    let none = s.faultless in
    let spelled : Each (λ name. is_name name ≡ true) r.named.actions = subst (λ (g : File). Each (λ name. is_name name ≡ true) g.names.actions) r.gives (read_valid input f r).1.actions.spelled in
    let stated : Each (λ name. is_name name ≡ true) (all action_name (actions_among domain)) = subst (λ (n : Named). Each (λ name. is_name name ≡ true) n.actions) s.named spelled in
    let predicates_short = section_short first_in 32 (predicate_in scope.types) (predicate_faults scope.types) predicates (nil_parts (each barred_faults predicates) (section_faults first_in 32 (predicate_in scope.types) (predicate_faults scope.types) predicates) none.1.1.0).1 in
    let undeclared : Scope = record scope { functions = [] } in
    let functions_short = section_short first_in 32 (function_in scope.types) (function_faults undeclared) functions none.1.1.1.0 in
    let names_short : HasShortNames (record { objects = r.named.objects; predicates = r.named.predicates; functions = r.named.functions; actions = r.named.actions }) = record {
      objects = subst (λ (g : File). Each IsShort g.names.objects) r.gives (read_short input f r);
      predicates = subst (λ (n : Named). Each IsShort n.predicates) (sym s.named) predicates_short;
      functions = subst (λ (n : Named). Each IsShort n.functions) (sym s.named) functions_short;
      actions = subst (λ (n : Named). Each IsShort n.actions) (sym s.named) (all_actions_short scope domain none.1.1.1.1.0 stated);
    } in
    subst (λ (g : File). HasShortNames g.names) (sym r.gives) names_short

-- ---- formulas

first_most : {X : Type 0} (n : ℕ) (meant : Form → X) (fs : Forms) → length (first n meant fs) ≤ n
first_most zero meant fs = omega arith
first_most (suc n) meant no_forms = omega arith
first_most (suc n) meant (form f fs) = let rest = first_most n meant fs in omega (arith, rest)

conj_small : (s : Scope) (fs : Forms) → length (conj_in s fs) ≤ 4
unfolding conj_in
conj_small s fs = let few = first_most 4 (literal_in s) fs in let most = set_most (first 4 (literal_in s) fs) in omega (arith, few, most)

every : {X : Type 0} (P : X → Type 0) (meant : Form → X) → ((f : Form) → P (meant f)) → (fs : Forms) → Each P (all meant fs)
every P meant so no_forms = tt
every P meant so (form f fs) = (so f, every P meant so fs)

item_small : (s : Scope) (f : Form) → IsSmallItem (item_in s f)
unfolding item_in
item_small s f = by_head (is_headed (codes "kf") f) (is_headed (codes "kv") f) (is_headed (codes "lcw") f)
  where
    by_head : (a b c : Bool) → IsSmallItem (cond a (ItemKf (only_literal s (behind_head f))) (cond b (ItemKv (only_term s (behind_head f))) (cond c (ItemLcw (only_pattern s (behind_head f))) (ItemKw (conj_in s (behind_head f))))))
    by_head true b c = tt
    by_head false true c = tt
    by_head false false true = tt
    by_head false false false = conj_small s (behind_head f)

given_small : (s : Scope) (fs : Forms) → IsSmallItem (given_in s fs).item
given_small s no_forms = omega arith
given_small s (form given no_forms) = omega arith
given_small s (form given (form item fs)) = item_small s item

add_small : (s : Scope) (f : Form) → IsSmallItem (add_in s f).item
unfolding add_in
add_small s f = by_head (is_headed (codes "if") f)
  where
    by_head : (b : Bool) → IsSmallItem (cond b (given_in s (behind_head f)) (record { given = []; item = item_in s f })).item
    by_head true = given_small s (behind_head f)
    by_head false = item_small s f

start_small : (s : Scope) (f : Form) → IsSmallStart (start_in s f)
unfolding start_in
start_small s f = by_head (is_headed (codes "kf") f) (is_headed (codes "kv") f) (is_headed (codes "lcw") f) (is_headed (codes "kx") f)
  where
    by_head : (a b c d : Bool) → IsSmallStart (cond a (StartKf (only_literal s (behind_head f))) (cond b (StartKv (only_term s (behind_head f))) (cond c (StartLcw (only_pattern s (behind_head f))) (cond d (StartKx (in_sequence (all (literal_in s) (behind_head f)))) (StartKw (conj_in s (behind_head f)))))))
    by_head true b c d = tt
    by_head false true c d = tt
    by_head false false true d = tt
    by_head false false false true = tt
    by_head false false false false = conj_small s (behind_head f)

adds_small : (s : Scope) (fs : Forms) → Each (λ a. IsSmallItem a.item) (stated_in s fs).adds
unfolding stated_in
adds_small s fs = every (λ a. IsSmallItem a.item) (add_in s) (add_small s) (section (codes "knows") fs)

stated_small : (version : ℕ) (domain problem : Forms) → HasSmallFormulas (problem_in version domain problem)
unfolding problem_by
stated_small version domain problem =
    let s = scope_of version domain in
    record {
      init = every IsSmallStart (start_in s) (start_small s) (section (codes "init") problem);
      adds = every (λ sc. Each (λ a. IsSmallItem a.item) sc.adds) (λ f. schema_in s (behind_head f)) (λ f. adds_small (within s (behind_head f)) (behind_head f)) (actions_among domain);
    }

pub read_formulas : (input : Text) (f : File) → IsRead input f → HasSmallFormulas f.problem
read_formulas input f r =
    let s = r.states in
    let stated = stated_small (number_of s.version) (behind_head s.domain) (behind_head s.problem) in
    let read : HasSmallFormulas r.problem = subst HasSmallFormulas (sym s.says) stated in
    subst (λ (g : File). HasSmallFormulas g.problem) (sym r.gives) read

-- ---- dialogues

pub accepted_short : (j : Job) (input : Text) (f : File) → IsAccepted Reads j input f → (t : Tree) → IsPlan f.problem t → depth t ≤ 16 → (answers : List Text) → IsShortTalk (talk f.problem.signature f.names t answers)
accepted_short j input f accepted t plan deep answers =
    let text = text_for j input in
    let read : IsRead text f = accepted.reads in
    short_plan f.problem (read_valid text f read).0 f.names (read_names text f read) t plan (plan_small f.problem (read_formulas text f read) t plan) deep answers
