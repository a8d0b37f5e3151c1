-- What a file states by its domain and its problem.
use Rattle.std.proofs.Common.{◌≡◌, ◌∙◌, ◌≤◌, ◌<◌, ◌^◌, ℕ, List, Some, None, Result, Ok, Err, IfOk, OnOk, length, map, codes, sym, ap, subst, arith}
use Rattle.std.proofs.lemmas.List.{length-map}
use Rattle.pks_terms.specs.Sets.{Each}
use Rattle.pks_terms.specs.Counts.{SignatureCounts, ProblemCounts}
use Rattle.pks_terms.specs.ValidProblems.{AssignsToPlace, IsValidProblem}
use Rattle.pks_terms.specs.Views.{problem_of}
use Rattle.pks_terms.specs.declared.problem.Problem.{Problem as CodeProblem}
use Rattle.pks_text.specs.Forms.{Form, forms_of, Spells}
use Rattle.pks_reader_shape.specs.declared.grammar.Version.{Version}
use Rattle.pks_reader_shape.specs.Files.{Fault, number_of}
use Rattle.pks_reader_names.specs.Parts.{behind_head, section}
use Rattle.pks_reader_names.specs.Declarations.{actions_among}
use Rattle.pks_reader_declared.specs.FirstFault.{meaning_fault}
use Rattle.pks_reader_problem.specs.Sizes.{AreCounted}
use Rattle.pks_reader_problem.specs.Spans.{bytes_in, adds_in, named_of}
use Rattle.pks_reader_problem.specs.Stated.{Bytes, Named, all, bytes_of, add_places, problem_in, named_in, named_by}
use Rattle.pks_reader_shape.specs.declared.report.Turned.{Turned}
use Rattle.pks_reader.specs.Files.{IsFileOf, faults_by_section, AreRefused, by_meaning, FormsState}
use Rattle.pks_reader.proofs.Firsts.{first_is, no_faults, meaning_first}
use Rattle.pks_reader.proofs.Numbering.{items_few, adds_few, adds_numbered}
use Rattle.pks_reader.proofs.Parted.{of_version}
use Rattle.pks_reader.proofs.Valid.{valid}

pub forms_state : (fs : List Form) (v : Version) (d p : Form) (r : Result CodeProblem Turned) → IsFileOf fs v d p → OnOk r (meaning_fault (number_of v) (behind_head d) (behind_head p) ≡ None)
    → IfOk r (λ q. problem_of q ≡ problem_in (number_of v) (behind_head d) (behind_head p)) → IfOk r (λ q. named_of q ≡ named_in (number_of v) (behind_head d) p)
    → IfOk r (λ q. FormsState fs (problem_of q) (named_of q))
forms_state fs v d p (Ok q) file none says named = record {
  version = v;
  domain = d;
  problem = p;
  file = file;
  faultless = no_faults (faults_by_section (number_of v) (behind_head d) (behind_head p)) (sym (meaning_first (number_of v) (behind_head d) (behind_head p)) ∙ none);
  says = says;
  named = named;
}
forms_state fs v d p (Err e) file none says named = tt

pub meaning_refuses : (end : ℕ) (fs : List Form) (v : Version) (d p : Form) (f : Fault) → IsFileOf fs v d p → meaning_fault (number_of v) (behind_head d) (behind_head p) ≡ Some f → AreRefused end fs f
meaning_refuses end fs v d p f file e = by_meaning v d p file (first_is (faults_by_section (number_of v) (behind_head d) (behind_head p)) f (sym (meaning_first (number_of v) (behind_head d) (behind_head p)) ∙ e))

-- ---- validity

numbered : (text : List ℕ) (fs : List Form) (v : Version) (d p : Form) (q : CodeProblem) → length text ≤ 262144 → Spells text (forms_of fs) → IsFileOf fs v d p → named_of q ≡ named_in (number_of v) (behind_head d) p
    → (length q.init < 2 ^ 32) × Each (λ x. length x.adds < 2 ^ 32) q.schemas
unfolding named_by
numbered text fs v d p q short spelled file named =
    let items : map (λ i. bytes_in i.span) q.init ≡ all bytes_of (section (codes "init") (behind_head p)) = ap (λ (n : Named). n.items) named in
    let adds : map adds_in q.schemas ≡ all add_places (actions_among (behind_head d)) = ap (λ (n : Named). n.adds) named in
    let few = items_few text fs p spelled file.problem in
    let counted : length (map (λ i. bytes_in i.span) q.init) ≡ length (all bytes_of (section (codes "init") (behind_head p))) = ap (λ (xs : List Bytes). length xs) items in
    let long = length-map q.init (λ i. bytes_in i.span) in (
      omega (arith, few, counted, long, short),
      adds_numbered (length text) q.schemas short (subst (λ (xs : List (List Bytes)). Each (λ bs. length bs ≤ length text) xs) (sym adds) (adds_few text fs d spelled file.domain)),
    )

pub stated_valid : (text : List ℕ) (fs : List Form) (v : Version) (d p : Form) (r : Result CodeProblem Turned) → length text ≤ 262144 → Spells text (forms_of fs) → IsFileOf fs v d p
    → OnOk r (meaning_fault (number_of v) (behind_head d) (behind_head p) ≡ None)
    → IfOk r (λ q. problem_of q ≡ problem_in (number_of v) (behind_head d) (behind_head p)) → IfOk r (λ q. named_of q ≡ named_in (number_of v) (behind_head d) p)
    → IfOk r (λ q. AreCounted q.signature) → IfOk r (λ q. SignatureCounts q.signature → ProblemCounts q) → IfOk r (λ q. Each (λ x. Each (λ e. AssignsToPlace e.target) x.effects) q.schemas)
    → IfOk r IsValidProblem
stated_valid text fs v d p (Ok q) short spelled file none says named counted counts places =
    let of = of_version fs v d p file in
    valid v d p q of.0 of.1 none says named counted counts places (numbered text fs v d p q short spelled file named)
stated_valid text fs v d p (Err e) short spelled file none says named counted counts places = tt
