-- What the forms of a text declare, and the answers to a text.
use Rattle.std.proofs.Common.{◌≡◌, ◌∙◌, ◌≤◌, ℕ, List, Option, Result, Ok, Err, IfOk, length, map, sym, ap, subst}
use Rattle.pks_terms.specs.Problems.{Problem}
use Rattle.pks_terms.specs.ValidProblems.{IsValidProblem}
use Rattle.pks_terms.specs.Views.{problem_of}
use Rattle.pks_text.specs.Forms.{Form, no_forms}
use Rattle.pks_text.specs.FormViews.{form_view}
use Rattle.pks_reader_shape.specs.Files.{number_of, version_of}
use Rattle.pks_reader_names.specs.Scopes.{signature_in}
use Rattle.pks_reader_names.specs.Parts.{behind_head}
use Rattle.pks_reader_names.specs.Meaning.{scope_of}
use Rattle.pks_reader_problem.specs.Spans.{named_of}
use Rattle.pks_reader_problem.specs.Stated.{Named, problem_by}
use Rattle.pks_reader_world.specs.Stated.{parts_at, declared_by}
use Rattle.pks_reader_shape.specs.declared.report.Turned.{Turned}
use Rattle.pks_text.specs.FormViews.{forms_view}
use Rattle.pks_reader.specs.Files.{FormsState}
use Rattle.pks_reader.specs.Texts.{Reads}
use Rattle.pks_text.specs.declared.tree.Form.{Form as CodeForm}
use Rattle.pks_reader.specs.Views.{IsWhole}
use Rattle.pks_reader.specs.declared.input.InputFile.{InputFile}
use Rattle.std.specs.Option.{option_map_or}

-- the signature of the problem that forms state is what they declare
declares : (fs : List Form) (p : Problem) (n : Named) → FormsState fs p n → p.signature ≡ signature_in (declared_by fs)
unfolding declared_by problem_by
declares fs p n s =
    let version : number_of s.version ≡ number_of (version_of fs) = ap number_of (sym s.file.version) in
    let domain : behind_head s.domain ≡ parts_at fs 1 = sym (ap (λ (o : Option Form). option_map_or behind_head o no_forms) s.file.domain) in
    ap (λ (q : Problem). q.signature) s.says ∙ (λ i. signature_in (scope_of (version i) (domain i)))

pub whole : (input : List ℕ) (r : Result InputFile Turned) → length input ≤ 262144 → IfOk r (λ f. f.source.now ≡ input)
    → IfOk r (λ f. FormsState (map form_view f.forms.top.items) (problem_of f.problem) (named_of f.problem)) → IfOk r (λ f. IsValidProblem f.problem) → IfOk r (λ f. IsWhole f)
whole input (Ok f) short same states valid = record {
  short = subst (λ (text : List ℕ). length text ≤ 262144) (sym same) short;
  valid = valid;
  declared = declares (map form_view f.forms.top.items) (problem_of f.problem) (named_of f.problem) states;
}
whole input (Err e) short same states valid = tt

-- ---- the forms that were given

pub text_read : (source : List ℕ) (fs : List CodeForm) (r : Result InputFile Turned) → Reads source (forms_view fs) → IfOk r (λ f. f.forms.top.items ≡ fs) → IfOk r (λ f. Reads source (forms_view f.forms.top.items))
text_read source fs (Ok f) read same = subst (λ (gs : List CodeForm). Reads source (forms_view gs)) (sym same) read
text_read source fs (Err e) read same = tt

pub text_states : (fs : List CodeForm) (r : Result InputFile Turned) → IfOk r (λ f. f.forms.top.items ≡ fs) → IfOk r (λ f. FormsState (map form_view fs) (problem_of f.problem) (named_of f.problem))
    → IfOk r (λ f. FormsState (map form_view f.forms.top.items) (problem_of f.problem) (named_of f.problem))
text_states fs (Ok f) same states = subst (λ (gs : List CodeForm). FormsState (map form_view gs) (problem_of f.problem) (named_of f.problem)) (sym same) states
text_states fs (Err e) same states = tt
