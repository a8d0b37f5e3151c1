-- Answers to an input.
use Rattle.std.proofs.Common.{◌≡◌, ◌∙◌, ℕ, ◌≤◌, List, Some, None, Result, Ok, Err, IsOk, IfOk, IfErr, length, map, sym, subst, arith}
use Rattle.std.proofs.lemmas.Option.{none-some}
use Rattle.pks_terms.specs.Printed.{Text}
use Rattle.pks_terms.specs.Problems.{Problem}
use Rattle.pks_terms.specs.Answers.{File}
use Rattle.pks_terms.specs.Views.{problem_of}
use Rattle.pks_text.specs.Forms.{Form}
use Rattle.pks_text.specs.FormViews.{form_view, forms_view}
use Rattle.pks_reader_shape.specs.Files.{Fault}
use Rattle.pks_reader_problem.specs.Spans.{named_of}
use Rattle.pks_reader_problem.specs.Stated.{Named}
use Rattle.pks_reader_shape.specs.declared.report.Turned.{Turned}
use Rattle.pks_reader_shape.specs.declared.report.Turned.TheVariants.{Memory}
use Rattle.pks_reader.specs.Files.{FormsState}
use Rattle.pks_reader.specs.Texts.{Reads as Spells, States, IsRefused}
use Rattle.pks_reader_shape.specs.Refusals.{Turns}
use Rattle.pks_reader.proofs.Parted.{listed, some_same}
use Rattle.pks_reader.proofs.Deciding.{turns_as, err_as}
use Rattle.pks_reader.specs.Inputs.{first_high, file_in, IsFaulty, too_long, too_high, refused, IsRead}
use Rattle.pks_reader.specs.Views.{file_of}
use Rattle.pks_reader.specs.declared.input.InputFile.{InputFile}
use Rattle.pks_reader.proofs.Once.{one_file}

-- ---- a byte above 127

pub high_faulty : (input : Text) (at : ℕ) (e : Turned) → length input ≤ 262144 → first_high input ≡ Some at → Turns (λ f. f ≡ (at, 101)) e → Turns (IsFaulty input) e
high_faulty input at e short high turns = turns_as (λ f. f ≡ (at, 101)) (IsFaulty input) e (λ f is. subst (IsFaulty input) (sym is) (too_high short at high)) turns

pub high_unread : (input : Text) (at : ℕ) (f : File) → first_high input ≡ Some at → IsRead input f → ⊥
high_unread input at f high read = none-some at (sym read.low ∙ high)

one_high : (input : Text) (at : ℕ) (f : Fault) → length input ≤ 262144 → first_high input ≡ Some at → IsFaulty input f → (at, 101) ≡ f
one_high input at _ short high (too_long long) = absurd (omega (arith, short, long))
one_high input at _ short high (too_high fits place first) = let same : at ≡ place = some_same (sym high ∙ first) in λ i. (same i, 101)
one_high input at _ short high (refused fits low f is) = absurd (none-some at (sym low ∙ high))

pub high_only : (input : Text) (at : ℕ) (e : Turned) → length input ≤ 262144 → first_high input ≡ Some at → Turns (λ f. f ≡ (at, 101)) e → (f : Fault) → IsFaulty input f → Turns (λ g. g ≡ f) e
high_only input at e short high turns f is = turns_as (λ g. g ≡ (at, 101)) (λ g. g ≡ f) e (λ g same. same ∙ one_high input at f short high is) turns

-- ---- a text

module _ (input : Text) (short : length input ≤ 262144) (low : first_high input ≡ None) where
  read_in : (q : InputFile) → q.source.now ≡ input → Spells input (forms_view q.forms.top.items) → FormsState (map form_view q.forms.top.items) (problem_of q.problem) (named_of q.problem) → IsRead input (file_of q)
  read_in q same spelled states =
      let fs = map form_view q.forms.top.items in
      record {
        short = short;
        low = low;
        forms = forms_view q.forms.top.items;
        spelled = spelled;
        problem = problem_of q.problem;
        named = named_of q.problem;
        states = subst (λ (gs : List Form). FormsState gs (problem_of q.problem) (named_of q.problem)) (sym (listed fs)) states;
        gives = λ i. file_in (same i) (sym (listed fs) i) (problem_of q.problem) (named_of q.problem);
      }

  pub reads : (r : Result InputFile Turned) → IfOk r (λ q. q.source.now ≡ input) → IfOk r (λ q. Spells input (forms_view q.forms.top.items)) → IfOk r (λ q. FormsState (map form_view q.forms.top.items) (problem_of q.problem) (named_of q.problem))
      → IfOk r (λ q. IsRead input (file_of q))
  reads (Ok q) same spelled states = read_in q same spelled states
  reads (Err e) same spelled states = tt

  pub text_faulty : (r : Result InputFile Turned) → IfErr r (Turns (IsRefused input)) → IfErr r (Turns (IsFaulty input))
  text_faulty r turns = err_as (IsRefused input) (IsFaulty input) r (λ f is. refused short low f is) turns

  -- the text states a problem, so the answer is the file or want of memory
  pub only_read : (r : Result InputFile Turned) → IfOk r (λ q. IsRead input (file_of q))
      → ((p : Problem) (n : Named) → States input p n → IfOk r (λ q. (problem_of q.problem ≡ p) × (named_of q.problem ≡ n)) × IfErr r (λ e. e ≡ Memory))
      → (f : File) → IsRead input f → IfOk r (λ q. file_of q ≡ f) × IfErr r (λ e. e ≡ Memory)
  only_read (Ok q) ok only f read = (one_file input (file_of q) f ok read, tt)
  only_read (Err e) ok only f read = (tt, (only read.problem read.named (record { forms = read.forms; reads = read.spelled; states = read.states })).1)

  pub only_faulty : (r : Result InputFile Turned) → ((f : Fault) → IsRefused input f → (IsOk r → ⊥) × IfErr r (Turns (λ g. g ≡ f))) → (f : Fault) → IsFaulty input f → (IsOk r → ⊥) × IfErr r (Turns (λ g. g ≡ f))
  only_faulty r only _ (too_long long) = absurd (omega (arith, short, long))
  only_faulty r only _ (too_high fits at high) = absurd (none-some at (sym low ∙ high))
  only_faulty r only _ (refused fits all f is) = only f is
