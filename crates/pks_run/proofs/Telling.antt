-- What a dialogue told comes of the answers that were read and fit, and its plan is good.
use Rattle.std.proofs.Common.{◌≡◌, ◌⊎◌, ◌∙◌, List, [], ◌∷◌, ◌++◌, ℕ, Option, Some, None, inl, inr, refl, sym, ap, subst, append-nil}
use Rattle.std.specs.Io.KnownBytes.{Appends}
use Rattle.pks_io.specs.Writing.{AppendsFront}
use Rattle.pks_terms.specs.Jobs.{Agent}
use Rattle.pks_terms.specs.Valid.{IsValid}
use Rattle.pks_terms.specs.Problems.{Problem}
use Rattle.pks_terms.specs.Trees.{Tree, IsBest}
use Rattle.pks_terms.specs.Printed.{Text, Names}
use Rattle.pks_terms.specs.Talk.{talk, answers_in, file_text, talked_text, world_answers}
use Rattle.pks_terms.specs.Answers.{File, IsAccepted, talk_in}
use Rattle.pks_plan.specs.Naming.{AreNamesOf}
use Rattle.pks_agent.specs.Fitting.{ComesOfFit}
use Rattle.pks_agent.proofs.AlongRuns.{plan_led}
use Rattle.pks_agent.proofs.Beginning.{begins_run}
use Rattle.pks_agent.proofs.Fitting.{comes_of_fit}
use Rattle.pks_text.specs.Forms.{Form, list_of}
use Rattle.pks_reader_shape.specs.Files.{number_of}
use Rattle.pks_reader_names.specs.Parts.{behind_head}
use Rattle.pks_reader_problem.specs.Stated.{Named, problem_in, named_in}
use Rattle.pks_laws_reader.specs.Facts.{AreNamed}
use Rattle.pks_laws_reader.proofs.Whole.{valid_problem}
use Rattle.pks_laws_reader.proofs.Naming.{problem_named}
use Rattle.pks_reader.specs.Files.{FormsState, faults_by_section}
use Rattle.pks_reader.specs.Inputs.{Reads, IsRead, file_in}
use Rattle.pks_reader.proofs.Firsts.{faultless, meaning_first}
use Rattle.pks_reader.proofs.Parted.{of_version}
use Rattle.pks_run_answer.proofs.OneReply.{all_justified}
use Rattle.pks_run.proofs.ShortNames.{read_short}
use Rattle.pks_run.specs.Leads.{LeadsToGoal, WritesTold, TellsWell, TellsBest}
use Rattle.pks_run.specs.declared.status.Status.{Status}
use Rattle.pks_run.specs.declared.status.Status.TheVariants.{ReadFault, Memory}

-- ---- files that were read

-- the forms of a file without faults state a valid problem, each thing of which has a name of its own
states_valid : (fs : List Form) (p : Problem) (n : Named) → FormsState fs p n → IsValid p × AreNamed p n
states_valid fs p n s =
    let is = of_version fs s.version s.domain s.problem s.file in
    let none = meaning_first (number_of s.version) (behind_head s.domain) (behind_head s.problem) ∙ faultless (faults_by_section (number_of s.version) (behind_head s.domain) (behind_head s.problem)) s.faultless in
    let valid = valid_problem s.version s.domain s.problem is.0 is.1 none in
    let named = problem_named s.version s.domain s.problem is.0 none in (
      subst IsValid (sym s.says) valid,
      subst (λ (m : Named). AreNamed p m) (sym s.named) (subst (λ (q : Problem). AreNamed q (named_in (number_of s.version) (behind_head s.domain) s.problem)) (sym s.says) named),
    )

pub read_valid : (input : Text) (f : File) → IsRead input f → IsValid f.problem × AreNamesOf f.problem f.names
read_valid input f r =
    let states = states_valid (list_of r.forms) r.problem r.named r.states in
    let n = states.1 in
    subst (λ (g : File). IsValid g.problem × AreNamesOf g.problem g.names) (sym r.gives) (
      states.0,
      record { objects = n.objects; predicates = n.predicates; none_is_not = n.none_is_not; functions = n.functions; actions = n.actions },
    )

-- ---- what was told

module _ (n : ℕ) (input : Text) where
  -- what comes of the answers that are fit in the dialogue of the best plan is told well
  pub told_well : (f : File) (t : Tree) → IsAccepted Reads (Agent n) input f → IsBest f.problem n (Some t) → (old new left : Option Text) (status : Status) (fit : List Text) (text : Text) (comes : ComesOfFit f.problem.signature f.names t (answers_in input) fit text)
      → WritesTold input (talk_in f input t) text comes.first.0 old new left status → TellsWell f t input old new left status
  told_well f t accepted best old new left status fit text comes written =
      let names = f.names in
      let read = read_valid (file_text input) f accepted.reads in
      let led = plan_led f.problem names read.0 read.1 (read_short (file_text input) f accepted.reads) t in
      record {
        fit = fit;
        text = text;
        comes = comes;
        written = written;
        leads = λ w fits. let l = led w (all_justified (Agent n) f accepted.fine) best.0.0 fits in record { along = l.0; good = l.1; goal = l.2 };
        begins = λ w fits first.
            let l = led w (all_justified (Agent n) f accepted.fine) best.0.0 fits in
            begins_run f.problem names t w l.0 fit first.0 [] (sym (append-nil (world_answers f.problem names t w) ∙ first.1));
      }

  appends_nothing : (old : Option Text) → Appends old old []
  appends_nothing None = tt
  appends_nothing (Some o) = sym (append-nil o)

  -- where memory was wanting nothing was told
  pub memory_told : (old left : Option Text) → TellsBest n input old old left Memory
  memory_told old left = λ f t accepted best.
      let comes = comes_of_fit f.problem.signature f.names t (answers_in input) [] (talked_text (talk_in f input t), refl) in
      told_well f t accepted best old old left Memory comes.0 [] comes.1 (refl, appends_nothing old)

  -- nor was it where reading the file failed
  pub unread_told : (old left : Option Text) → TellsBest n input old old left ReadFault
  unread_told old left = λ f t accepted best.
      let comes = comes_of_fit f.problem.signature f.names t (answers_in input) [] (talked_text (talk_in f input t), refl) in
      told_well f t accepted best old old left ReadFault comes.0 [] comes.1 (appends_nothing old)
