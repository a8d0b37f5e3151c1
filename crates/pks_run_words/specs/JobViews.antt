-- The program's modes and its jobs, as the definitions have them.
use Rattle.std.specs.Prelude.{◌≡◌, true, List, ◌∷◌}
use Rattle.pks_terms.specs.Printed.{Text}
use Rattle.pks_terms.specs.Jobs.{Mode, all_modes, Job, Check, Plan, Exec, Bench, Recall, Agent, Explain, Derive, Shared, mode_of, mode_word, number_of_job, number_words, has_mode, IsCommand, Asks, AskForNone}
use Rattle.pks_run_words.specs.declared.job.Job.{Job as DJob}
use Rattle.pks_run_words.specs.declared.job.Job.TheVariants as job_is

-- the modes that the program has: all
abbrev pub modes : List Mode
modes = all_modes

-- the job's mode is one of them
abbrev pub IsBuilt : Job → Type 0
IsBuilt job = has_mode modes (mode_of job) ≡ true

-- the job
abbrev pub job_of : DJob → Job
job_of job_is.Check = Check
job_of (job_is.Plan n) = Plan n
job_of (job_is.Exec n) = Exec n
job_of (job_is.Bench n) = Bench n
job_of (job_is.Recall n) = Recall n
job_of (job_is.Agent n) = Agent n
job_of (job_is.Explain n) = Explain n
job_of job_is.Derive = Derive
job_of (job_is.Shared n) = Shared n

-- the positional words are its mode and its number, whatever the bounds of the number
pub record AreSpelled (words : List Text) (job : Job) : Type 0 where
  pub built : IsBuilt job
  pub spelled : words ≡ mode_word (mode_of job) ∷ number_words (number_of_job job)

-- the positional words are those of the job
abbrev pub AreWordsOf : List Text → Job → Type 0
AreWordsOf words job = IsCommand modes words job

-- the positional words are those of no job
abbrev pub AreNoWords : List Text → Type 0
AreNoWords words = (job : Job) → AreWordsOf words job → ⊥

-- the words ask the program for the job
abbrev pub AskFor : List Text → Job → Type 0
AskFor words job = Asks modes words job

-- the words ask it for no job
abbrev pub AskNoJob : List Text → Type 0
AskNoJob words = AskForNone modes words

-- the words ask for the job, and for no other
abbrev pub AskForOne : List Text → Job → Type 0
AskForOne words job = AskFor words job × ((other : Job) → AskFor words other → other ≡ job)
