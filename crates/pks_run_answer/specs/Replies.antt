-- What is replied to a job about a file that was read.
use Rattle.std.specs.Prelude.{◌≡◌, ◌<◌, ◌^◌, ◌++◌, ℕ, List, Some, None}
use Rattle.pks_terms.specs.Problems.{Problem}
use Rattle.pks_terms.specs.Trees.{Tree, IsBest}
use Rattle.pks_terms.specs.Jobs.{Job, Agent, Explain}
use Rattle.pks_terms.specs.Printed.{Text, Names, Refusal, generated, nodes_of, tree_text, run_text, bench_text, none_text, refusal_text}
use Rattle.pks_terms.specs.Knowledge.{run_of}
use Rattle.pks_terms.specs.Settling.{State}
use Rattle.pks_terms.specs.Recalled.{IsRecalled, recall_text}
use Rattle.pks_terms.specs.Explained.{Entry, IsExplained, explained_text}
use Rattle.pks_terms.specs.Nodes.{Node, IsShared, shared_text}
use Rattle.pks_terms.specs.Answers.{File, RefusesFile, NoneApplies, IsOfBest, PrintsExplained, IsDone, IsUnplanned, text_for}
use Rattle.pks_world.specs.Contents.{world_of}
use Rattle.pks_plan.specs.TreeViews.{tree_of}
use Rattle.pks_run_answer.specs.declared.leads.Lead.{Lead}
use Rattle.pks_run_answer.specs.declared.leads.Lead.TheVariants as lead_is
use Rattle.pks_run_answer.specs.declared.plans.Planned.{Planned}
use Rattle.pks_run_answer.specs.declared.plans.Planned.TheVariants as planned_is
use Rattle.pks_run_answer.specs.declared.plans.Product.{Product}
use Rattle.pks_run_answer.specs.declared.plans.Product.TheVariants as product_is
use Rattle.pks_run_answer.specs.Goodness.{HasGoodPlan, TellsTruth}
use Rattle.pks_run_answer.specs.declared.reply.Verdict.{Verdict}
use Rattle.pks_run_answer.specs.declared.reply.Verdict.TheVariants.{Done, NoPlan, Refused}

-- the job is about this text alone: any, but for a job about the generated file; no dialogue is, since it hangs on its answers too
abbrev pub IsAbout : Job → Text → Type 0
IsAbout (Agent n) text = ⊥
IsAbout j text = text_for j text ≡ text

-- a text that is made of the plan alone
abbrev pub Says : (Tree → Text) → Text → Tree → Type 0
Says shown text t = text ≡ shown t

-- the plan, and what each of its leaves knows of every moment
abbrev pub SaysRecalled : Problem → Names → Text → Tree → Type 0
SaysRecalled p names text t = (xs : List State) × IsRecalled p t xs × (text ≡ tree_text names t ++ recall_text names xs)

-- the plan, and a proof of each literal that it rests on
abbrev pub SaysExplained : Problem → Names → Text → Tree → Type 0
SaysExplained p names text t = (es : List Entry) × IsExplained p t es × (text ≡ tree_text names t ++ explained_text names es)

-- the plan with its equal parts once
abbrev pub SaysShared : Names → Text → Tree → Type 0
SaysShared names text t = (nodes : List Node) × IsShared t nodes × (text ≡ shared_text names nodes)

-- what is made of the plan
abbrev pub SaysMade : Problem → Names → Product → Text → Tree → Type 0
SaysMade p names product_is.Plain = Says (tree_text names)
SaysMade p names (product_is.Run w) = Says (λ t. run_text names (run_of p t (world_of w.now)))
SaysMade p names product_is.Recalled = SaysRecalled p names
SaysMade p names product_is.Explained = SaysExplained p names
SaysMade p names product_is.Shared = SaysShared names
SaysMade p names (product_is.BenchLine n file) = Says (bench_text n)

-- it can be made of a plan to this depth: the line of the generated file, of one to depth 2
abbrev pub CanBeMade : ℕ → Product → Type 0
CanBeMade depth (product_is.BenchLine n file) = (file.now ≡ generated n) × (depth ≡ 2)
CanBeMade depth product = Unit {0}

-- it can be made of this plan
abbrev pub CanBeMadeOf : Tree → Product → Type 0
CanBeMadeOf t (product_is.BenchLine n file) = (file.now ≡ generated n) × (nodes_of t < 2 ^ 64)
CanBeMadeOf t product = Unit {0}

-- the best plan to the depth, or the line that there is none
abbrev pub IsPlanned : Problem → ℕ → Planned → Type 0
IsPlanned p n (planned_is.Plan t) = IsBest p n (Some (tree_of t))
IsPlanned p n (planned_is.NoPlan line) = IsBest p n None × (line.items ≡ none_text n)

-- the best plan to the depth, of which the text says this, or that there is none
abbrev pub Plans : Problem → ℕ → (Text → Tree → Type 0) → Verdict → Text → Type 0
Plans p n S Done text = (t : Tree) × IsBest p n (Some t) × S text t
Plans p n S NoPlan text = IsBest p n None × (text ≡ none_text n)
Plans p n S Refused text = ⊥

-- verdict and text are the reply, whatever stands in the input behind the file
abbrev pub IsReply : Job → File → Verdict → Text → Type 0
IsReply j f Refused text = (r : Refusal) × RefusesFile j f r × (text ≡ refusal_text r)
IsReply j f NoPlan text = NoneApplies (RefusesFile j f) × IsUnplanned j f text
IsReply j f Done text = NoneApplies (RefusesFile j f) × ((input : Text) → IsDone j input f text)

-- ---- replies that are alike

-- both texts are the best plan with an explanation of it: they show the same literals at the ends of the same paths, and differ in their proofs alone
abbrev pub DifferInProofs : ℕ → File → Text → Text → Type 0
DifferInProofs n f text other = IsOfBest n f (λ t. PrintsExplained f text t × PrintsExplained f other t)

-- two explanations with this verdict
abbrev pub ExplainAlike : ℕ → File → Verdict → Text → Text → Type 0
ExplainAlike n f Done text other = DifferInProofs n f text other
ExplainAlike n f NoPlan text other = text ≡ other
ExplainAlike n f Refused text other = text ≡ other

-- two texts with this verdict are the same, but for the proofs of an explanation
abbrev pub AreAlike : Job → File → Verdict → Text → Text → Type 0
AreAlike (Explain n) f v text other = ExplainAlike n f v text other
AreAlike j f v text other = text ≡ other

-- verdict and text are the reply, no other is unless it is alike, and of a job that is done the plan is good and what is told or shown was so
pub record RepliesTo (j : Job) (f : File) (v : Verdict) (text : Text) : Type 0 where
  pub reply : IsReply j f v text
  pub only : (other : Verdict) (t : Text) → IsReply j f other t → (other ≡ v) × AreAlike j f v t text
  pub good : v ≡ Done → HasGoodPlan j f
  pub told : v ≡ Done → TellsTruth j f text

-- ---- dialogues

-- what a dialogue to this depth about the file begins with: its first refusal, or that there is no plan, or the best one
abbrev pub IsLead : ℕ → File → Lead → Type 0
IsLead n f (lead_is.Refused text) = (r : Refusal) × RefusesFile (Agent n) f r × (text.items ≡ refusal_text r)
IsLead n f (lead_is.NoPlan text) = NoneApplies (RefusesFile (Agent n) f) × IsUnplanned (Agent n) f text.items
IsLead n f (lead_is.Plan t) = NoneApplies (RefusesFile (Agent n) f) × IsBest f.problem n (Some (tree_of t))
