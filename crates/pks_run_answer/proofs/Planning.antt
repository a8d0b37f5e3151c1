-- From the best plan, as a text, to the reply.
use Rattle.std.proofs.Common.{◌≡◌, ◌≤◌, ◌<◌, ◌^◌, ◌++◌, ◌∙◌, ℕ, List, Option, Some, None, IsSome, refl, ap₂, subst, arith}
use Rattle.pks_terms.specs.Worlds as worlds
use Rattle.pks_terms.specs.Problems.{Problem}
use Rattle.pks_terms.specs.Trees.{Tree, depth, start_state, IsBest}
use Rattle.pks_terms.specs.Knowledge.{run_of}
use Rattle.pks_terms.specs.Jobs.{Plan, Exec, Bench, Recall, Explain, Derive, Shared}
use Rattle.pks_terms.specs.Printed.{Text, Names, nodes_of, tree_text, run_text, bench_text}
use Rattle.pks_terms.specs.Explained.{Entry, IsExplained, explained_text}
use Rattle.pks_terms.specs.Nodes.{Node, IsShared, shared_text}
use Rattle.pks_terms.specs.Shapes.{derive_text}
use Rattle.pks_terms.specs.Answers.{Stated, GivenWorld, File, RefusesFile, NoneApplies}
use Rattle.pks_world.specs.Contents.{world_of}
use Rattle.pks_world.specs.declared.worlds.World.{World}
use Rattle.pks_run_bench.proofs.Sizes.{plans_small}
use Rattle.pks_recall.specs.Walking.{Recalls}
use Rattle.pks_run_answer.specs.declared.reply.Verdict.{Verdict}
use Rattle.pks_run_answer.specs.declared.reply.Verdict.TheVariants.{Done, NoPlan, Refused}
use Rattle.pks_run_answer.specs.declared.plans.Product.{Product}
use Rattle.pks_run_answer.specs.declared.plans.Product.TheVariants as product_is
use Rattle.pks_run_answer.specs.Accepting.{IsRunIn}
use Rattle.pks_run_answer.specs.Replies.{CanBeMade, CanBeMadeOf, Plans, Says, SaysRecalled, SaysExplained, SaysShared, IsReply}

pub best_depth : (p : Problem) (n : ℕ) (t : Tree) → IsBest p n (Some t) → depth t ≤ n
best_depth p n t best = best.0.1

-- plans over the generated file are small
pub best_nodes : (p : Problem) (t : Tree) → IsBest p 2 (Some t) → nodes_of t < 2 ^ 64
best_nodes p t best =
    let small : nodes_of t ≤ 273 = plans_small p (start_state best.0.0.outcome) t best.0.0.derives best.0.1 in
    omega (arith, small)

-- so what can be made of a plan to the depth can be made of the best one
pub can_be_made : (x : Product) (p : Problem) (n : ℕ) (t : Tree) → IsBest p n (Some t) → CanBeMade n x → CanBeMadeOf t x
can_be_made product_is.Plain p n t best can = tt
can_be_made (product_is.Run w) p n t best can = tt
can_be_made product_is.Recalled p n t best can = tt
can_be_made product_is.Explained p n t best can = tt
can_be_made product_is.Shared p n t best can = tt
can_be_made (product_is.BenchLine m file) p n t best can = (can.0, best_nodes p t (subst (λ k. IsBest p k (Some t)) can.1 best))

-- a run has its world
pub run_is_given : (n : ℕ) (s : Stated) (w : Option World) → IsRunIn (Exec n) s w → IsSome w
run_is_given n s None run = absurd run
run_is_given n s (Some v) run = refl

-- and it is the stated one
pub run_is_stated : (n : ℕ) (s : Stated) (w : Option World) (v : World) → w ≡ Some v → IsRunIn (Exec n) s w → s ≡ GivenWorld (world_of v)
run_is_stated n s w v e run = subst (λ (o : Option World). IsRunIn (Exec n) s o) e run

pub plan_reply : (n : ℕ) (f : File) (v : Verdict) (x : Text) → NoneApplies (RefusesFile (Plan n) f) → Plans f.problem n (Says (tree_text f.names)) v x → IsReply (Plan n) f v x
plan_reply n f Done x none plans = (none, λ input. plans)
plan_reply n f NoPlan x none plans = (none, (n, refl, plans.0, plans.1))
plan_reply n f Refused x none plans = absurd plans

pub run_reply : (n : ℕ) (f : File) (w : worlds.World) (v : Verdict) (x : Text) → f.world ≡ GivenWorld w → NoneApplies (RefusesFile (Exec n) f) → Plans f.problem n (Says (λ t. run_text f.names (run_of f.problem t w))) v x → IsReply (Exec n) f v x
run_reply n f w Done x given none plans = (none, λ input. (plans.0, plans.1, (w, given, plans.2)))
run_reply n f w NoPlan x given none plans = (none, (n, refl, plans.0, plans.1))
run_reply n f w Refused x given none plans = absurd plans

pub bench_reply : (n : ℕ) (f : File) (v : Verdict) (x : Text) → NoneApplies (RefusesFile (Bench n) f) → Plans f.problem 2 (Says (bench_text n)) v x → IsReply (Bench n) f v x
bench_reply n f Done x none plans = (none, λ input. plans)
bench_reply n f NoPlan x none plans = (none, (2, refl, plans.0, plans.1))
bench_reply n f Refused x none plans = absurd plans

pub recall_reply : (n : ℕ) (f : File) (v : Verdict) (x : Text) → NoneApplies (RefusesFile (Recall n) f) → Plans f.problem n (SaysRecalled f.problem f.names) v x → IsReply (Recall n) f v x
recall_reply n f Done x none plans = (none, λ input. plans)
recall_reply n f NoPlan x none plans = (none, (n, refl, plans.0, plans.1))
recall_reply n f Refused x none plans = absurd plans

pub explain_reply : (n : ℕ) (f : File) (v : Verdict) (x : Text) → NoneApplies (RefusesFile (Explain n) f) → Plans f.problem n (SaysExplained f.problem f.names) v x → IsReply (Explain n) f v x
explain_reply n f Done x none plans = (none, λ input. plans)
explain_reply n f NoPlan x none plans = (none, (n, refl, plans.0, plans.1))
explain_reply n f Refused x none plans = absurd plans

pub derive_reply : (f : File) (x : Text) → NoneApplies (RefusesFile Derive f) → x ≡ derive_text f.names f.parameters f.problem → IsReply Derive f Done x
derive_reply f x none e = (none, λ input. e)

pub shared_reply : (n : ℕ) (f : File) (v : Verdict) (x : Text) → NoneApplies (RefusesFile (Shared n) f) → Plans f.problem n (SaysShared f.names) v x → IsReply (Shared n) f v x
shared_reply n f Done x none plans = (none, λ input. plans)
shared_reply n f NoPlan x none plans = (none, (n, refl, plans.0, plans.1))
shared_reply n f Refused x none plans = absurd plans

-- ---- texts that are made of a plan and more

pub says_recalled : (p : Problem) (names : Names) (t : Tree) (front behind text : Text) → front ≡ tree_text names t → Recalls p names t behind → text ≡ front ++ behind → SaysRecalled p names text t
says_recalled p names t front behind text e r f = (r.leaves, r.recalled, f ∙ ap₂ (λ x y. x ++ y) e r.says)

pub says_explained : (p : Problem) (names : Names) (t : Tree) (es : List Entry) (front behind text : Text) → front ≡ tree_text names t → IsExplained p t es → behind ≡ explained_text names es → text ≡ front ++ behind → SaysExplained p names text t
says_explained p names t es front behind text e explained says f = (es, explained, f ∙ ap₂ (λ x y. x ++ y) e says)

pub says_shared : (names : Names) (t : Tree) (nodes : List Node) (text : Text) → IsShared t nodes → text ≡ shared_text names nodes → SaysShared names text t
says_shared names t nodes text shared e = (nodes, shared, e)
