-- A job about a file has one reply, and what is done is good.
use Rattle.std.proofs.Common.{◌≡◌, ◌≤◌, ℕ, List, [], ◌∷◌, ◌++◌, Option, Some, None, inl, inr, ◌⊎◌, refl, sym, ◌∙◌, ap, subst, codes, decimal}
use Rattle.std.proofs.lemmas.Option.{none-some, same_Some}
use Rattle.pks_terms.specs.Worlds.{World}
use Rattle.pks_terms.specs.Problems.{Problem}
use Rattle.pks_terms.specs.Valid.{IsValid}
use Rattle.pks_terms.specs.Trees.{Tree, depth, IsPlan, IsBest}
use Rattle.pks_terms.specs.Knowledge.{run_of}
use Rattle.pks_terms.specs.Jobs.{Job, Check, Plan, Exec, Bench, Recall, Agent, Explain, Derive, Shared, depth_for}
use Rattle.pks_terms.specs.Printed.{Text, Refusal, name_in, none_text, refusal_text, tree_text, run_text, bench_text}
use Rattle.pks_terms.specs.Settling.{State}
use Rattle.pks_terms.specs.Recalled.{IsRecalled, recall_text}
use Rattle.pks_terms.specs.Nodes.{Node, IsShared, shared_text}
use Rattle.pks_terms.specs.Answers.{Stated, NoWorld, BadWorld, GivenWorld, File, refusal, unjustified, RefusesAdd, RefusesStart, RefusesWorld, RefusesRun, RefusesFor, NoneApplies, RefusesFile, PrintsExplained, IsDone, IsUnplanned, talk_in}
use Rattle.pks_terms.specs.Talk.{talked_text}
use Rattle.pks_laws.proofs.Accepting as accepting
use Rattle.pks_laws.proofs.BestTree.{best_one}
use Rattle.pks_laws.proofs.Validity.{valid_typed}
use Rattle.pks_recall.proofs.LeafLaws.{one_recalled, recalled_true}
use Rattle.pks_dag.proofs.SharedOnce.{shared_one}
use Rattle.pks_exec.proofs.Breaking.{one_broken}
use Rattle.pks_run_answer.specs.declared.reply.Verdict.{Verdict}
use Rattle.pks_run_answer.specs.declared.reply.Verdict.TheVariants.{Done, NoPlan, Refused}
use Rattle.pks_run_answer.specs.Goodness.{HasGoodPlan, TellsTruth}
use Rattle.pks_run_answer.specs.Replies.{IsReply, AreAlike}
use Rattle.pks_run_answer.proofs.Explaining.{explained_so}
use Rattle.pks_run_answer.proofs.Lasting.{best_is_good}

-- ---- one refusal

-- the refusal of an add
abbrev pub add_refusal : File → ℕ × ℕ → Refusal
add_refusal f x = refusal (f.add_at x.0 x.1) 260 (codes " action " ++ (name_in f.names.actions x.0 ++ (codes " effect " ++ decimal x.1)))

same_first : (x y : ℕ × ℕ) (xs ys : List (ℕ × ℕ)) → x ∷ xs ≡ y ∷ ys → x ≡ y
same_first x y xs ys e = cc

one_add : (f : File) (r q : Refusal) → RefusesAdd f r → RefusesAdd f q → r ≡ q
one_add f r q a b = a.4 ∙ ap (add_refusal f) (same_first (a.0, a.1) (b.0, b.1) a.2 b.2 (sym a.3 ∙ b.3)) ∙ sym b.4

one_world : (f : File) (w : Stated) (r q : Refusal) → RefusesWorld f w r → RefusesWorld f w q → r ≡ q
one_world f NoWorld r q a b = absurd a
one_world f (BadWorld at code) r q a b = a ∙ sym b
one_world f (GivenWorld w) r q a b = absurd a

one_run : (f : File) (w : Stated) (r q : Refusal) → RefusesRun f w r → RefusesRun f w q → r ≡ q
one_run f NoWorld r q a b = a ∙ sym b
one_run f (BadWorld at code) r q a b = absurd a
one_run f (GivenWorld w) r q a b =
    a.2 ∙ ap (λ (n : ℕ). refusal f.world_at 311 (codes " item " ++ decimal n)) (one_broken f.problem w f.problem.init 1 a.0 b.0 a.1 b.1) ∙ sym b.2

world_or_run : (f : File) (w : Stated) (r q : Refusal) → RefusesWorld f w r → RefusesRun f w q → ⊥
world_or_run f NoWorld r q a b = a
world_or_run f (BadWorld at code) r q a b = b
world_or_run f (GivenWorld w) r q a b = a

one_for : (j : Job) (f : File) (r q : Refusal) → RefusesFor j f r → RefusesFor j f q → r ≡ q
one_for Check f r q a b = one_world f f.world r q a b
one_for (Plan n) f r q a b = one_world f f.world r q a b
one_for (Exec n) f r q (inl a) (inl b) = one_world f f.world r q a b
one_for (Exec n) f r q (inl a) (inr b) = absurd (world_or_run f f.world r q a b)
one_for (Exec n) f r q (inr a) (inl b) = absurd (world_or_run f f.world q r b a)
one_for (Exec n) f r q (inr a) (inr b) = one_run f f.world r q a b
one_for (Bench n) f r q a b = absurd a
one_for (Recall n) f r q a b = one_world f f.world r q a b
one_for (Agent n) f r q a b = one_world f f.world r q a b
one_for (Explain n) f r q a b = one_world f f.world r q a b
one_for Derive f r q a b = one_world f f.world r q a b
one_for (Shared n) f r q a b = one_world f f.world r q a b

abbrev RefusesLater : Job → File → Refusal → Type 0
RefusesLater j f r = RefusesStart f r ⊎ (NoneApplies (RefusesStart f) × RefusesFor j f r)

one_later : (j : Job) (f : File) (r q : Refusal) → RefusesLater j f r → RefusesLater j f q → r ≡ q
one_later j f r q (inl a) (inl b) = a.2 ∙ sym b.2
one_later j f r q (inl a) (inr b) = absurd (b.0 r a)
one_later j f r q (inr a) (inl b) = absurd (a.0 q b)
one_later j f r q (inr a) (inr b) = one_for j f r q a.1 b.1

pub one_refusal : (j : Job) (f : File) (r q : Refusal) → RefusesFile j f r → RefusesFile j f q → r ≡ q
one_refusal j f r q (inl a) (inl b) = one_add f r q a b
one_refusal j f r q (inl a) (inr b) = absurd (b.0 r a)
one_refusal j f r q (inr a) (inl b) = absurd (a.0 q b)
one_refusal j f r q (inr a) (inr b) = one_later j f r q a.1 b.1

-- ---- one reply

one_best : (p : Problem) (n : ℕ) (t u : Option Tree) → IsBest p n t → IsBest p n u → t ≡ u
one_best p n t u a b = best_one p (λ t. IsPlan p t × (depth t ≤ n)) t u a b

pub one_tree : (p : Problem) (n : ℕ) (t u : Tree) → IsBest p n (Some t) → IsBest p n (Some u) → t ≡ u
one_tree p n t u a b = same_Some t u (one_best p n (Some t) (Some u) a b)

pub none_or_tree : (p : Problem) (n m : ℕ) (t : Tree) → Some m ≡ Some n → IsBest p n None → IsBest p m (Some t) → ⊥
none_or_tree p n m t e a b = none-some t (one_best p n None (Some t) a (subst (λ k. IsBest p k (Some t)) (same_Some m n e) b))

none_or_done : (j : Job) (f : File) (n : ℕ) (x y : Text) → depth_for j ≡ Some n → IsBest f.problem n None → IsDone j x f y → ⊥
none_or_done Check f n x y e a b = none-some n e
none_or_done (Plan m) f n x y e a b = none_or_tree f.problem n m b.0 e a b.1
none_or_done (Exec m) f n x y e a b = none_or_tree f.problem n m b.0 e a b.1
none_or_done (Bench m) f n x y e a b = none_or_tree f.problem n 2 b.0 e a b.1
none_or_done (Recall m) f n x y e a b = none_or_tree f.problem n m b.0 e a b.1
none_or_done (Agent m) f n x y e a b = none_or_tree f.problem n m b.0 e a b.1
none_or_done (Explain m) f n x y e a b = none_or_tree f.problem n m b.0 e a b.1
none_or_done Derive f n x y e a b = none-some n e
none_or_done (Shared m) f n x y e a b = none_or_tree f.problem n m b.0 e a b.1

same_world : (w v : World) → GivenWorld w ≡ GivenWorld v → w ≡ v
same_world w v e = cc

-- leaves of equal plans, and their nodes
one_recall : (f : File) (t u : Tree) (xs ys : List State) → t ≡ u → IsRecalled f.problem t xs → IsRecalled f.problem u ys → xs ≡ ys
one_recall f t u xs ys e a b = one_recalled f.problem u xs ys (subst (λ v. IsRecalled f.problem v xs) e a) b

one_nodes : (t u : Tree) (xs ys : List Node) → t ≡ u → IsShared t xs → IsShared u ys → xs ≡ ys
one_nodes t u xs ys e a b = shared_one u xs ys (subst (λ v. IsShared v xs) e a) b

one_done : (j : Job) (f : File) (i x y : Text) → IsDone j i f x → IsDone j i f y → AreAlike j f Done x y
one_done Check f i x y a b = a ∙ sym b
one_done (Plan n) f i x y a b = a.2 ∙ ap (tree_text f.names) (one_tree f.problem n a.0 b.0 a.1 b.1) ∙ sym b.2
one_done (Exec n) f i x y a b =
    let trees : a.0 ≡ b.0 = one_tree f.problem n a.0 b.0 a.1 b.1 in
    let worlds : a.2.0 ≡ b.2.0 = same_world a.2.0 b.2.0 (sym a.2.1 ∙ b.2.1) in
    a.2.2 ∙ (λ i. run_text f.names (run_of f.problem (trees i) (worlds i))) ∙ sym b.2.2
one_done (Bench n) f i x y a b = a.2 ∙ ap (bench_text n) (one_tree f.problem 2 a.0 b.0 a.1 b.1) ∙ sym b.2
one_done (Recall n) f i x y a b =
    let trees : a.0 ≡ b.0 = one_tree f.problem n a.0 b.0 a.1 b.1 in
    let leaves : a.2.0 ≡ b.2.0 = one_recall f a.0 b.0 a.2.0 b.2.0 trees a.2.1 b.2.1 in
    a.2.2 ∙ (λ i. tree_text f.names (trees i) ++ recall_text f.names (leaves i)) ∙ sym b.2.2
one_done (Agent n) f i x y a b = a.2.1 ∙ ap (λ t. talked_text (talk_in f i t)) (one_tree f.problem n a.0 b.0 a.1 b.1) ∙ sym b.2.1
one_done (Explain n) f i x y a b =
    let trees : b.0 ≡ a.0 = one_tree f.problem n b.0 a.0 b.1 a.1 in
    (a.0, a.1, (a.2, subst (λ t. PrintsExplained f y t) trees b.2))
one_done Derive f i x y a b = a ∙ sym b
one_done (Shared n) f i x y a b =
    let trees : a.0 ≡ b.0 = one_tree f.problem n a.0 b.0 a.1 b.1 in
    let nodes : a.2.0 ≡ b.2.0 = one_nodes a.0 b.0 a.2.0 b.2.0 trees a.2.1 b.2.1 in
    a.2.2 ∙ ap (shared_text f.names) nodes ∙ sym b.2.2

pub one_unplanned : (j : Job) (f : File) (x y : Text) → IsUnplanned j f x → IsUnplanned j f y → x ≡ y
one_unplanned j f x y a b = a.3 ∙ ap none_text (same_Some a.0 b.0 (sym a.1 ∙ b.1)) ∙ sym b.3

-- where there is no plan, or the file is refused, alike texts are the same
none_alike : (j : Job) (f : File) (x y : Text) → x ≡ y → AreAlike j f NoPlan x y
none_alike Check f x y e = e
none_alike (Plan n) f x y e = e
none_alike (Exec n) f x y e = e
none_alike (Bench n) f x y e = e
none_alike (Recall n) f x y e = e
none_alike (Agent n) f x y e = e
none_alike (Explain n) f x y e = e
none_alike Derive f x y e = e
none_alike (Shared n) f x y e = e

refused_alike : (j : Job) (f : File) (x y : Text) → x ≡ y → AreAlike j f Refused x y
refused_alike Check f x y e = e
refused_alike (Plan n) f x y e = e
refused_alike (Exec n) f x y e = e
refused_alike (Bench n) f x y e = e
refused_alike (Recall n) f x y e = e
refused_alike (Agent n) f x y e = e
refused_alike (Explain n) f x y e = e
refused_alike Derive f x y e = e
refused_alike (Shared n) f x y e = e

pub one_reply : (j : Job) (f : File) (v u : Verdict) (x y : Text) → IsReply j f v x → IsReply j f u y → (v ≡ u) × AreAlike j f v x y
one_reply j f Refused Refused x y a b = (refl, refused_alike j f x y (a.2 ∙ ap refusal_text (one_refusal j f a.0 b.0 a.1 b.1) ∙ sym b.2))
one_reply j f Refused NoPlan x y a b = absurd (b.0 a.0 a.1)
one_reply j f Refused Done x y a b = absurd (b.0 a.0 a.1)
one_reply j f NoPlan Refused x y a b = absurd (a.0 b.0 b.1)
one_reply j f NoPlan NoPlan x y a b = (refl, none_alike j f x y (one_unplanned j f x y a.1 b.1))
one_reply j f NoPlan Done x y a b = absurd (none_or_done j f a.1.0 [] y a.1.1 a.1.2 (b.1 []))
one_reply j f Done Refused x y a b = absurd (a.0 b.0 b.1)
one_reply j f Done NoPlan x y a b = absurd (none_or_done j f b.1.0 [] x b.1.1 b.1.2 (a.1 []))
one_reply j f Done Done x y a b = (refl, one_done j f [] x y (a.1 []) (b.1 []))

-- so another reply is like this one
pub other_reply : (j : Job) (f : File) (v u : Verdict) (x y : Text) → IsReply j f v x → IsReply j f u y → (u ≡ v) × AreAlike j f v y x
other_reply j f v u x y a b =
    let one = one_reply j f u v y x b a in
    (one.0, subst (λ w. AreAlike j f w y x) one.0 one.1)

-- ---- good plans

no_first : (xs : List (ℕ × ℕ)) → ((x : ℕ × ℕ) (rest : List (ℕ × ℕ)) → xs ≡ x ∷ rest → ⊥) → xs ≡ []
no_first [] h = refl
no_first (x ∷ xs) h = absurd (h x xs refl)

pub all_justified : (j : Job) (f : File) → NoneApplies (RefusesFile j f) → unjustified f.problem ≡ []
all_justified j f none = no_first (unjustified f.problem) (λ x rest e. none (add_refusal f x) (inl (x.0, x.1, rest, e, refl)))

pub good_reply : (j : Job) (f : File) (x : Text) → IsValid f.problem → IsReply j f Done x → HasGoodPlan j f
good_reply j f x valid a = λ n t depth best. best_is_good f.problem n t (all_justified j f a.0) valid best

-- ---- what is told of the past, and what is shown

pub told_reply : (j : Job) (f : File) (x : Text) → IsValid f.problem → IsReply j f Done x → TellsTruth j f x
told_reply Check f x valid a = tt
told_reply (Plan n) f x valid a = tt
told_reply (Exec n) f x valid a = tt
told_reply (Bench n) f x valid a = tt
told_reply (Recall n) f x valid a =
    let done = a.1 [] in
    record {
      plan = done.0;
      leaves = done.2.0;
      best = done.1;
      recalled = done.2.1;
      says = done.2.2;
      so = recalled_true f.problem done.0 done.2.0 (accepting.all_justified f.problem (all_justified (Recall n) f a.0)) (valid_typed f.problem valid) done.1.0.0 done.2.1;
    }
told_reply (Agent n) f x valid a = tt
told_reply (Explain n) f x valid a =
    let done = a.1 [] in
    record {
      plan = done.0;
      entries = done.2.0;
      best = done.1;
      explained = done.2.1;
      says = done.2.2;
      so = explained_so f.problem done.0 done.2.0 valid done.1.0.0 done.2.1;
    }
told_reply Derive f x valid a = tt
told_reply (Shared n) f x valid a = tt
