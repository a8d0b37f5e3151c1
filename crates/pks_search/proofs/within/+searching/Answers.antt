use Rattle.std.proofs.Common.{◌≡◌, ◌<◌, ◌≤◌, ◌+◌, ◌-◌, ◌*◌, ◌++◌, [], ◌∷◌, ℕ, min, not, true, false, List, map, length, get_or, take, drop, Some, None, IfSome, option_map, refl, sym, ap, ◌∙◌, subst, arith, append-nil}
use Rattle.std.proofs.lemmas.List.{length-map}
use Rattle.std.proofs.lemmas.Result.{IfOk-weaker}
use Rattle.pks_terms.specs.Sets.{Each, IsIn, IsOrdered}
use Rattle.pks_terms.specs.Signatures.{range_of}
use Rattle.pks_terms.specs.Databases.{Five}
use Rattle.pks_terms.specs.Closure.{Next}
use Rattle.pks_terms.specs.Branching.{choices, left, Act, BranchOn, CasesOn, Is}
use Rattle.pks_terms.specs.Settling.{last_moment, pushed, with_last, At, Stopped, Settles}
use Rattle.pks_terms.specs.Trees.{Impossible, cost, IsBestOf}
use Rattle.pks_terms.specs.Views.{term_of, conj_of, object_of, instance_of, problem_of}
use Rattle.pks_terms.specs.Moments.{IsMomentOf, AreMomentsOf}
use Rattle.pks_query_lookup.specs.Fives.{five_of}
use Rattle.pks_query.specs.Steps.{outcome_of}
use Rattle.pks_postdict.specs.Ends.{state_of, IfAt}
use Rattle.pks_postdict.specs.Read.{IsReadBut}
use Rattle.pks_plan.specs.TreeViews.{tree_of, chain_of}
use Rattle.pks_branch.specs.ChoiceOrder.{choice_cmp}
use Rattle.pks_terms.specs.ChoiceViews.{choice_of, side_of}
use Rattle.pks_branch.specs.WalkViews.{left_in}
use Rattle.pks_branch.specs.Walks.{IsNext}
use Rattle.pks_search_nogoods.specs.Failing.{HasNoTree}
use Rattle.pks_search_nogoods.specs.Finds.{IsAnswer, IsFound}
use Rattle.pks_search.specs.Ready.{IsReady}
use Rattle.pks_search.specs.Limits.{IsBestWithin, IsCheapBy, IsCheapAmong, IsBestAfter, IsBestTaking, AreBestCheapCases}
use Rattle.pks_search_nogoods.proofs.Costs.{costs_at_most}
use Rattle.pks_search.proofs.Limited.{cheap_stopped, cheap_goal, price, dear_act, dear_branch, dear_cases}
use Rattle.pks_search.proofs.Found.{found_first, found_more, found_none, found_some, found_all, none_at_depth, none_at_cost, costs_some}
use Rattle.pks_search.proofs.OtherGoal.{ready_without, each_near_other}
use Rattle.pks_search.proofs.Shelving.{shelved_on}
use Rattle.pks_search.proofs.Unmet.{unmet_is, taken_is, unmet_valid, still_unmet, best_within_back}
use Rattle.pks_terms.specs.Aims.{met}
use Rattle.pks_terms.specs.ValidProblems.{IsValidProblem}
use Rattle.pks_search.proofs.Looping.{in_rest, less_before, shorter, first_and_others, none_left}
use Rattle.pks_search.proofs.Readiness.{ready_last, ready_acted, ready_taken, chosen_action, chosen_branch, chosen_cases, few_left, left_in_range}
use Rattle.pks_search.proofs.Children.{after_clash, after_next, taking_clash, taking_next, takes, found_act, found_sides, no_side, found_cases, chain_found, chain_no_first, chain_no_rest, chain_empty, acted}
use Rattle.pks_search.proofs.LettingGo.{rest_ready, rest_unmet, best_of_rest}
use Rattle.pks_search.specs.Near.{IsNear, AreNearAfter, is_far, is_tight}
use Rattle.pks_search.specs.Spots.{MayGoOn}
use Rattle.pks_search.specs.Straight.{HasTreesWithin, LastFails}
use Rattle.pks_search.proofs.Straight.{none_straight}
use Rattle.pks_laws.proofs.Validity.{valid_typed}
use Rattle.pks_search.proofs.Witnessed.{each_first, each_other, near_counted, left_near, acted_near, joined_near, taken_near, none_near, none_branching, none_splitting, none_acting}
use Rattle.pks_terms.proofs.ListLaws.{each_weaker}
use Rattle.pks_search_witness.specs.Apart.{first_in, second_in}
use Rattle.pks_search.specs.Twins.{AreTwins, SomeMet}
use Rattle.pks_search.proofs.Twinned.{acted_each, taken_each, none_meeting}
use Rattle.pks_search.proofs.within.+searching.Goals as goal
use Rattle.pks_search.proofs.within.+searching.Goals.{best_within-then-n-eq0-via-then-n-eq0, best_within-then-n-eq0-via-else-n-eq0+then-limit-eq0}

-- ---- after an action

pub best_after-progress-requires-clause-moment : goal.best_after-progress-requires-clause-moment
best_after-progress-requires-clause-moment t c = subst (IsMomentOf (problem_of c.args.spot.now.problem.now).signature) (sym c.last.ensures) (ready_last c.args.spot.now.problem.now c.args.spot.now.history.now c.args.spot.now.unread (c.args.n + 1) c.requires.spot.ready)

pub best_after-returns-in-Clash-clause-best : goal.best_after-returns-in-Clash-clause-best
best_after-returns-in-Clash-clause-best t c =
    after_clash (problem_of c.args.spot.now.problem.now) c.args.spot.now.history.now c.args.n c.args.limit (instance_of c.args.step.now) (five_of c.last.result.now) (outcome_of c.in_ok-progress.field-0) _ c.last.ensures (ap outcome_of c.in-Clash.is) c.in_ok-progress.ensures.progress

pub best_after-best_within-requires : goal.best_after-best_within-requires
best_after-best_within-requires t c =
    let p = problem_of c.args.spot.now.problem.now in
    let less : c.args.n * 32 + 4 < t = omega (arith, c.decreases) in
    let i = instance_of c.args.step.now in
    let h = c.args.spot.now.history.now in
    let progress = acted p h i (five_of c.last.result.now) (five_of c.in-Next.d) (outcome_of c.in_ok-progress.field-0) c.last.ensures (ap outcome_of c.in-Next.is) c.in_ok-progress.ensures.progress in
    let r = c.requires.spot.ready in
    let k = each_other (IsNear p h) c.args.spot.now.near.now c.others_of.result.now c.others_of.ensures c.requires.spot.near in
    let all = joined_near p r.justified (valid_typed p r.valid.says) h i c.others_of.result.now c.args.worlds.first.items c.in_ok-others-in-Next.others.items c.in_ok-after-in-Next.after.items c.requires.chosen k c.requires.near c.in_ok-others-in-Next.ensures.becomes c.in_ok-after-in-Next.ensures in
    let near = all (pushed h i (five_of c.in-Next.d)) (record { outcome = Next (five_of c.in-Next.d); progress = progress; gives = refl }) in
    let ready = ready_acted c.args.spot.now.problem.now h c.args.spot.now.unread c.args.n i (five_of c.in-Next.d) c.requires.spot.ready c.requires.chosen progress in
    let same = sym c.in_ok-longer-in-Next.ensures in
    let twins = c.requires.twins (pushed h i (five_of c.in-Next.d)) (record { outcome = Next (five_of c.in-Next.d); progress = progress; gives = refl }) in
    let both = subst (Each (AreTwins p c.in_ok-longer-in-Next.longer)) (sym c.as_slice-in-Next.ensures.value) (subst (λ g. Each (AreTwins p g) c.args.worlds.twins.items) same twins) in
    (less, (record { ready = subst (λ g. IsReady c.args.spot.now.problem.now g (c.args.spot.now.unread + 1) c.args.n) same ready; near = subst (Each (IsNear p c.in_ok-longer-in-Next.longer)) (sym c.as_slice.ensures.value) (subst (λ g. Each (IsNear p g) c.in_ok-after-in-Next.after.items) same near); twins = both }, record { own = record { ground_actions = c.in_ok-others-in-Next.ensures.ground_actions; failures = c.requires.notes.own.failures; finds = c.requires.notes.own.finds }; shelf = c.requires.notes.shelf }))

pub best_after-near_after-requires-clause-counted : goal.best_after-near_after-requires-clause-counted
best_after-near_after-requires-clause-counted t c =
    let p = problem_of c.args.spot.now.problem.now in
    let h = c.args.spot.now.history.now in
    near_counted p h c.others_of.result.now (each_other (IsNear p h) c.args.spot.now.near.now c.others_of.result.now c.others_of.ensures c.requires.spot.near)

pub best_after-returns-in_ok-longer-in-Next-clause-best : goal.best_after-returns-in_ok-longer-in-Next-clause-best
best_after-returns-in_ok-longer-in-Next-clause-best t c =
    let p = problem_of c.args.spot.now.problem.now in
    let i = instance_of c.args.step.now in
    IfOk-weaker c.best_within.result (λ o. IsBestWithin p (At c.in_ok-longer-in-Next.longer) c.args.n c.args.limit (option_map tree_of o)) (λ o. IsBestAfter p c.args.spot.now.history.now i c.args.n c.args.limit (option_map tree_of o))
    (λ o b. after_next p c.args.spot.now.history.now c.args.n c.args.limit i (five_of c.last.result.now) (five_of c.in-Next.d) (outcome_of c.in_ok-progress.field-0) (option_map tree_of o) c.last.ensures (ap outcome_of c.in-Next.is) c.in_ok-progress.ensures.progress
    (subst (λ g. IsBestWithin p (At g) c.args.n c.args.limit (option_map tree_of o)) c.in_ok-longer-in-Next.ensures b))
    c.best_within.ensures.best

pub best_by_action-returns-then-limit-own-clause-best : goal.best_by_action-returns-then-limit-own-clause-best
best_by_action-returns-then-limit-own-clause-best t c =
    let dear : c.args.limit < price (problem_of c.args.spot.now.problem.now) (instance_of c.args.step.now) = omega (arith, c.if-limit-own.true, c.action_cost-own.ensures) in
    dear_act (problem_of c.args.spot.now.problem.now) c.args.spot.now.history.now (c.args.n + 1) (instance_of c.args.step.now) c.args.limit dear

pub best_by_action-returns-clause-best : goal.best_by_action-returns-clause-best
best_by_action-returns-clause-best t c =
    let p = problem_of c.args.spot.now.problem.now in
    let i = instance_of c.args.step.now in
    IfOk-weaker c.act.result _ (λ o. IsBestOf p (IsCheapBy p c.args.spot.now.history.now (c.args.n + 1) c.args.limit (Act i)) (option_map tree_of o))
    (λ o e. found_act p c.args.spot.now.history.now c.args.n c.args.limit c.action_cost-own.result i (option_map tree_of c.in_ok-next.next) (option_map tree_of o) c.requires.chosen c.action_cost-own.ensures c.if-limit-own.false c.in_ok-next.ensures.best e)
    c.act.ensures

-- ---- branches

pub best_by_branch-returns-then-limit-eq0-clause-best : goal.best_by_branch-returns-then-limit-eq0-clause-best
best_by_branch-returns-then-limit-eq0-clause-best t c =
    let p = problem_of c.args.spot.now.problem.now in
    let test = conj_of c.args.test.now in
    subst (λ l. IsBestOf p (IsCheapBy p c.args.spot.now.history.now (c.args.n + 1) l (BranchOn test)) None) (sym c.if-limit-eq0.true) (dear_branch p c.args.spot.now.history.now (c.args.n + 1) test)

pub best_by_branch-returns-then-is_beyond-clause-best : goal.best_by_branch-returns-then-is_beyond-clause-best
best_by_branch-returns-then-is_beyond-clause-best t c =
    let p = problem_of c.args.spot.now.problem.now in
    let r = c.requires.spot.ready in
    let far : is_far c.args.spot.now.near.now (min c.args.n (c.args.limit - 1)) ≡ true = sym (c.is_beyond.ensures ∙ ap (is_far c.args.spot.now.near.now) c.min.ensures) ∙ c.if-is_beyond.true in
    none_branching p r.justified (valid_typed p r.valid.says) c.args.spot.now.history.now r.valid.says c.args.spot.now.near.now c.args.n c.args.limit (conj_of c.args.test.now) c.requires.spot.near far

pub best_by_branch-returns-clause-best : goal.best_by_branch-returns-clause-best
best_by_branch-returns-clause-best t c =
    let p = problem_of c.args.spot.now.problem.now in
    let h = c.args.spot.now.history.now in
    let test = conj_of c.args.test.now in
    let one = subst (λ o. IsBestTaking p h (BranchOn test) (side_of c.side_on.result) c.args.n (c.args.limit - 1) (option_map tree_of o)) c.in-Some.is c.in_ok-one.ensures.best in
    let other = subst (λ o. IsBestTaking p h (BranchOn test) (side_of c.side_on-2.result) c.args.n (c.args.limit - 1) (option_map tree_of o)) c.in-Some-2.is c.in_ok-other.ensures.best in
    found_sides p h c.args.n c.args.limit test (not c.is_first_on-is_true.result) (side_of c.side_on.result) (side_of c.side_on-2.result) (tree_of c.in-Some.one) (tree_of c.in-Some-2.other) (tree_of c.in_ok-tree.tree) c.if-limit-eq0.false c.requires.member c.requires.undecided c.side_on.ensures c.side_on-2.ensures one other c.in_ok-tree.ensures

pub best_by_branch-returns-in_default-clause-best : goal.best_by_branch-returns-in_default-clause-best
best_by_branch-returns-in_default-clause-best t c =
    no_side (problem_of c.args.spot.now.problem.now) c.args.spot.now.history.now c.args.n c.args.limit (conj_of c.args.test.now) (not c.is_first_on-is_true.result) (side_of c.side_on.result) (option_map tree_of c.in_ok-one.field-0) c.if-limit-eq0.false c.side_on.ensures (ap (option_map tree_of) c.in_default.is) c.in_ok-one.ensures.best

pub best_by_branch-returns-in_default-2-clause-best : goal.best_by_branch-returns-in_default-2-clause-best
best_by_branch-returns-in_default-2-clause-best t c =
    no_side (problem_of c.args.spot.now.problem.now) c.args.spot.now.history.now c.args.n c.args.limit (conj_of c.args.test.now) (not (not c.is_first_on-is_true.result)) (side_of c.side_on-2.result) (option_map tree_of c.in_ok-other.field-0) c.if-limit-eq0.false c.side_on-2.ensures (ap (option_map tree_of) c.in_default-2.is) c.in_ok-other.ensures.best

-- ---- cases

pub best_by_cases-best_chain-requires : goal.best_by_cases-best_chain-requires
best_by_cases-best_chain-requires t c =
    let s = (problem_of c.args.spot.now.problem.now).signature in
    let d = last_moment c.args.spot.now.history.now in
    let x = term_of c.args.term.now in
    let all : map object_of c.as_slice.result.now ≡ left s d x = ap (map object_of) c.as_slice.ensures ∙ (c.in_ok-objects.ensures ∙ ap (λ (e : Five). left s e x) c.last.ensures) in
    let same : length (map object_of c.as_slice.result.now) ≡ length c.as_slice.result.now = length-map c.as_slice.result.now object_of in
    let most : length (left s d x) ≤ 16 = few_left s d x c.requires.splits in
    let equal : length (map object_of c.as_slice.result.now) ≡ length (left s d x) = ap (λ (ds : List ℕ). length ds) all in
    let few : length c.as_slice.result.now ≤ 16 = omega arith in
    let less : c.args.n * 32 + 6 + length c.as_slice.result.now < t = omega (arith, c.decreases) in
    (less, (c.requires.spot, (c.requires.member, (subst (Each (λ e. IsIn e (range_of s x))) (sym all) (left_in_range s d x), (few, c.requires.notes)))))

pub best_by_cases-returns-then-limit-eq0-clause-best : goal.best_by_cases-returns-then-limit-eq0-clause-best
best_by_cases-returns-then-limit-eq0-clause-best t c =
    let p = problem_of c.args.spot.now.problem.now in
    let x = term_of c.args.term.now in
    subst (λ l. IsBestOf p (IsCheapBy p c.args.spot.now.history.now (c.args.n + 1) l (CasesOn x)) None) (sym c.if-limit-eq0.true) (dear_cases p c.args.spot.now.history.now (c.args.n + 1) x)

pub best_by_cases-returns-then-is_beyond-clause-best : goal.best_by_cases-returns-then-is_beyond-clause-best
best_by_cases-returns-then-is_beyond-clause-best t c =
    let p = problem_of c.args.spot.now.problem.now in
    let r = c.requires.spot.ready in
    let far : is_far c.args.spot.now.near.now (min c.args.n (c.args.limit - 1)) ≡ true = sym (c.is_beyond.ensures ∙ ap (is_far c.args.spot.now.near.now) c.min.ensures) ∙ c.if-is_beyond.true in
    none_splitting p r.justified (valid_typed p r.valid.says) c.args.spot.now.history.now r.valid.says c.args.spot.now.near.now c.args.n c.args.limit (term_of c.args.term.now) c.requires.spot.near far

pub best_by_cases-returns-clause-best : goal.best_by_cases-returns-clause-best
best_by_cases-returns-clause-best t c =
    let p = problem_of c.args.spot.now.problem.now in
    let x = term_of c.args.term.now in
    let d = last_moment c.args.spot.now.history.now in
    let all : map object_of c.as_slice.result.now ≡ left p.signature d x = ap (map object_of) c.as_slice.ensures ∙ (c.in_ok-objects.ensures ∙ ap (λ (e : Five). left p.signature e x) c.last.ensures) in
    IfOk-weaker c.cases.result _ (λ o. IsBestOf p (IsCheapBy p c.args.spot.now.history.now (c.args.n + 1) c.args.limit (CasesOn x)) (option_map tree_of o))
    (λ o e. found_cases p c.args.spot.now.history.now c.args.n c.args.limit x (option_map chain_of c.in_ok-chain.chain) (option_map tree_of o) c.if-limit-eq0.false c.requires.member c.requires.splits
    (subst (λ ds. AreBestCheapCases p c.args.spot.now.history.now x c.args.n (c.args.limit - 1) ds (option_map chain_of c.in_ok-chain.chain)) all c.in_ok-chain.ensures.best) e)
    c.cases.ensures

pub best_chain-returns-in_default-clause-best : goal.best_chain-returns-in_default-clause-best
best_chain-returns-in_default-clause-best t c =
    chain_empty (problem_of c.args.spot.now.problem.now) c.args.spot.now.history.now c.args.n c.args.limit (term_of c.args.term.now) (map object_of c.args.objects.now) (none_left object_of c.args.objects.now c.in_default.len_below)

pub best_chain-returns-clause-best : goal.best_chain-returns-clause-best
best_chain-returns-clause-best t c =
    let p = problem_of c.args.spot.now.problem.now in
    let x = term_of c.args.term.now in
    let all = c.args.objects.now in
    let object = get_or all 0 (record { 0 = 0 }) in
    let split = first_and_others object_of all (record { 0 = 0 }) c.in-len1-up.len_at_least in
    let first : IsBestTaking p c.args.spot.now.history.now (CasesOn x) (Is object.0) c.args.n c.args.limit (Some (tree_of c.in-Some.tree)) = subst (λ o. IsBestTaking p c.args.spot.now.history.now (CasesOn x) (Is object.0) c.args.n c.args.limit (option_map tree_of o)) c.in-Some.is c.in_ok-tree.ensures.best in
    let others : AreBestCheapCases p c.args.spot.now.history.now x c.args.n c.args.limit (map object_of (take (length all - 1) (drop 1 all))) (Some (chain_of c.in_ok-rest-2.rest.value)) = subst (λ o. AreBestCheapCases p c.args.spot.now.history.now x c.args.n c.args.limit (map object_of (take (length all - 1) (drop 1 all))) (option_map chain_of o)) (c.in-Some-2.is ∙ ap Some (sym c.in_ok-rest-2.ensures.ok)) c.in_ok-rest.ensures.best in
    chain_found p c.args.spot.now.history.now c.args.n c.args.limit x object.0 (map object_of (take (length all - 1) (drop 1 all))) (map object_of all) (tree_of c.in-Some.tree) (chain_of c.in_ok-rest-2.rest.value) split first others

pub best_chain-returns-in_default-2-clause-best : goal.best_chain-returns-in_default-2-clause-best
best_chain-returns-in_default-2-clause-best t c =
    let p = problem_of c.args.spot.now.problem.now in
    let x = term_of c.args.term.now in
    let all = c.args.objects.now in
    let object = get_or all 0 (record { 0 = 0 }) in
    let split = first_and_others object_of all (record { 0 = 0 }) c.in-len1-up.len_at_least in
    chain_no_first p c.args.spot.now.history.now c.args.n c.args.limit x object.0 (map object_of (take (length all - 1) (drop 1 all))) (map object_of all) (option_map tree_of c.in_ok-tree.field-0) split (ap (option_map tree_of) c.in_default-2.is) c.in_ok-tree.ensures.best

pub best_chain-returns-in_default-3-clause-best : goal.best_chain-returns-in_default-3-clause-best
best_chain-returns-in_default-3-clause-best t c =
    let p = problem_of c.args.spot.now.problem.now in
    let x = term_of c.args.term.now in
    let all = c.args.objects.now in
    let object = get_or all 0 (record { 0 = 0 }) in
    let split = first_and_others object_of all (record { 0 = 0 }) c.in-len1-up.len_at_least in
    let first : IsBestTaking p c.args.spot.now.history.now (CasesOn x) (Is object.0) c.args.n c.args.limit (Some (tree_of c.in-Some.tree)) = subst (λ o. IsBestTaking p c.args.spot.now.history.now (CasesOn x) (Is object.0) c.args.n c.args.limit (option_map tree_of o)) c.in-Some.is c.in_ok-tree.ensures.best in
    chain_no_rest p c.args.spot.now.history.now c.args.n c.args.limit x object.0 (map object_of (take (length all - 1) (drop 1 all))) (map object_of all) (tree_of c.in-Some.tree) (option_map chain_of c.in_ok-rest.field-0) split first (ap (option_map chain_of) c.in_default-3.is) c.in_ok-rest.ensures.best

-- ---- choices

pub best_by_choice-best_by_action-requires : goal.best_by_choice-best_by_action-requires
best_by_choice-best_by_action-requires t c =
    let p = problem_of c.args.spot.now.problem.now in
    let less : c.args.n * 32 + 29 < t = omega (arith, c.decreases) in
    (less, (c.requires.spot, (chosen_action p (last_moment c.args.spot.now.history.now) (instance_of c.in-Act.step) (subst (λ x. IsIn (choice_of x) (choices p (last_moment c.args.spot.now.history.now))) c.in-Act.is c.requires.chosen), c.requires.notes)))

pub best_by_choice-best_by_branch-requires : goal.best_by_choice-best_by_branch-requires
best_by_choice-best_by_branch-requires t c =
    let p = problem_of c.args.spot.now.problem.now in
    let less : c.args.n * 32 + 29 < t = omega (arith, c.decreases) in
    let r = chosen_branch p (last_moment c.args.spot.now.history.now) (conj_of c.in-Branch.test) (subst (λ x. IsIn (choice_of x) (choices p (last_moment c.args.spot.now.history.now))) c.in-Branch.is c.requires.chosen) in
    (less, (c.requires.spot, (r.0, (r.1, c.requires.notes))))

pub best_by_choice-best_by_cases-requires : goal.best_by_choice-best_by_cases-requires
best_by_choice-best_by_cases-requires t c =
    let p = problem_of c.args.spot.now.problem.now in
    let less : c.args.n * 32 + 29 < t = omega (arith, c.decreases) in
    let r = chosen_cases p (last_moment c.args.spot.now.history.now) (term_of c.in-Cases.term) (subst (λ x. IsIn (choice_of x) (choices p (last_moment c.args.spot.now.history.now))) c.in-Cases.is c.requires.chosen) in
    (less, (c.requires.spot, (r.0, (r.1, c.requires.notes))))

pub best_of_choices-best_by_choice-requires : goal.best_of_choices-best_by_choice-requires
best_of_choices-best_by_choice-requires t c =
    let p = problem_of c.args.spot.now.problem.now in
    let left = left_in p (last_moment c.args.spot.now.history.now) in
    let f = c.each.invariant.0 in
    let less : c.args.n * 32 + 30 < t = omega (arith, c.decreases) in
    let given : IsNext (left c.each.walk) (left c.next.new.self) (option_map choice_of c.in_ok-c.field-0) = subst (λ d. IsNext (left_in p d c.each.walk) (left_in p d c.next.new.self) (option_map choice_of c.in_ok-c.field-0)) c.last-d.ensures c.in_ok-c.ensures in
    let next : left c.each.walk ≡ choice_of c.in-Some.c ∷ left c.next.new.self = subst (λ o. IsNext (left c.each.walk) (left c.next.new.self) (option_map choice_of o)) c.in-Some.is given in
    let member = in_rest f.done (choice_of c.in-Some.c) (left c.next.new.self) (choices p (last_moment c.args.spot.now.history.now)) (ap (λ cs. f.done ++ cs) (sym next) ∙ f.all) in
    (less, (c.requires.spot, (member, c.each.invariant.1)))

pub best_of_choices-each-init : goal.best_of_choices-each-init
best_of_choices-each-init t c =
    let p = problem_of c.args.spot.now.problem.now in
    let all : left_in p (last_moment c.args.spot.now.history.now) c.in_ok-walk.walk ≡ choices p (last_moment c.args.spot.now.history.now) = subst (λ d. left_in p d c.in_ok-walk.walk ≡ choices p d) c.last-d.ensures c.in_ok-walk.ensures.all in
    (record { done = []; all = all; among = found_first p c.args.spot.now.history.now (c.args.n + 1) c.args.limit c.requires.unmet }, c.requires.notes)

pub best_of_choices-each-smaller : goal.best_of_choices-each-smaller
best_of_choices-each-smaller t c =
    let p = problem_of c.args.spot.now.problem.now in
    let left = left_in p (last_moment c.args.spot.now.history.now) in
    let f = c.each.invariant.0 in
    let given : IsNext (left c.each.walk) (left c.next.new.self) (option_map choice_of c.in_ok-c.field-0) = subst (λ d. IsNext (left_in p d c.each.walk) (left_in p d c.next.new.self) (option_map choice_of c.in_ok-c.field-0)) c.last-d.ensures c.in_ok-c.ensures in
    let next : left c.each.walk ≡ choice_of c.in-Some.c ∷ left c.next.new.self = subst (λ o. IsNext (left c.each.walk) (left c.next.new.self) (option_map choice_of o)) c.in-Some.is given in
    shorter (left c.each.walk) (left c.next.new.self) (choice_of c.in-Some.c) next

pub best_of_choices-each-preserved-in-Some-2 : goal.best_of_choices-each-preserved-in-Some-2
best_of_choices-each-preserved-in-Some-2 t c =
    let p = problem_of c.args.spot.now.problem.now in
    let left = left_in p (last_moment c.args.spot.now.history.now) in
    let f = c.each.invariant.0 in
    let given : IsNext (left c.each.walk) (left c.next.new.self) (option_map choice_of c.in_ok-c.field-0) = subst (λ d. IsNext (left_in p d c.each.walk) (left_in p d c.next.new.self) (option_map choice_of c.in_ok-c.field-0)) c.last-d.ensures c.in_ok-c.ensures in
    let here = choice_of c.in-Some.c in
    let next : left c.each.walk ≡ here ∷ left c.next.new.self = subst (λ o. IsNext (left c.each.walk) (left c.next.new.self) (option_map choice_of o)) c.in-Some.is given in
    let found : IsBestOf p (IsCheapBy p c.args.spot.now.history.now (c.args.n + 1) c.each.below here) (Some (tree_of c.in-Some-2.t)) = subst (λ o. IsBestOf p (IsCheapBy p c.args.spot.now.history.now (c.args.n + 1) c.each.below here) (option_map tree_of o)) c.in-Some-2.is c.in_ok-t.ensures.best in
    let some : 1 ≤ cost p (tree_of c.in-Some-2.t) = costs_some p c.requires.spot.ready.valid.says c.args.spot.now.history.now c.requires.unmet (tree_of c.in-Some-2.t) found.0.0.0.0 in
    let below : c.cost-below.result - 1 + 1 ≡ cost p (tree_of c.in-Some-2.t) = omega (arith, c.cost-below.ensures, some) in
    let among = found_some p c.args.spot.now.history.now (c.args.n + 1) c.args.limit c.requires.unmet f.done here (option_map tree_of c.each.best) c.each.below (c.cost-below.result - 1) (tree_of c.in-Some-2.t) f.among found below in
    (found_more p c.args.spot.now.history.now (c.args.n + 1) c.args.limit c.requires.unmet (left c.each.walk) (left c.next.new.self) here (option_map tree_of c.each.best) (Some (tree_of c.in-Some-2.t)) c.each.below (c.cost-below.result - 1) next f among, c.in_ok-t.ensures.notes)

pub best_of_choices-each-preserved : goal.best_of_choices-each-preserved
best_of_choices-each-preserved t c =
    let p = problem_of c.args.spot.now.problem.now in
    let left = left_in p (last_moment c.args.spot.now.history.now) in
    let f = c.each.invariant.0 in
    let given : IsNext (left c.each.walk) (left c.next.new.self) (option_map choice_of c.in_ok-c.field-0) = subst (λ d. IsNext (left_in p d c.each.walk) (left_in p d c.next.new.self) (option_map choice_of c.in_ok-c.field-0)) c.last-d.ensures c.in_ok-c.ensures in
    let here = choice_of c.in-Some.c in
    let next : left c.each.walk ≡ here ∷ left c.next.new.self = subst (λ o. IsNext (left c.each.walk) (left c.next.new.self) (option_map choice_of o)) c.in-Some.is given in
    let whole : f.done ++ here ∷ left c.next.new.self ≡ choices p (last_moment c.args.spot.now.history.now) = ap (λ cs. f.done ++ cs) (sym next) ∙ f.all in
    let ordered : IsOrdered choice_cmp (choices p (last_moment c.args.spot.now.history.now)) = subst (λ d. IsOrdered choice_cmp (choices p d)) c.last-d.ensures c.in_ok-walk.ensures.ordered in
    let before = less_before choice_cmp f.done here (left c.next.new.self) (subst (IsOrdered choice_cmp) (sym whole) ordered) in
    let found : IsBestOf p (IsCheapBy p c.args.spot.now.history.now (c.args.n + 1) c.each.below here) None = subst (λ o. IsBestOf p (IsCheapBy p c.args.spot.now.history.now (c.args.n + 1) c.each.below here) (option_map tree_of o)) c.in_default-2.is c.in_ok-t.ensures.best in
    let among = found_none p c.args.spot.now.history.now (c.args.n + 1) c.args.limit c.requires.unmet f.done here (option_map tree_of c.each.best) c.each.below before f.among found in
    (found_more p c.args.spot.now.history.now (c.args.n + 1) c.args.limit c.requires.unmet (left c.each.walk) (left c.next.new.self) here (option_map tree_of c.each.best) (option_map tree_of c.each.best) c.each.below c.each.below next f among, c.in_ok-t.ensures.notes)

pub best_of_choices-cost-below-requires-clause-costs : goal.best_of_choices-cost-below-requires-clause-costs
best_of_choices-cost-below-requires-clause-costs t c = costs_at_most (problem_of c.args.spot.now.problem.now) c.requires.spot.ready.valid.says

pub best_of_choices-overflow_sub-below : goal.best_of_choices-overflow_sub-below
best_of_choices-overflow_sub-below t c =
    let p = problem_of c.args.spot.now.problem.now in
    let here = choice_of c.in-Some.c in
    let found : IsBestOf p (IsCheapBy p c.args.spot.now.history.now (c.args.n + 1) c.each.below here) (Some (tree_of c.in-Some-2.t)) = subst (λ o. IsBestOf p (IsCheapBy p c.args.spot.now.history.now (c.args.n + 1) c.each.below here) (option_map tree_of o)) c.in-Some-2.is c.in_ok-t.ensures.best in
    let some : 1 ≤ cost p (tree_of c.in-Some-2.t) = costs_some p c.requires.spot.ready.valid.says c.args.spot.now.history.now c.requires.unmet (tree_of c.in-Some-2.t) found.0.0.0.0 in
    omega (arith, some, c.cost-below.ensures)

pub best_of_choices-returns-clause-best : goal.best_of_choices-returns-clause-best
best_of_choices-returns-clause-best t c =
    let p = problem_of c.args.spot.now.problem.now in
    let left = left_in p (last_moment c.args.spot.now.history.now) in
    let f = c.each.invariant.0 in
    let given : IsNext (left c.each.walk) (left c.next.new.self) (option_map choice_of c.in_ok-c.field-0) = subst (λ d. IsNext (left_in p d c.each.walk) (left_in p d c.next.new.self) (option_map choice_of c.in_ok-c.field-0)) c.last-d.ensures c.in_ok-c.ensures in
    let none = subst (λ o. IsNext (left c.each.walk) (left c.next.new.self) (option_map choice_of o)) c.in_default.is given in
    let same : f.done ≡ choices p (last_moment c.args.spot.now.history.now) = sym (append-nil f.done) ∙ ap (λ cs. f.done ++ cs) (sym none.0) ∙ f.all in
    found_all p c.args.spot.now.history.now (c.args.n + 1) c.args.limit c.requires.unmet (option_map tree_of c.each.best) (subst (λ cs. IsBestOf p (IsCheapAmong p c.args.spot.now.history.now (c.args.n + 1) c.args.limit cs) (option_map tree_of c.each.best)) same f.among.best)

-- ---- sides

pub best_taking-assume-requires-clause-moment : goal.best_taking-assume-requires-clause-moment
best_taking-assume-requires-clause-moment t c = subst (IsMomentOf (problem_of c.args.spot.now.problem.now).signature) (sym c.last.ensures) (ready_last c.args.spot.now.problem.now c.args.spot.now.history.now c.args.spot.now.unread (c.args.n + 1) c.requires.spot.ready)

pub best_taking-best_within-requires : goal.best_taking-best_within-requires
best_taking-best_within-requires t c =
    let p = problem_of c.args.spot.now.problem.now in
    let r = c.requires.spot.ready in
    let h = c.args.spot.now.history.now in
    let less : c.args.n * 32 + 4 < t = omega (arith, c.decreases) in
    let settles = subst (λ x. Settles p (with_last h (five_of c.in-Next.d)) (state_of x)) c.in-Whole.is c.in_ok-settle_after-in-Next.ensures.settles in
    let moments = subst (λ x. IfAt (AreMomentsOf p) (state_of x)) c.in-Whole.is c.in_ok-settle_after-in-Next.ensures.moments in
    let read = subst (λ x. IfAt (IsReadBut p 0) (state_of x)) c.in-Whole.is c.in_ok-settle_after-in-Next.ensures.read in
    let takes = takes p h (choice_of c.args.c.now) (side_of c.args.side) (five_of c.last.result.now) (five_of c.in-Next.d) (outcome_of c.in_ok-assume.field-0) (At c.in-Whole.settled) c.last.ensures (ap outcome_of c.in-Next.is) c.in_ok-assume.ensures.assumes settles in
    let near = taken_near p r.justified (valid_typed p r.valid.says) h (choice_of c.args.c.now) (side_of c.args.side) c.in-Whole.settled c.args.spot.now.near.now c.in_ok-on-in-Whole.on.items c.requires.member takes c.requires.spot.near c.in_ok-on-in-Whole.ensures in
    let ready = ready_taken c.args.spot.now.problem.now h c.in-Whole.settled c.args.spot.now.unread c.args.n (five_of c.in-Next.d) r settles moments read in
    let twins = taken_each p r.justified (valid_typed p r.valid.says) h (choice_of c.args.c.now) (side_of c.args.side) c.in-Whole.settled c.args.spot.now.twins.now c.in_ok-twins-in-Whole.twins.items c.requires.member takes c.requires.spot.twins c.in_ok-twins-in-Whole.ensures in
    (less, (record { ready = ready; near = subst (Each (IsNear p c.in-Whole.settled)) (sym c.as_slice.ensures.value) near; twins = subst (Each (AreTwins p c.in-Whole.settled)) (sym c.as_slice-in-Whole.ensures.value) twins }, c.requires.notes))

pub best_taking-returns-in-Clash-clause-best : goal.best_taking-returns-in-Clash-clause-best
best_taking-returns-in-Clash-clause-best t c =
    taking_clash (problem_of c.args.spot.now.problem.now) c.args.spot.now.history.now c.args.n c.args.limit (choice_of c.args.c.now) (side_of c.args.side) (five_of c.last.result.now) (outcome_of c.in_ok-assume.field-0) _ c.last.ensures (ap outcome_of c.in-Clash.is) c.in_ok-assume.ensures.assumes

pub best_taking-returns-in-Clash-2-clause-best : goal.best_taking-returns-in-Clash-2-clause-best
best_taking-returns-in-Clash-2-clause-best t c =
    let p = problem_of c.args.spot.now.problem.now in
    taking_next p c.args.spot.now.history.now c.args.n c.args.limit (choice_of c.args.c.now) (side_of c.args.side) (five_of c.last.result.now) (five_of c.in-Next.d) (outcome_of c.in_ok-assume.field-0) (state_of c.in_ok-settle_after-in-Next.field-0) Stopped (Some Impossible)
    c.last.ensures (ap outcome_of c.in-Next.is) c.in_ok-assume.ensures.assumes c.in_ok-settle_after-in-Next.ensures.settles (ap state_of c.in-Clash-2.is) (cheap_stopped p c.args.n c.args.limit)

pub best_taking-returns-in_ok-twins-in-Whole-clause-best : goal.best_taking-returns-in_ok-twins-in-Whole-clause-best
best_taking-returns-in_ok-twins-in-Whole-clause-best t c =
    let p = problem_of c.args.spot.now.problem.now in
    let choice = choice_of c.args.c.now in
    let side = side_of c.args.side in
    IfOk-weaker c.best_within.result (λ o. IsBestWithin p (At c.in-Whole.settled) c.args.n c.args.limit (option_map tree_of o)) (λ o. IsBestTaking p c.args.spot.now.history.now choice side c.args.n c.args.limit (option_map tree_of o))
    (λ o b. taking_next p c.args.spot.now.history.now c.args.n c.args.limit choice side (five_of c.last.result.now) (five_of c.in-Next.d) (outcome_of c.in_ok-assume.field-0) (state_of c.in_ok-settle_after-in-Next.field-0) (At c.in-Whole.settled) (option_map tree_of o)
    c.last.ensures (ap outcome_of c.in-Next.is) c.in_ok-assume.ensures.assumes c.in_ok-settle_after-in-Next.ensures.settles (ap state_of c.in-Whole.is) b)
    c.best_within.ensures.best

-- ---- at a history

pub best_within-returns-then-met-clause-best : goal.best_within-returns-then-met-clause-best
best_within-returns-then-met-clause-best t c = cheap_goal (problem_of c.args.spot.now.problem.now) c.args.spot.now.history.now c.args.n c.args.limit (sym c.met.ensures ∙ c.if-met.true)

pub best_within-returns-then-n-eq0-clause-best : goal.best_within-returns-then-n-eq0-clause-best
best_within-returns-then-n-eq0-clause-best t c =
    let p = problem_of c.args.spot.now.problem.now in
    let unmet = sym c.met.ensures ∙ c.if-met.false in
    elim c.then-n-eq0.branch [
      | best_within-then-n-eq0-via-then-n-eq0 w ↦ subst (λ n. IsBestWithin p (At c.args.spot.now.history.now) n c.args.limit None) (sym w.if-n-eq0.true) (none_at_depth p c.args.spot.now.history.now c.args.limit unmet)
      | best_within-then-n-eq0-via-else-n-eq0+then-limit-eq0 w ↦ subst (λ l. IsBestWithin p (At c.args.spot.now.history.now) c.args.n l None) (sym w.if-limit-eq0.true) (none_at_cost p c.requires.spot.ready.valid.says c.args.spot.now.history.now c.args.n unmet)
    ]

pub best_within-returns-then-is_beyond-clause-best : goal.best_within-returns-then-is_beyond-clause-best
best_within-returns-then-is_beyond-clause-best t c =
    let p = problem_of c.args.spot.now.problem.now in
    let r = c.requires.spot.ready in
    let far : is_far c.args.spot.now.near.now (min c.args.n c.args.limit) ≡ true = sym (c.is_beyond.ensures ∙ ap (is_far c.args.spot.now.near.now) c.min.ensures) ∙ c.if-is_beyond.true in
    none_near p r.justified (valid_typed p r.valid.says) c.args.spot.now.history.now r.valid.says c.args.spot.now.near.now c.args.n c.args.limit c.requires.spot.near far

pub best_by_action-near_after-requires-clause-counted : goal.best_by_action-near_after-requires-clause-counted
best_by_action-near_after-requires-clause-counted t c =
    let p = problem_of c.args.spot.now.problem.now in
    let h = c.args.spot.now.history.now in
    near_counted p h c.front.result.now (each_first (IsNear p h) c.args.spot.now.near.now c.front.result.now c.front.ensures c.requires.spot.near)

pub best_by_action-returns-then-is_beyond-clause-best : goal.best_by_action-returns-then-is_beyond-clause-best
best_by_action-returns-then-is_beyond-clause-best t c =
    let p = problem_of c.args.spot.now.problem.now in
    let r = c.requires.spot.ready in
    let h = c.args.spot.now.history.now in
    let first = c.in_ok-first.first.items in
    let k = each_first (IsNear p h) c.args.spot.now.near.now c.front.result.now c.front.ensures c.requires.spot.near in
    let far : is_far first (min c.args.n (c.args.limit - c.action_cost-own.result)) ≡ true = sym (c.is_beyond.ensures ∙ (ap (λ xs. is_far xs c.min-room.result) c.as_slice.ensures.value ∙ ap (is_far first) c.min-room.ensures)) ∙ c.if-is_beyond.true in
    none_acting p r.justified (valid_typed p r.valid.says) r.valid.says h (instance_of c.args.step.now) c.front.result.now first c.args.n c.args.limit c.action_cost-own.result
    c.requires.chosen k c.in_ok-first.ensures.becomes far c.action_cost-own.ensures c.if-limit-own.false

pub best_by_action-returns-then-barren-clause-best : goal.best_by_action-returns-then-barren-clause-best
best_by_action-returns-then-barren-clause-best t c =
    let p = problem_of c.args.spot.now.problem.now in
    let r = c.requires.spot.ready in
    let h = c.args.spot.now.history.now in
    let i = instance_of c.args.step.now in
    let first = c.in_ok-first.first.items in
    let s = valid_typed p r.valid.says in
    let k = each_first (IsNear p h) c.args.spot.now.near.now c.front.result.now c.front.ensures c.requires.spot.near in
    let near : AreNearAfter p h i first = acted_near p r.justified s h i c.front.result.now first c.requires.chosen k c.in_ok-first.ensures.becomes in
    let fails : LastFails p h c.is_tight-tight.result (c.args.n + 1) c.args.limit = c.in_ok-barren.ensures.fails c.if-barren.true in
    let tight : is_tight first (min c.args.n (c.args.limit - c.action_cost-own.result)) ≡ true = sym (c.is_tight-tight.ensures ∙ (ap (λ xs. is_tight xs c.min-room.result) c.as_slice-3.ensures.value ∙ ap (is_tight first) c.min-room.ensures)) ∙ fails.tight_is in
    none_straight p r.justified s r.valid.says fails.plain h i first c.args.n c.args.limit c.action_cost-own.result near tight fails.none c.action_cost-own.ensures c.if-limit-own.false

pub best_by_action-best_after-requires : goal.best_by_action-best_after-requires
best_by_action-best_after-requires t c =
    let p = problem_of c.args.spot.now.problem.now in
    let r = c.requires.spot.ready in
    let h = c.args.spot.now.history.now in
    let less : c.args.n * 32 + 5 < t = omega (arith, c.decreases) in
    let k = each_first (IsNear p h) c.args.spot.now.near.now c.front.result.now c.front.ensures c.requires.spot.near in
    let near = acted_near p r.justified (valid_typed p r.valid.says) h (instance_of c.args.step.now) c.front.result.now c.in_ok-first.first.items c.requires.chosen k c.in_ok-first.ensures.becomes in
    let twins = acted_each p r.justified (valid_typed p r.valid.says) h (instance_of c.args.step.now) c.args.spot.now.twins.now c.in_ok-twins.twins.items c.requires.chosen c.requires.spot.twins c.in_ok-twins.ensures in
    (less, (c.requires.spot, (c.requires.chosen, (record { own = record { ground_actions = c.in_ok-first.ensures.ground_actions; failures = c.in_ok-barren.ensures.right; finds = c.requires.notes.own.finds }; shelf = c.requires.notes.shelf }, (near, twins)))))

pub best_by_action-returns-then-some_met-clause-best : goal.best_by_action-returns-then-some_met-clause-best
best_by_action-returns-then-some_met-clause-best t c =
    let p = problem_of c.args.spot.now.problem.now in
    let r = c.requires.spot.ready in
    let some : SomeMet c.in_ok-twins.twins.items = subst SomeMet c.as_slice-2.ensures.value (c.some_met.ensures c.if-some_met.true) in
    none_meeting p r.justified (valid_typed p r.valid.says) c.args.spot.now.history.now (instance_of c.args.step.now) c.args.spot.now.twins.now c.in_ok-twins.twins.items (c.args.n + 1) c.args.limit c.requires.chosen c.requires.spot.twins c.in_ok-twins.ensures some

-- ---- without the aims that are met for good

pub best_of_fewer-take-requires-clause-valid : goal.best_of_fewer-take-requires-clause-valid
best_of_fewer-take-requires-clause-valid t c =
    let p = c.args.spot.now.problem.now in
    let h = c.args.spot.now.history.now in
    subst IsValidProblem (sym (unmet_is p h c.in_ok-goal.goal c.as_slice.result.now c.in_ok-goal.ensures c.as_slice.ensures)) (unmet_valid p h c.requires.spot.ready.valid)

pub best_of_fewer-best_of_left-requires : goal.best_of_fewer-best_of_left-requires
best_of_fewer-best_of_left-requires t c =
    let p = c.args.spot.now.problem.now in
    let h = c.args.spot.now.history.now in
    let r = c.requires.spot.ready in
    let own = c.in_ok-taken.ensures.shelved in
    let q = c.in_ok-taken.taken.own.problem in
    let is = taken_is p q h c.in_ok-goal.goal c.as_slice.result.now c.in_ok-goal.ensures c.as_slice.ensures c.in_ok-taken.ensures.own in
    let less : c.args.n * 32 + 1 < t = omega (arith, c.decreases) in
    let near = subst (λ x. Each (IsNear x h) c.args.spot.now.near.now) (sym is) (each_near_other (problem_of p) h c.args.spot.now.near.now c.requires.spot.near) in
    let unmet = subst (λ x. met x h ≡ false) (sym is) (still_unmet (problem_of p) r.valid.says.signature.values h c.requires.unmet) in
    let shelf = shelved_on (problem_of p) (problem_of q) own.aims c.in_ok-taken.taken.others.items c.in_ok-taken.ensures.others in
    (less, (record { ready = ready_without p q h c.args.spot.now.unread c.args.n own.valid is r; near = near; twins = tt }, (unmet, (c.requires.some, record { own = own.learned; shelf = shelf }))))

pub best_of_fewer-returns-clause-best : goal.best_of_fewer-returns-clause-best
best_of_fewer-returns-clause-best t c =
    let p = c.args.spot.now.problem.now in
    let h = c.args.spot.now.history.now in
    let is = taken_is p c.in_ok-taken.taken.own.problem h c.in_ok-goal.goal c.as_slice.result.now c.in_ok-goal.ensures c.as_slice.ensures c.in_ok-taken.ensures.own in
    best_within_back (problem_of p) c.requires.spot.ready.valid.says.signature.values h c.args.n c.args.limit (option_map tree_of c.in_ok-found.found)
    (subst (λ x. IsBestWithin x (At h) c.args.n c.args.limit (option_map tree_of c.in_ok-found.found)) is c.in_ok-found.ensures.best)

pub best_of_fewer-returns-clause-notes : goal.best_of_fewer-returns-clause-notes
best_of_fewer-returns-clause-notes t c =
    let own = c.in_ok-taken.ensures.shelved in
    record {
      own = c.requires.notes.own;
      shelf = c.in_ok-notes.ensures (problem_of c.args.spot.now.problem.now) own.valid own.aims c.in_ok-found.ensures.notes;
    }

pub best_of_left-best_of_rest-requires : goal.best_of_left-best_of_rest-requires
best_of_left-best_of_rest-requires t c =
    let p = problem_of c.args.spot.now.problem.now in
    let less : c.args.n * 32 < t = omega (arith, c.decreases) in
    let h = c.args.spot.now.history.now in
    let rest = c.in_ok-rest.rest in
    let same : HasTreesWithin p h rest c.args.n c.args.limit = c.in_ok-rest.ensures in
    let ready = rest_ready c.args.spot.now.problem.now h rest c.args.spot.now.unread c.args.n c.args.limit same c.requires.spot.ready in
    let near = left_near p h rest c.args.spot.now.near.now same.left c.requires.spot.near in
    let twins = each_weaker (AreTwins p h) (AreTwins p rest) (λ x m. same.twins (first_in x) (second_in x) m) c.args.spot.now.twins.now c.requires.spot.twins in
    (less, (record { ready = ready; near = near; twins = twins }, (rest_unmet p h rest c.args.n c.args.limit same c.requires.unmet, (c.requires.some, c.requires.notes))))

pub best_of_left-returns-clause-best : goal.best_of_left-returns-clause-best
best_of_left-returns-clause-best t c =
    let p = problem_of c.args.spot.now.problem.now in
    let h = c.args.spot.now.history.now in
    let rest = c.in_ok-rest.rest in
    let same : HasTreesWithin p h rest c.args.n c.args.limit = c.in_ok-rest.ensures in
    IfOk-weaker c.best_of_rest.result (λ o. IsBestWithin p (At rest) c.args.n c.args.limit (option_map tree_of o)) (λ o. IsBestWithin p (At h) c.args.n c.args.limit (option_map tree_of o))
    (λ o b. best_of_rest p h rest c.args.n c.args.limit same (option_map tree_of o) b)
    c.best_of_rest.ensures.best

pub best_of_rest-returns-then-tells-clause-best : goal.best_of_rest-returns-then-tells-clause-best
best_of_rest-returns-then-tells-clause-best t c = c.tells.ensures.told c.if-tells.true c.requires.spot.ready.valid.says c.requires.spot.ready.moments c.requires.notes.own.failures

pub best_of_rest-returns-then-tells-clause-notes : goal.best_of_rest-returns-then-tells-clause-notes
best_of_rest-returns-then-tells-clause-notes t c = record { own = record { ground_actions = c.requires.notes.own.ground_actions; failures = c.tells.ensures.right (problem_of c.args.spot.now.problem.now) c.requires.notes.own.failures; finds = c.requires.notes.own.finds }; shelf = c.requires.notes.shelf }

pub best_of_rest-best_of_choices-requires : goal.best_of_rest-best_of_choices-requires
best_of_rest-best_of_choices-requires t c =
    let same : c.args.n ≡ c.args.n - 1 + 1 = omega (arith, c.requires.some) in
    let less : (c.args.n - 1) * 32 + 31 < t = omega (arith, c.decreases, c.requires.some) in
    let right = c.tells.ensures.right (problem_of c.args.spot.now.problem.now) c.requires.notes.own.failures in
    (less, (subst (MayGoOn c.args.spot.now) same c.requires.spot, (c.requires.unmet, record { own = record { ground_actions = c.requires.notes.own.ground_actions; failures = right; finds = c.tells-2.ensures.found (problem_of c.args.spot.now.problem.now) c.requires.notes.own.finds }; shelf = c.requires.notes.shelf })))

pub best_of_rest-returns-in-None-clause-notes : goal.best_of_rest-returns-in-None-clause-notes
best_of_rest-returns-in-None-clause-notes t c =
    let p = problem_of c.args.spot.now.problem.now in
    let h = c.args.spot.now.history.now in
    let same : c.args.n - 1 + 1 ≡ c.args.n = omega (arith, c.requires.some) in
    let none : IsBestWithin p (At h) (c.args.n - 1 + 1) c.args.limit None = subst (λ o. IsBestWithin p (At h) (c.args.n - 1 + 1) c.args.limit (option_map tree_of o)) c.in-None.is c.in_ok-t.ensures.best in
    record { own = record { ground_actions = c.in_ok-t.ensures.notes.own.ground_actions; failures = c.note-in-None.ensures.right p c.requires.spot.ready.moments (subst (λ k. HasNoTree p h k c.args.limit) same none) c.in_ok-t.ensures.notes.own.failures; finds = c.in_ok-t.ensures.notes.own.finds }; shelf = c.in_ok-t.ensures.notes.shelf }

-- ---- what the table of finds tells, and what is noted there

pub best_of_rest-returns-in-Some-clause-best : goal.best_of_rest-returns-in-Some-clause-best
best_of_rest-returns-in-Some-clause-best t c =
    let p = problem_of c.args.spot.now.problem.now in
    subst (λ o. IfSome o (λ told. IsAnswer p c.args.spot.now.history.now c.args.n c.args.limit (option_map tree_of told))) c.in-Some.is (c.tells-2.ensures.told p c.requires.spot.ready.valid.says c.requires.notes.own.finds)

pub best_of_rest-returns-in-Some-clause-notes : goal.best_of_rest-returns-in-Some-clause-notes
best_of_rest-returns-in-Some-clause-notes t c =
    let p = problem_of c.args.spot.now.problem.now in
    record { own = record { ground_actions = c.requires.notes.own.ground_actions; failures = c.tells.ensures.right p c.requires.notes.own.failures; finds = c.tells-2.ensures.found p c.requires.notes.own.finds }; shelf = c.requires.notes.shelf }

pub best_of_rest-returns-in-Some-2-clause-notes : goal.best_of_rest-returns-in-Some-2-clause-notes
best_of_rest-returns-in-Some-2-clause-notes t c =
    let p = problem_of c.args.spot.now.problem.now in
    let h = c.args.spot.now.history.now in
    let found = c.in-Some-2.t in
    let same : c.args.n - 1 + 1 ≡ c.args.n = omega (arith, c.requires.some) in
    let best : IsBestWithin p (At h) (c.args.n - 1 + 1) c.args.limit (Some (tree_of found)) = subst (λ o. IsBestWithin p (At h) (c.args.n - 1 + 1) c.args.limit (option_map tree_of o)) c.in-Some-2.is c.in_ok-t.ensures.best in
    let is : IsFound p h c.args.n c.args.limit (tree_of found) = subst (λ k. IsFound p h k c.args.limit (tree_of found)) same best in
    record { own = record { ground_actions = c.in_ok-t.ensures.notes.own.ground_actions; failures = c.in_ok-t.ensures.notes.own.failures; finds = c.note.ensures is c.in_ok-t.ensures.notes.own.finds }; shelf = c.in_ok-t.ensures.notes.shelf }
