use Rattle.std.proofs.Common.{◌≡◌, ◌≤◌, ◌<◌, ◌+◌, ◌*◌, ◌^◌, max, arith, ◌-◌, ◌∙◌, ap, sym, subst, map, take, drop, length, Err}
use Rattle.std.proofs.Math.Nat.{le-max_left, le-max_right}
use Rattle.pks_terms.specs.Trees.{depth, chain_depth}
use Rattle.pks_terms.specs.Talk.{talk_from, talk_case}
use Rattle.pks_terms.specs.Views.{inner_of, term_of, conj_of, instance_of, signature_of, names_of}
use Rattle.pks_plan.specs.TreeViews.{tree_of, chain_of}
use Rattle.pks_agent.specs.Leading.{moment, IsLed}
use Rattle.pks_agent.specs.Rooms.{test_question, value_question, argument_count, question_count, questions_of, case_questions, texts_in, Opens}
use Rattle.pks_agent.proofs.Fronts.{first_opened, opens_tree_in, opens_action, enough_for_action, opens_behind_action, opens_rest, enough_for_tree, opens_behind_tree}
use Rattle.pks_agent.proofs.Joining.{act_on, act_ends, branch_true, branch_false, branch_ends, cases_on, cases_end}
use Rattle.pks_agent.proofs.Sizes.{size, size_in}
use Rattle.pks_agent.proofs.dialogue.+dialogue.Goals as goal

pub walk-act-requires-clause-questions : goal.walk-act-requires-clause-questions
walk-act-requires-clause-questions g t c =
    let names = names_of c.args.p.now in
    let opens = subst (λ t. Opens (texts_in c.args.questions.now) (questions_of names (tree_of t))) c.in-Act.is c.requires.questions in
    opens_action names (texts_in c.args.questions.now) (instance_of c.in-Act.step).arguments (tree_of c.in-Act.next.value) opens

pub walk-returns-in-Ok : goal.walk-returns-in-Ok
walk-returns-in-Ok g t c =
    let m = moment g.P.Peer.answers g.P.Peer.said g.P.Peer.sends g.P.Peer.receipts g.P.Peer.kept g.P.Peer.sure c.args.peer.now in
    let m' = moment g.P.Peer.answers g.P.Peer.said g.P.Peer.sends g.P.Peer.receipts g.P.Peer.kept g.P.Peer.sure c.act.new.peer in
    let m'' = moment g.P.Peer.answers g.P.Peer.said g.P.Peer.sends g.P.Peer.receipts g.P.Peer.kept g.P.Peer.sure c.walk.new.peer in
    let s = signature_of c.args.p.now.signature in
    let names = names_of c.args.p.now in
    let i = instance_of c.in-Act.step in
    let next = tree_of c.in-Act.next.value in
    let led = subst (λ y. IsLed m' m'' c.walk.result (talk_from s names (tree_of y) c.in-Ok.asked)) c.deref.ensures c.walk.ensures in
    subst (λ y. IsLed m m'' c.walk.result (talk_from s names (tree_of y) c.args.k)) (sym c.in-Act.is)
    (act_on s names i next c.args.k (c.args.k + argument_count i.arguments) c.in-Ok.asked m m' m'' c.walk.result c.in-Ok.ensures.leads c.in-Ok.ensures.next led)

pub walk-returns-in-Err : goal.walk-returns-in-Err
walk-returns-in-Err g t c =
    let m = moment g.P.Peer.answers g.P.Peer.said g.P.Peer.sends g.P.Peer.receipts g.P.Peer.kept g.P.Peer.sure c.args.peer.now in
    let m' = moment g.P.Peer.answers g.P.Peer.said g.P.Peer.sends g.P.Peer.receipts g.P.Peer.kept g.P.Peer.sure c.act.new.peer in
    let s = signature_of c.args.p.now.signature in
    let names = names_of c.args.p.now in
    subst (λ y. IsLed m m' (Err c.in-Err.stop) (talk_from s names (tree_of y) c.args.k)) (sym c.in-Act.is)
    (act_ends s names (instance_of c.in-Act.step) (tree_of c.in-Act.next.value) c.args.k c.in-Err.stop m m' c.in-Err.ensures.leads)

pub walk-returns-in-Ok-true : goal.walk-returns-in-Ok-true
walk-returns-in-Ok-true g t c =
    let m = moment g.P.Peer.answers g.P.Peer.said g.P.Peer.sends g.P.Peer.receipts g.P.Peer.kept g.P.Peer.sure c.args.peer.now in
    let m' = moment g.P.Peer.answers g.P.Peer.said g.P.Peer.sends g.P.Peer.receipts g.P.Peer.kept g.P.Peer.sure c.ask_truth.new.peer in
    let m'' = moment g.P.Peer.answers g.P.Peer.said g.P.Peer.sends g.P.Peer.receipts g.P.Peer.kept g.P.Peer.sure c.walk-in-Ok-true.new.peer in
    let s = signature_of c.args.p.now.signature in
    let names = names_of c.args.p.now in
    let test = conj_of c.in-Branch.test in
    let yes' = tree_of c.in-Branch.yes.value in
    let no' = tree_of c.in-Branch.no.value in
    let opens = subst (λ t. Opens (texts_in c.args.questions.now) (questions_of names (tree_of t))) c.in-Branch.is c.requires.questions in
    let is : c.as_slice.result.now ≡ test_question names test = c.as_slice.ensures.value ∙ ap (λ v. v.items) c.index-questions-0.is ∙ first_opened c.args.questions.now _ _ _ opens in
    let led = subst (λ y. IsLed m' m'' c.walk-in-Ok-true.result (talk_from s names (tree_of y) (c.args.k + 1))) c.deref-in-Ok-true.ensures c.walk-in-Ok-true.ensures in
    subst (λ y. IsLed m m'' c.walk-in-Ok-true.result (talk_from s names (tree_of y) c.args.k)) (sym c.in-Branch.is)
    (branch_true s names test yes' no' c.args.k c.as_slice.result.now is m m' c.in-Ok-true.field-0 m'' c.walk-in-Ok-true.result c.in-Ok-true.field-0-test c.in-Ok-true.ensures led)

pub walk-returns-in-Ok-false : goal.walk-returns-in-Ok-false
walk-returns-in-Ok-false g t c =
    let m = moment g.P.Peer.answers g.P.Peer.said g.P.Peer.sends g.P.Peer.receipts g.P.Peer.kept g.P.Peer.sure c.args.peer.now in
    let m' = moment g.P.Peer.answers g.P.Peer.said g.P.Peer.sends g.P.Peer.receipts g.P.Peer.kept g.P.Peer.sure c.ask_truth.new.peer in
    let m'' = moment g.P.Peer.answers g.P.Peer.said g.P.Peer.sends g.P.Peer.receipts g.P.Peer.kept g.P.Peer.sure c.walk-in-Ok-false.new.peer in
    let s = signature_of c.args.p.now.signature in
    let names = names_of c.args.p.now in
    let test = conj_of c.in-Branch.test in
    let yes' = tree_of c.in-Branch.yes.value in
    let no' = tree_of c.in-Branch.no.value in
    let opens = subst (λ t. Opens (texts_in c.args.questions.now) (questions_of names (tree_of t))) c.in-Branch.is c.requires.questions in
    let is : c.as_slice.result.now ≡ test_question names test = c.as_slice.ensures.value ∙ ap (λ v. v.items) c.index-questions-0.is ∙ first_opened c.args.questions.now _ _ _ opens in
    let led = subst (λ y. IsLed m' m'' c.walk-in-Ok-false.result (talk_from s names (tree_of y) (c.args.k + 1))) c.deref-in-Ok-false-2.ensures c.walk-in-Ok-false.ensures in
    subst (λ y. IsLed m m'' c.walk-in-Ok-false.result (talk_from s names (tree_of y) c.args.k)) (sym c.in-Branch.is)
    (branch_false s names test yes' no' c.args.k c.as_slice.result.now is m m' c.in-Ok-false.field-0 m'' c.walk-in-Ok-false.result c.in-Ok-false.field-0-test c.in-Ok-false.ensures led)

pub walk-returns-in-Err-ask_truth : goal.walk-returns-in-Err-ask_truth
walk-returns-in-Err-ask_truth g t c =
    let m = moment g.P.Peer.answers g.P.Peer.said g.P.Peer.sends g.P.Peer.receipts g.P.Peer.kept g.P.Peer.sure c.args.peer.now in
    let m' = moment g.P.Peer.answers g.P.Peer.said g.P.Peer.sends g.P.Peer.receipts g.P.Peer.kept g.P.Peer.sure c.ask_truth.new.peer in
    let s = signature_of c.args.p.now.signature in
    let names = names_of c.args.p.now in
    let test = conj_of c.in-Branch.test in
    let yes' = tree_of c.in-Branch.yes.value in
    let no' = tree_of c.in-Branch.no.value in
    let opens = subst (λ t. Opens (texts_in c.args.questions.now) (questions_of names (tree_of t))) c.in-Branch.is c.requires.questions in
    let is : c.as_slice.result.now ≡ test_question names test = c.as_slice.ensures.value ∙ ap (λ v. v.items) c.index-questions-0.is ∙ first_opened c.args.questions.now _ _ _ opens in
    subst (λ y. IsLed m m' (Err c.in-Err-ask_truth.stop) (talk_from s names (tree_of y) c.args.k)) (sym c.in-Branch.is)
    (branch_ends s names test yes' no' c.args.k c.as_slice.result.now is m m' c.in-Err-ask_truth.stop c.in-Err-ask_truth.ensures)

pub walk-returns-in-Ok-ask_value : goal.walk-returns-in-Ok-ask_value
walk-returns-in-Ok-ask_value g t c =
    let m = moment g.P.Peer.answers g.P.Peer.said g.P.Peer.sends g.P.Peer.receipts g.P.Peer.kept g.P.Peer.sure c.args.peer.now in
    let m' = moment g.P.Peer.answers g.P.Peer.said g.P.Peer.sends g.P.Peer.receipts g.P.Peer.kept g.P.Peer.sure c.ask_value.new.peer in
    let m'' = moment g.P.Peer.answers g.P.Peer.said g.P.Peer.sends g.P.Peer.receipts g.P.Peer.kept g.P.Peer.sure c.walk_case.new.peer in
    let s = signature_of c.args.p.now.signature in
    let names = names_of c.args.p.now in
    let x = term_of c.in-Cases.term in
    let chain = chain_of c.in-Cases.cases.value in
    let opens = subst (λ t. Opens (texts_in c.args.questions.now) (questions_of names (tree_of t))) c.in-Cases.is c.requires.questions in
    let is : c.as_slice-in-Cases.result.now ≡ value_question names x = c.as_slice-in-Cases.ensures.value ∙ ap (λ v. v.items) c.index-questions-0-in-Cases.is ∙ first_opened c.args.questions.now _ _ _ opens in
    let led = subst (λ y. IsLed m' m'' c.walk_case.result (talk_case s names (chain_of y) c.in-Ok-ask_value.value.0 (c.args.k + 1))) c.deref-in-Ok-ask_value.ensures c.walk_case.ensures in
    subst (λ y. IsLed m m'' c.walk_case.result (talk_from s names (tree_of y) c.args.k)) (sym c.in-Cases.is)
    (cases_on s names x chain c.args.k c.as_slice-in-Cases.result.now is m m' c.in-Ok-ask_value.value.0 m'' c.walk_case.result c.in-Ok-ask_value.ensures led)

pub walk-returns-in-Err-ask_value : goal.walk-returns-in-Err-ask_value
walk-returns-in-Err-ask_value g t c =
    let m = moment g.P.Peer.answers g.P.Peer.said g.P.Peer.sends g.P.Peer.receipts g.P.Peer.kept g.P.Peer.sure c.args.peer.now in
    let m' = moment g.P.Peer.answers g.P.Peer.said g.P.Peer.sends g.P.Peer.receipts g.P.Peer.kept g.P.Peer.sure c.ask_value.new.peer in
    let s = signature_of c.args.p.now.signature in
    let names = names_of c.args.p.now in
    let x = term_of c.in-Cases.term in
    let chain = chain_of c.in-Cases.cases.value in
    let opens = subst (λ t. Opens (texts_in c.args.questions.now) (questions_of names (tree_of t))) c.in-Cases.is c.requires.questions in
    let is : c.as_slice-in-Cases.result.now ≡ value_question names x = c.as_slice-in-Cases.ensures.value ∙ ap (λ v. v.items) c.index-questions-0-in-Cases.is ∙ first_opened c.args.questions.now _ _ _ opens in
    subst (λ y. IsLed m m' (Err c.in-Err-ask_value.stop) (talk_from s names (tree_of y) c.args.k)) (sym c.in-Cases.is)
    (cases_end s names x chain c.args.k c.as_slice-in-Cases.result.now is m m' c.in-Err-ask_value.stop c.in-Err-ask_value.ensures)

pub walk-behind_arguments-others-requires : goal.walk-behind_arguments-others-requires
walk-behind_arguments-others-requires g t c =
    let names = names_of c.args.p.now in
    let i = instance_of c.in-Act.step in
    let opens = subst (λ t. Opens (texts_in c.args.questions.now) (questions_of names (tree_of t))) c.in-Act.is c.requires.questions in
    subst (λ ts. argument_count (map inner_of ts) ≤ length c.args.questions.now) (sym c.front.ensures) (enough_for_action names c.args.questions.now i.arguments (tree_of c.in-Act.next.value) opens)

pub walk-behind-others-requires : goal.walk-behind-others-requires
walk-behind-others-requires g t c =
    let names = names_of c.args.p.now in
    let yes' = tree_of c.in-Branch.yes.value in
    let no' = tree_of c.in-Branch.no.value in
    let opens = subst (λ t. Opens (texts_in c.args.questions.now) (questions_of names (tree_of t))) c.in-Branch.is c.requires.questions in
    let qs = c.args.questions.now in
    subst (λ y. question_count (tree_of y) ≤ length (take (length qs - 1) (drop 1 qs))) (sym c.deref-in-Ok-false.ensures)
    (enough_for_tree names (take (length qs - 1) (drop 1 qs)) yes' (questions_of names no') (opens_rest names qs _ _ opens))

pub walk_case-behind-others-requires : goal.walk_case-behind-others-requires
walk_case-behind-others-requires g t c =
    let names = names_of c.args.p.now in
    let opens = subst (λ k. Opens (texts_in c.args.questions.now) (case_questions names (chain_of k))) c.in-More.is c.requires.questions in
    enough_for_tree names c.args.questions.now (tree_of c.in-More.tree) (case_questions names (chain_of c.in-More.rest.value)) opens

pub walk-walk-requires : goal.walk-walk-requires
walk-walk-requires g t c κs within =
    let names = names_of c.args.p.now in
    let qs = c.args.questions.now in
    let i = instance_of c.in-Act.step in
    let next = tree_of c.in-Act.next.value in
    let opens = subst (λ t. Opens (texts_in qs) (questions_of names (tree_of t))) c.in-Act.is c.requires.questions in
    let whole : size (tree_of c.args.t.now) ≡ size next + 1 = ap (λ y. size (tree_of y)) c.in-Act.is in
    let part : size (tree_of c.deref.result.now) ≡ size next = ap (λ y. size (tree_of y)) c.deref.ensures in
    let less : size (tree_of c.deref.result.now) < t = omega (arith, c.decreases, whole, part) in
    let deep : depth (tree_of c.args.t.now) ≡ depth next + 1 = ap (λ y. depth (tree_of y)) c.in-Act.is in
    let below : depth (tree_of c.deref.result.now) ≡ depth next = ap (λ y. depth (tree_of y)) c.deref.ensures in
    let numbers : c.in-Ok.asked + 4 * depth (tree_of c.deref.result.now) < 2 ^ 32 = omega (arith, c.requires.numbers, deep, below, c.in-Ok.ensures.few) in
    let behind_is : c.behind_arguments-others.result.now ≡ drop (argument_count i.arguments) qs = c.behind_arguments-others.ensures ∙ ap (λ ts. drop (argument_count (map inner_of ts)) qs) c.front.ensures in
    let rest = subst (λ y. Opens (texts_in c.behind_arguments-others.result.now) (questions_of names (tree_of y))) (sym c.deref.ensures)
    (subst (λ os. Opens (texts_in os) (questions_of names next)) (sym behind_is) (opens_behind_action names qs i.arguments next opens)) in
    (less, (within, (c.requires.objects, (rest, (c.in-Ok.ensures.desk, numbers)))))

pub walk-walk-requires-in-Ok-true : goal.walk-walk-requires-in-Ok-true
walk-walk-requires-in-Ok-true g t c κs within =
    let names = names_of c.args.p.now in
    let qs = c.args.questions.now in
    let yes' = tree_of c.in-Branch.yes.value in
    let no' = tree_of c.in-Branch.no.value in
    let opens = subst (λ t. Opens (texts_in qs) (questions_of names (tree_of t))) c.in-Branch.is c.requires.questions in
    let whole : size (tree_of c.args.t.now) ≡ size yes' + size no' + 1 = ap (λ y. size (tree_of y)) c.in-Branch.is in
    let deep : depth (tree_of c.args.t.now) ≡ max (depth yes') (depth no') + 1 = ap (λ y. depth (tree_of y)) c.in-Branch.is in
    let part : size (tree_of c.deref-in-Ok-true.result.now) ≡ size yes' = ap (λ y. size (tree_of y)) c.deref-in-Ok-true.ensures in
    let less : size (tree_of c.deref-in-Ok-true.result.now) < t = omega (arith, c.decreases, whole, part) in
    let below : depth (tree_of c.deref-in-Ok-true.result.now) ≡ depth yes' = ap (λ y. depth (tree_of y)) c.deref-in-Ok-true.ensures in
    let most : depth yes' ≤ max (depth yes') (depth no') = le-max_left (depth yes') (depth no') in
    let numbers : c.args.k + 1 + 4 * depth (tree_of c.deref-in-Ok-true.result.now) < 2 ^ 32 = omega (arith, c.requires.numbers, deep, below, most) in
    let rest = subst (λ y. Opens (texts_in (take (length qs - 1) (drop 1 qs))) (questions_of names (tree_of y))) (sym c.deref-in-Ok-true.ensures) (opens_tree_in names (take (length qs - 1) (drop 1 qs)) yes' (questions_of names no') (opens_rest names qs _ _ opens)) in
    (less, (within, (c.requires.objects, (rest, (c.requires.desk, numbers)))))

pub walk-walk-requires-in-Ok-false : goal.walk-walk-requires-in-Ok-false
walk-walk-requires-in-Ok-false g t c κs within =
    let names = names_of c.args.p.now in
    let qs = c.args.questions.now in
    let yes' = tree_of c.in-Branch.yes.value in
    let no' = tree_of c.in-Branch.no.value in
    let opens = subst (λ t. Opens (texts_in qs) (questions_of names (tree_of t))) c.in-Branch.is c.requires.questions in
    let whole : size (tree_of c.args.t.now) ≡ size yes' + size no' + 1 = ap (λ y. size (tree_of y)) c.in-Branch.is in
    let deep : depth (tree_of c.args.t.now) ≡ max (depth yes') (depth no') + 1 = ap (λ y. depth (tree_of y)) c.in-Branch.is in
    let part : size (tree_of c.deref-in-Ok-false-2.result.now) ≡ size no' = ap (λ y. size (tree_of y)) c.deref-in-Ok-false-2.ensures in
    let less : size (tree_of c.deref-in-Ok-false-2.result.now) < t = omega (arith, c.decreases, whole, part) in
    let below : depth (tree_of c.deref-in-Ok-false-2.result.now) ≡ depth no' = ap (λ y. depth (tree_of y)) c.deref-in-Ok-false-2.ensures in
    let most : depth no' ≤ max (depth yes') (depth no') = le-max_right (depth yes') (depth no') in
    let numbers : c.args.k + 1 + 4 * depth (tree_of c.deref-in-Ok-false-2.result.now) < 2 ^ 32 = omega (arith, c.requires.numbers, deep, below, most) in
    let os = take (length qs - 1) (drop 1 qs) in
    let behind_is : c.behind-others.result.now ≡ drop (question_count yes') os = c.behind-others.ensures ∙ ap (λ y. drop (question_count (tree_of y)) os) c.deref-in-Ok-false.ensures in
    let rest = subst (λ y. Opens (texts_in c.behind-others.result.now) (questions_of names (tree_of y))) (sym c.deref-in-Ok-false-2.ensures)
    (subst (λ rs. Opens (texts_in rs) (questions_of names no')) (sym behind_is) (opens_behind_tree names os yes' (questions_of names no') (opens_rest names qs _ _ opens))) in
    (less, (within, (c.requires.objects, (rest, (c.requires.desk, numbers)))))

pub walk-walk_case-requires : goal.walk-walk_case-requires
walk-walk_case-requires g t c κs within =
    let names = names_of c.args.p.now in
    let qs = c.args.questions.now in
    let chain = chain_of c.in-Cases.cases.value in
    let opens = subst (λ t. Opens (texts_in qs) (questions_of names (tree_of t))) c.in-Cases.is c.requires.questions in
    let whole : size (tree_of c.args.t.now) ≡ size_in chain + 1 = ap (λ y. size (tree_of y)) c.in-Cases.is in
    let part : size_in (chain_of c.deref-in-Ok-ask_value.result.now) ≡ size_in chain = ap (λ y. size_in (chain_of y)) c.deref-in-Ok-ask_value.ensures in
    let less : size_in (chain_of c.deref-in-Ok-ask_value.result.now) < t = omega (arith, c.decreases, whole, part) in
    let deep : depth (tree_of c.args.t.now) ≡ chain_depth chain + 1 = ap (λ y. depth (tree_of y)) c.in-Cases.is in
    let below : chain_depth (chain_of c.deref-in-Ok-ask_value.result.now) ≡ chain_depth chain = ap (λ y. chain_depth (chain_of y)) c.deref-in-Ok-ask_value.ensures in
    let numbers : c.args.k + 1 + 4 * chain_depth (chain_of c.deref-in-Ok-ask_value.result.now) < 2 ^ 32 = omega (arith, c.requires.numbers, deep, below) in
    let rest = subst (λ y. Opens (texts_in (take (length qs - 1) (drop 1 qs))) (case_questions names (chain_of y))) (sym c.deref-in-Ok-ask_value.ensures) (opens_rest names qs _ _ opens) in
    (less, (within, (c.requires.objects, (rest, (c.requires.desk, numbers)))))

pub walk_case-walk-requires : goal.walk_case-walk-requires
walk_case-walk-requires g t c κs within =
    let names = names_of c.args.p.now in
    let qs = c.args.questions.now in
    let tree = tree_of c.in-More.tree in
    let others = chain_of c.in-More.rest.value in
    let opens = subst (λ k. Opens (texts_in qs) (case_questions names (chain_of k))) c.in-More.is c.requires.questions in
    let whole : size_in (chain_of c.args.sought.cases.now) ≡ size tree + size_in others + 1 = ap (λ y. size_in (chain_of y)) c.in-More.is in
    let deep : chain_depth (chain_of c.args.sought.cases.now) ≡ max (depth tree) (chain_depth others) = ap (λ y. chain_depth (chain_of y)) c.in-More.is in
    let less : size tree < t = omega (arith, c.decreases, whole) in
    let most : depth tree ≤ max (depth tree) (chain_depth others) = le-max_left (depth tree) (chain_depth others) in
    let numbers : c.args.k + 4 * depth tree < 2 ^ 32 = omega (arith, c.requires.numbers, deep, most) in
    (less, (within, (c.requires.objects, (opens_tree_in names qs tree (case_questions names others) opens, (c.requires.desk, numbers)))))

pub walk_case-walk_case-requires : goal.walk_case-walk_case-requires
walk_case-walk_case-requires g t c κs within =
    let names = names_of c.args.p.now in
    let qs = c.args.questions.now in
    let tree = tree_of c.in-More.tree in
    let others = chain_of c.in-More.rest.value in
    let opens = subst (λ k. Opens (texts_in qs) (case_questions names (chain_of k))) c.in-More.is c.requires.questions in
    let whole : size_in (chain_of c.args.sought.cases.now) ≡ size tree + size_in others + 1 = ap (λ y. size_in (chain_of y)) c.in-More.is in
    let deep : chain_depth (chain_of c.args.sought.cases.now) ≡ max (depth tree) (chain_depth others) = ap (λ y. chain_depth (chain_of y)) c.in-More.is in
    let part : size_in (chain_of c.deref.result.now) ≡ size_in others = ap (λ y. size_in (chain_of y)) c.deref.ensures in
    let less : size_in (chain_of c.deref.result.now) < t = omega (arith, c.decreases, whole, part) in
    let below : chain_depth (chain_of c.deref.result.now) ≡ chain_depth others = ap (λ y. chain_depth (chain_of y)) c.deref.ensures in
    let most : chain_depth others ≤ max (depth tree) (chain_depth others) = le-max_right (depth tree) (chain_depth others) in
    let numbers : c.args.k + 4 * chain_depth (chain_of c.deref.result.now) < 2 ^ 32 = omega (arith, c.requires.numbers, deep, below, most) in
    let rest = subst (λ y. Opens (texts_in c.behind-others.result.now) (case_questions names (chain_of y))) (sym c.deref.ensures)
    (subst (λ rs. Opens (texts_in rs) (case_questions names others)) (sym c.behind-others.ensures) (opens_behind_tree names qs tree (case_questions names others) opens)) in
    (less, (within, (c.requires.objects, (rest, (c.requires.desk, numbers)))))
