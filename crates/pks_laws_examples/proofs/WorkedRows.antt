-- What the definitions say of the worked problems, computed.
use Rattle.std.proofs.Common.{◌≡◌, true, false, List, [], ◌∷◌, ◌++◌, Less, refl, sym, ap, ◌∙◌, inl, inr}
use Rattle.pks_terms.specs.Sets.{IsIn}
use Rattle.pks_terms.specs.Syntax.{Object, Apply, Literal, negated}
use Rattle.pks_terms.specs.Orders.{term_cmp, term_eq, literal_cmp, literal_eq, literal}
use Rattle.pks_terms.specs.Signatures.{fits_type, objects_of, object_is_of, is_foreign}
use Rattle.pks_terms.specs.Databases.{Five, told, values_at, normal, normal_literal, is_known, is_plain, differ, holds}
use Rattle.pks_terms.specs.Closure.{term_steps, by_value, by_group, by_range, additions, round, rounds, tidied, first_clash, Next, Clash, outcome, Closes}
use Rattle.pks_terms.specs.Queries.{is_member, is_decided, known_whether}
use Rattle.pks_terms.specs.Actions.{literal_at}
use Rattle.pks_terms.specs.Spoiling.{may_fire, may_be_changed, is_stable, spoils}
use Rattle.pks_terms.specs.Justified.{is_given, is_given_whether, is_made_so, case_of}
use Rattle.pks_terms.specs.Progress.{progressed}
use Rattle.pks_terms.specs.Problems.{StartKf, initial}
use Rattle.pks_terms.specs.Branching.{candidates, left, instances, is_undecided, BranchOn, AsTrue, AsFalse, assumed}
use Rattle.pks_terms.specs.Settling.{settle_round, At, Stopped}
use Rattle.pks_terms.specs.Aims.{met}
use Rattle.pks_terms.specs.Trees.{Goal, Impossible, Do, Branch, cost, root_cmp, tree_cmp, Acts, Takes, IsPlan}
use Rattle.pks_terms.specs.Knowledge.{AtGoal}
use Rattle.pks_terms.specs.Printed.{term_text, literal_text, conj_text, instance_text, add_text, body_text, refusal_text}
use Rattle.pks_terms.specs.Jobs.{Checking, Planning, Running, Benching, all_modes, usage_text}
use Rattle.pks_terms.specs.Recalled.{IsRecalled, recall_text}
use Rattle.pks_terms.specs.Talk.{Over, Unfit, Missing, file_text, answers_in, stop_line, talk, talked_text, answer_refusal}
use Rattle.pks_terms.specs.Shapes.{shapes, derived_adds, derived_text, derive_text}
use Rattle.pks_terms.specs.Nodes.{GoalNode, BranchNode, DoNode, first_ends, IsShared, shared_text}
use Rattle.std.specs.Prelude.{codes}
use Rattle.std.specs.Fmt.{digits}
use Rattle.pks_terms.specs.Valid.{is_literal, term_fits}
use Rattle.pks_laws_examples.specs.Worked.{fact, fact_of, equal, unequal, knowing, alive, pour, look, lawn, lawn_at_first, lawn_poured, lawn_looked, lawn_dead, lawn_living, lawn_plan, key_in_hall, done, sweep, alias_open, alias_elsewhere, places_known, r, groups, groups_start, groups_denied, p, q, pair, one_moment, first_tub, second_tub, empty_all, splash, tubs, tubs_start, tubs_emptied, tubs_splashed, tubs_emptied_again, action, spot, crate_signature, crate_known, tolls, lawn_names, lawn_leaves, lawn_nodes, six_lines, safe_signature, safe_names, safe_plan, dial, boxes, wrong_value}

pub lawn_acts_pour : Acts lawn lawn_at_first pour (At lawn_poured)
unfolding round additions tidied initial progressed holds is_plain is_known literal_eq literal_cmp term_cmp normal_literal normal literal spoils is_stable may_be_changed may_fire case_of literal_at by_value first_clash
lawn_acts_pour = record { outcome = Next (knowing [] []); progress = record { count = 0; last = refl; gives = refl }; gives = refl }

pub lawn_acts_look : Acts lawn lawn_poured look (At lawn_looked)
unfolding round additions tidied initial progressed holds is_plain is_known literal_eq literal_cmp term_cmp normal_literal normal literal spoils is_stable may_be_changed may_fire case_of literal_at by_value first_clash
lawn_acts_look = record { outcome = Next (knowing [] ((alive ∷ []) ∷ [])); progress = record { count = 0; last = refl; gives = refl }; gives = refl }

pub lawn_takes_dead : Takes lawn lawn_looked (BranchOn (alive ∷ [])) AsFalse (At lawn_dead)
unfolding round additions tidied initial progressed holds is_plain is_known literal_eq literal_cmp term_cmp normal_literal normal literal spoils is_stable may_be_changed may_fire case_of literal_at by_value first_clash assumed settle_round
lawn_takes_dead = record { outcome = Next (knowing (negated alive ∷ []) []); assumed = record { count = 0; last = refl; gives = refl }; settled = record { count = 4; last = refl; gives = refl } }

pub lawn_takes_living : Takes lawn lawn_looked (BranchOn (alive ∷ [])) AsTrue (At lawn_living)
unfolding round additions tidied initial progressed holds is_plain is_known literal_eq literal_cmp term_cmp normal_literal normal literal spoils is_stable may_be_changed may_fire case_of literal_at by_value first_clash assumed settle_round
lawn_takes_living = record { outcome = Next (knowing (alive ∷ []) []); assumed = record { count = 0; last = refl; gives = refl }; settled = record { count = 4; last = refl; gives = refl } }

-- ---- the alias

pub alias_acts_open : Acts alias_open (one_moment (key_in_hall ∷ []) []) sweep (At (record { start = knowing (key_in_hall ∷ []) []; steps = (sweep, knowing (done ∷ []) []) ∷ [] }))
unfolding round additions tidied initial progressed holds is_plain is_known literal_eq literal_cmp term_cmp normal_literal normal literal spoils is_stable may_be_changed may_fire case_of literal_at by_value first_clash differ values_at told is_foreign object_is_of fits_type
alias_acts_open = record { outcome = Next (knowing (done ∷ []) []); progress = record { count = 0; last = refl; gives = refl }; gives = refl }

pub alias_closes : Closes alias_elsewhere.signature (initial alias_elsewhere) (Next (knowing (key_in_hall ∷ places_known) []))
unfolding round additions tidied initial progressed holds is_plain is_known literal_eq literal_cmp term_cmp normal_literal normal literal spoils is_stable may_be_changed may_fire case_of literal_at by_value first_clash by_range term_steps objects_of term_eq values_at told fits_type is_foreign object_is_of
alias_closes = record { count = 2; last = refl; gives = refl }

pub alias_acts_elsewhere : Acts alias_elsewhere (one_moment (key_in_hall ∷ places_known) []) sweep (At (record { start = knowing (key_in_hall ∷ places_known) []; steps = (sweep, knowing (key_in_hall ∷ done ∷ places_known) []) ∷ [] }))
unfolding round additions tidied initial progressed holds is_plain is_known literal_eq literal_cmp term_cmp normal_literal normal literal spoils is_stable may_be_changed may_fire case_of literal_at by_value first_clash by_range term_steps objects_of term_eq values_at told fits_type is_foreign object_is_of differ
alias_acts_elsewhere = record { outcome = Next (knowing (key_in_hall ∷ done ∷ places_known) []); progress = record { count = 0; last = refl; gives = refl }; gives = refl }

-- ---- the groups

pub groups_close : Closes groups.signature (initial groups) (Next groups_start)
unfolding round additions tidied initial progressed holds is_plain is_known literal_eq literal_cmp term_cmp normal_literal normal literal spoils is_stable may_be_changed may_fire case_of literal_at by_value first_clash by_group
groups_close = record { count = 0; last = refl; gives = refl }

-- r assumed: a round gives the negations of the others, the next one x and y, then all else both ways
abbrev groups_after : List Literal → Five
groups_after kf = record { kf = kf; kw = []; kv = []; kx = groups_start.kx; lcw = [] }

abbrev round_one : Five
round_one = groups_after (r ∷ negated (fact 1) ∷ negated (fact 2) ∷ negated (fact 3) ∷ negated (fact 4) ∷ [])

abbrev round_two : Five
round_two = groups_after (r ∷ fact 1 ∷ negated (fact 1) ∷ negated (fact 2) ∷ fact 3 ∷ negated (fact 3) ∷ negated (fact 4) ∷ [])

abbrev round_three : Five
round_three = groups_after (r ∷ negated r ∷ fact 1 ∷ negated (fact 1) ∷ negated (fact 2) ∷ fact 3 ∷ negated (fact 3) ∷ negated (fact 4) ∷ [])

abbrev round_four : Five
round_four = groups_after (r ∷ negated r ∷ fact 1 ∷ negated (fact 1) ∷ fact 2 ∷ negated (fact 2) ∷ fact 3 ∷ negated (fact 3) ∷ fact 4 ∷ negated (fact 4) ∷ [])

r_assumed : assumed groups.signature groups_start (BranchOn (r ∷ [])) AsTrue ≡ groups_after (r ∷ [])
unfolding assumed literal_cmp term_cmp
r_assumed = refl

first_round : round groups.signature (groups_after (r ∷ [])) ≡ round_one
unfolding round additions tidied initial progressed holds is_plain is_known literal_eq literal_cmp term_cmp normal_literal normal literal spoils is_stable may_be_changed may_fire case_of literal_at by_value first_clash by_group
first_round = refl

second_round : round groups.signature round_one ≡ round_two
unfolding round additions tidied initial progressed holds is_plain is_known literal_eq literal_cmp term_cmp normal_literal normal literal spoils is_stable may_be_changed may_fire case_of literal_at by_value first_clash by_group
second_round = refl

third_round : round groups.signature round_two ≡ round_three
unfolding round additions tidied initial progressed holds is_plain is_known literal_eq literal_cmp term_cmp normal_literal normal literal spoils is_stable may_be_changed may_fire case_of literal_at by_value first_clash by_group
third_round = refl

fourth_round : round groups.signature round_three ≡ round_four
unfolding round additions tidied initial progressed holds is_plain is_known literal_eq literal_cmp term_cmp normal_literal normal literal spoils is_stable may_be_changed may_fire case_of literal_at by_value first_clash by_group
fourth_round = refl

last_round : round groups.signature round_four ≡ round_four
unfolding round additions tidied initial progressed holds is_plain is_known literal_eq literal_cmp term_cmp normal_literal normal literal spoils is_stable may_be_changed may_fire case_of literal_at by_value first_clash by_group
last_round = refl

r_clashes : Clash r ≡ outcome groups.signature round_four
unfolding holds is_plain is_known literal_eq literal_cmp term_cmp normal_literal normal literal first_clash
r_clashes = refl

four_rounds : rounds groups.signature 4 (assumed groups.signature groups_start (BranchOn (r ∷ [])) AsTrue) ≡ round_four
four_rounds =
    let again : Five → Five = round groups.signature in
    ap again (ap again (ap again (ap again r_assumed ∙ first_round) ∙ second_round) ∙ third_round) ∙ fourth_round

pub groups_take_true : Takes groups (record { start = groups_start; steps = [] }) (BranchOn (r ∷ [])) AsTrue Stopped
groups_take_true = record { outcome = Clash r; assumed = record { count = 4; last = ap (round groups.signature) four_rounds ∙ last_round ∙ sym four_rounds; gives = r_clashes ∙ ap (outcome groups.signature) (sym four_rounds) }; settled = refl }

pub groups_take_false : Takes groups (record { start = groups_start; steps = [] }) (BranchOn (r ∷ [])) AsFalse (At (record { start = groups_denied; steps = [] }))
unfolding round additions tidied initial progressed holds is_plain is_known literal_eq literal_cmp term_cmp normal_literal normal literal spoils is_stable may_be_changed may_fire case_of literal_at by_value first_clash by_group assumed settle_round
groups_take_false = record { outcome = Next groups_denied; assumed = record { count = 0; last = refl; gives = refl }; settled = record { count = 0; last = refl; gives = refl } }

-- ---- the pair

pub pair_takes_false : Takes (pair (StartKf p ∷ [])) (one_moment (p ∷ []) ((p ∷ q ∷ []) ∷ [])) (BranchOn (p ∷ q ∷ [])) AsFalse (At (one_moment (p ∷ negated q ∷ []) []))
unfolding round additions tidied initial progressed holds is_plain is_known literal_eq literal_cmp term_cmp normal_literal normal literal spoils is_stable may_be_changed may_fire case_of literal_at by_value first_clash assumed settle_round
pair_takes_false = record { outcome = Next (knowing (p ∷ negated q ∷ []) []); assumed = record { count = 0; last = refl; gives = refl }; settled = record { count = 0; last = refl; gives = refl } }

pub pair_takes_nothing : Takes (pair []) (one_moment [] ((p ∷ q ∷ []) ∷ [])) (BranchOn (p ∷ q ∷ [])) AsFalse (At (one_moment [] []))
unfolding round additions tidied initial progressed holds is_plain is_known literal_eq literal_cmp term_cmp normal_literal normal literal spoils is_stable may_be_changed may_fire case_of literal_at by_value first_clash assumed settle_round
pair_takes_nothing = record { outcome = Next (knowing [] []); assumed = record { count = 0; last = refl; gives = refl }; settled = record { count = 0; last = refl; gives = refl } }

-- ---- the tubs

pub tubs_act_empty : (t : Rattle.pks_terms.specs.Syntax.Term) → Acts (tubs t) (record { start = tubs_start; steps = [] }) empty_all (At (record { start = tubs_start; steps = (empty_all, tubs_emptied) ∷ [] }))
unfolding round additions tidied initial progressed holds is_plain is_known literal_eq literal_cmp term_cmp normal_literal normal literal spoils is_stable may_be_changed may_fire case_of literal_at by_value first_clash
tubs_act_empty t = record { outcome = Next tubs_emptied; progress = record { count = 0; last = refl; gives = refl }; gives = refl }

pub tubs_act_splash : (t : Rattle.pks_terms.specs.Syntax.Term) → Acts (tubs t) (record { start = tubs_start; steps = (empty_all, tubs_emptied) ∷ [] }) splash (At (record { start = tubs_start; steps = (empty_all, tubs_emptied) ∷ (splash, tubs_splashed) ∷ [] }))
unfolding round additions tidied initial progressed holds is_plain is_known literal_eq literal_cmp term_cmp normal_literal normal literal spoils is_stable may_be_changed may_fire case_of literal_at by_value first_clash differ
tubs_act_splash t = record { outcome = Next tubs_splashed; progress = record { count = 0; last = refl; gives = refl }; gives = refl }

-- ---- the thing in a box

pub wrong_value_of : Rattle.pks_terms.specs.Valid.AreOf boxes wrong_value
unfolding is_literal term_fits object_is_of fits_type
wrong_value_of = record { known = (refl, (refl, tt)); whether = tt; values = tt; groups = tt; regions = tt }

pub wrong_value_leaves : IsIn (fact_of 0 (Object 0)) (round boxes wrong_value).kf × (is_literal boxes [] (fact_of 0 (Object 0)) ≡ false)
unfolding round additions tidied initial progressed holds is_plain is_known literal_eq literal_cmp term_cmp normal_literal normal literal spoils is_stable may_be_changed may_fire case_of literal_at by_value first_clash is_literal term_fits by_range term_steps objects_of term_eq values_at told fits_type is_foreign object_is_of
wrong_value_leaves = (inl refl, refl)

pub wrong_value_clashes : Closes boxes wrong_value (Clash (equal (Object 1) (Object 0)))
unfolding round additions tidied initial progressed holds is_plain is_known literal_eq literal_cmp term_cmp normal_literal normal literal spoils is_stable may_be_changed may_fire case_of literal_at by_value first_clash is_literal term_fits by_range term_steps objects_of term_eq values_at told fits_type is_foreign object_is_of
wrong_value_clashes = record { count = 2; last = refl; gives = refl }

-- ---- plans

pub lawn_has_plan : IsPlan lawn lawn_plan
unfolding round additions tidied initial progressed holds is_plain is_known literal_eq literal_cmp term_cmp normal_literal normal literal spoils is_stable may_be_changed may_fire case_of literal_at by_value first_clash instances is_undecided met known_whether is_decided is_member
lawn_has_plan = record {
  outcome = Next (knowing (alive ∷ []) []);
  closes = record { count = 0; last = refl; gives = refl };
  derives = (inl refl, (At lawn_poured, lawn_acts_pour, (inr (inl refl), (At lawn_looked, lawn_acts_look, (inl refl, refl, (At lawn_living, lawn_takes_living, refl), (At lawn_dead, lawn_takes_dead, refl))))));
}

pub alias_has_plan : IsPlan alias_elsewhere (Do sweep Goal)
unfolding round additions tidied initial progressed holds is_plain is_known literal_eq literal_cmp term_cmp normal_literal normal literal spoils is_stable may_be_changed may_fire case_of literal_at by_value first_clash by_range term_steps objects_of term_eq values_at told fits_type is_foreign object_is_of instances met
alias_has_plan = record {
  outcome = Next (knowing (key_in_hall ∷ places_known) []);
  closes = alias_closes;
  derives = (inl refl, (At (record { start = knowing (key_in_hall ∷ places_known) []; steps = (sweep, knowing (key_in_hall ∷ done ∷ places_known) []) ∷ [] }), alias_acts_elsewhere, refl));
}

pub groups_have_plan : IsPlan groups (Branch (r ∷ []) Impossible Goal)
unfolding round additions tidied initial progressed holds is_plain is_known literal_eq literal_cmp term_cmp normal_literal normal literal spoils is_stable may_be_changed may_fire case_of literal_at by_value first_clash by_group is_undecided met
groups_have_plan = record {
  outcome = Next groups_start;
  closes = groups_close;
  derives = (inl refl, refl, (Stopped, groups_take_true, refl), (At (record { start = groups_denied; steps = [] }), groups_take_false, refl));
}

pub alias_open_not_met : met alias_open (record { start = knowing (key_in_hall ∷ []) []; steps = (sweep, knowing (done ∷ []) []) ∷ [] }) ≡ false
unfolding round additions tidied initial progressed holds is_plain is_known literal_eq literal_cmp term_cmp normal_literal normal literal spoils is_stable may_be_changed may_fire case_of literal_at by_value first_clash met
alias_open_not_met = refl

pub tubs_act_again : Acts (tubs first_tub) (record { start = tubs_start; steps = (empty_all, tubs_emptied) ∷ (splash, tubs_splashed) ∷ [] }) empty_all (At (record { start = tubs_start; steps = (empty_all, tubs_emptied) ∷ (splash, tubs_splashed) ∷ (empty_all, tubs_emptied_again) ∷ [] }))
unfolding round additions tidied initial progressed holds is_plain is_known literal_eq literal_cmp term_cmp normal_literal normal literal spoils is_stable may_be_changed may_fire case_of literal_at by_value first_clash differ
tubs_act_again = record { outcome = Next tubs_emptied_again; progress = record { count = 0; last = refl; gives = refl }; gives = refl }

pub first_tub_not_met : met (tubs first_tub) (record { start = tubs_start; steps = (empty_all, tubs_emptied) ∷ (splash, tubs_splashed) ∷ [] }) ≡ false
unfolding round additions tidied initial progressed holds is_plain is_known literal_eq literal_cmp term_cmp normal_literal normal literal spoils is_stable may_be_changed may_fire case_of literal_at by_value first_clash met differ
first_tub_not_met = refl

pub tubs_have_plan : IsPlan (tubs second_tub) (Do empty_all (Do splash Goal))
unfolding round additions tidied initial progressed holds is_plain is_known literal_eq literal_cmp term_cmp normal_literal normal literal spoils is_stable may_be_changed may_fire case_of literal_at by_value first_clash instances met differ
tubs_have_plan = record {
  outcome = Next tubs_start;
  closes = record { count = 0; last = refl; gives = refl };
  derives = (inl refl, (At (record { start = tubs_start; steps = (empty_all, tubs_emptied) ∷ [] }), tubs_act_empty second_tub, (inr (inl refl), (At (record { start = tubs_start; steps = (empty_all, tubs_emptied) ∷ (splash, tubs_splashed) ∷ [] }), tubs_act_splash second_tub, refl))));
}

pub first_tub_has_plan : IsPlan (tubs first_tub) (Do empty_all (Do splash (Do empty_all Goal)))
unfolding round additions tidied initial progressed holds is_plain is_known literal_eq literal_cmp term_cmp normal_literal normal literal spoils is_stable may_be_changed may_fire case_of literal_at by_value first_clash instances met differ
first_tub_has_plan = record {
  outcome = Next tubs_start;
  closes = record { count = 0; last = refl; gives = refl };
  derives = (inl refl, (At (record { start = tubs_start; steps = (empty_all, tubs_emptied) ∷ [] }), tubs_act_empty first_tub, (inr (inl refl), (At (record { start = tubs_start; steps = (empty_all, tubs_emptied) ∷ (splash, tubs_splashed) ∷ [] }), tubs_act_splash first_tub, (inl refl, (At (record { start = tubs_start; steps = (empty_all, tubs_emptied) ∷ (splash, tubs_splashed) ∷ (empty_all, tubs_emptied_again) ∷ [] }), tubs_act_again, refl))))));
}

-- ---- the crate

pub crate_things : candidates crate_signature crate_known 0 ≡ Object 0 ∷ Object 1 ∷ Object 2 ∷ Apply 0 [] ∷ []
unfolding objects_of fits_type
crate_things = refl

pub crate_bags : candidates crate_signature crate_known 2 ≡ Object 2 ∷ []
unfolding objects_of fits_type
crate_bags = refl

pub crate_left : left crate_signature crate_known spot ≡ 0 ∷ 1 ∷ []
unfolding objects_of fits_type holds is_plain is_known literal_eq literal_cmp term_cmp term_eq normal_literal normal literal is_foreign object_is_of values_at told left
crate_left = refl

pub crate_apart : holds crate_signature crate_known (unequal spot (Object 2)) ≡ true
unfolding objects_of fits_type holds is_plain is_known literal_eq literal_cmp term_cmp term_eq normal_literal normal literal is_foreign object_is_of values_at told
crate_apart = refl

pub crate_open : holds crate_signature crate_known (unequal spot (Object 1)) ≡ false
unfolding objects_of fits_type holds is_plain is_known literal_eq literal_cmp term_cmp term_eq normal_literal normal literal is_foreign object_is_of values_at told
crate_open = refl

pub crate_closes : Closes crate_signature (knowing (unequal spot (Object 0) ∷ []) []) (Next (knowing (unequal (Object 1) (Object 0) ∷ equal (Object 1) (Object 1) ∷ unequal spot (Object 0) ∷ equal spot (Object 1) ∷ []) []))
unfolding round additions tidied initial progressed holds is_plain is_known literal_eq literal_cmp term_cmp normal_literal normal literal spoils is_stable may_be_changed may_fire case_of literal_at by_value first_clash by_range term_steps objects_of term_eq values_at told fits_type is_foreign object_is_of
crate_closes = record { count = 2; last = refl; gives = refl }

-- ---- the tolls

pub cheaper : (cost tolls (Do (action 1) (Do (action 2) Goal)) ≡ 3) × (tree_cmp (cost tolls) (Do (action 1) (Do (action 2) Goal)) (Do (action 0) Goal) ≡ Less)
unfolding root_cmp
cheaper = (refl, refl)

-- ---- printed texts

pub lawn_printed : body_text lawn_names [] lawn_plan ≡ codes "(pour)\n(look)\nbranch (alive)\ntrue\n  goal\nfalse\n  goal\n"
unfolding instance_text conj_text literal_text
lawn_printed = refl

pub lawn_recalls : IsRecalled lawn lawn_plan lawn_leaves
unfolding round additions tidied initial progressed holds is_plain is_known literal_eq literal_cmp term_cmp normal_literal normal literal spoils is_stable may_be_changed may_fire case_of literal_at by_value first_clash
lawn_recalls = record {
  outcome = Next (knowing (alive ∷ []) []);
  closes = record { count = 0; last = refl; gives = refl };
  leaves = (At lawn_poured, lawn_acts_pour, (At lawn_looked, lawn_acts_look, (At lawn_living ∷ [], At lawn_dead ∷ [], (At lawn_living, lawn_takes_living, refl), (At lawn_dead, lawn_takes_dead, refl), refl)));
}

pub lawn_recall_printed : recall_text lawn_names lawn_leaves ≡ codes "leaf 1\nmoment 0\n(alive)\n(not (poison))\nmoment 1\n(alive)\n(not (poison))\nmoment 2\n(alive)\n(not (poison))\nleaf 2\nmoment 0\n(alive)\n(poison)\nmoment 1\n(not (alive))\n(poison)\nmoment 2\n(not (alive))\n(poison)\n"
unfolding recall_text literal_text digits
lawn_recall_printed = refl

-- ---- dialogues

pub stop_cuts : (file_text (codes "a\n..\n.\nb\n\nc") ≡ codes "a\n..\n") × (answers_in (codes "a\n..\n.\nb\n\nc") ≡ codes "b" ∷ [] ∷ codes "c" ∷ []) × (stop_line (codes "a\n..\n.\nb\n\nc") ≡ 3)
unfolding file_text answers_in stop_line
stop_cuts = (refl, refl, refl)

pub no_stop_cuts_nothing : (file_text (codes "a\n.\r\nb") ≡ codes "a\n.\r\nb") × (answers_in (codes "a\n.\r\nb") ≡ []) × (stop_line (codes "a\n.\r\nb") ≡ 3)
unfolding file_text answers_in stop_line
no_stop_cuts_nothing = (refl, refl, refl)

pub lawn_talk : (talked_text (talk lawn.signature lawn_names lawn_plan (codes "false" ∷ [])) ≡ codes "do (pour)\ndo (look)\ntest (alive)\ngoal\n") × ((talk lawn.signature lawn_names lawn_plan (codes "false" ∷ [])).end ≡ Over AtGoal)
unfolding talk instance_text conj_text literal_text
lawn_talk = (refl, refl)

pub lawn_unfit : (talked_text (talk lawn.signature lawn_names lawn_plan (codes "maybe" ∷ [])) ≡ codes "do (pour)\ndo (look)\ntest (alive)\n") × ((talk lawn.signature lawn_names lawn_plan (codes "maybe" ∷ [])).end ≡ Unfit 1)
    × (refusal_text (answer_refusal (six_lines ++ codes ".\nmaybe\n") 1 320) ≡ codes "refused 8:1 320\n")
unfolding talk instance_text conj_text literal_text stop_line digits
lawn_unfit = (refl, refl, refl)

pub lawn_silent : (talked_text (talk lawn.signature lawn_names lawn_plan []) ≡ codes "do (pour)\ndo (look)\ntest (alive)\n") × ((talk lawn.signature lawn_names lawn_plan []).end ≡ Missing 1)
    × (refusal_text (answer_refusal (six_lines ++ codes ".\n") 1 321) ≡ codes "refused 8:1 321\n")
unfolding talk instance_text conj_text literal_text stop_line digits
lawn_silent = (refl, refl, refl)

pub safe_talk : (talked_text (talk safe_signature safe_names safe_plan (codes "c3" ∷ [])) ≡ codes "do (read)\nvalue (combo)\ndo (dial c3)\ngoal\n") × ((talk safe_signature safe_names safe_plan (codes "c6" ∷ [])).end ≡ Unfit 1)
unfolding talk instance_text term_text objects_of fits_type
safe_talk = (refl, refl)

-- ---- derived adds

pub lawn_derives : derive_text lawn_names ([] ∷ [] ∷ []) lawn ≡ codes "action pour\n(if ((k (poison))) (kf (not (alive))))\n(if ((kw (poison)) (kw (alive))) (kw (alive)))\naction look\n(kw (alive))\n"
unfolding derive_text derived_adds shapes add_text case_of is_made_so is_given is_given_whether literal_eq literal_cmp term_cmp literal
lawn_derives = refl

pub dial_derives : derived_text safe_names ([] ∷ (codes "x" ∷ []) ∷ []) (1, dial) ≡ codes "action dial\n(if ((k (= (combo) ?x))) (kf (open)))\n(if ((kw (= (combo) ?x)) (kw (open))) (kw (open)))\n"
unfolding derived_adds shapes add_text case_of is_made_so is_given is_given_whether literal_eq literal_cmp term_cmp literal
dial_derives = refl

-- ---- nodes

no_goal_later : IsIn GoalNode (BranchNode (alive ∷ []) 1 1 ∷ DoNode look 2 ∷ DoNode pour 3 ∷ []) → ⊥
no_goal_later (inl e) = cc
no_goal_later (inr (inl e)) = cc
no_goal_later (inr (inr (inl e))) = cc
no_goal_later (inr (inr (inr e))) = e

no_branch_later : IsIn (BranchNode (alive ∷ []) 1 1) (DoNode look 2 ∷ DoNode pour 3 ∷ []) → ⊥
no_branch_later (inl e) = cc
no_branch_later (inr (inl e)) = cc
no_branch_later (inr (inr e)) = e

no_look_later : IsIn (DoNode look 2) (DoNode pour 3 ∷ []) → ⊥
no_look_later (inl e) = cc
no_look_later (inr e) = e

pub lawn_shares : IsShared lawn_plan lawn_nodes
unfolding first_ends root_cmp literal_cmp term_cmp
lawn_shares = record {
  distinct = (no_goal_later, (no_branch_later, (no_look_later, ((λ e. e), tt))));
  order = (refl, ((1, 1, refl, refl, refl), ((2, refl, (1, 1, refl, refl, refl)), ((3, refl, (2, refl, (1, 1, refl, refl, refl))), tt))));
  whole = (3, refl, (2, refl, (1, 1, refl, refl, refl)));
}

pub lawn_shared_printed : shared_text lawn_names lawn_nodes ≡ codes "plan depth 3 nodes 4\n1 goal\n2 branch (alive) true 1 false 1\n3 (look) then 2\n4 (pour) then 3\n"
unfolding shared_text instance_text conj_text literal_text digits
lawn_shared_printed = refl

-- ---- modes

pub usage_lines : (usage_text (Benching ∷ Checking ∷ Planning ∷ Running ∷ []) ≡ codes "usage: pks check | plan DEPTH | exec DEPTH | bench N\n")
    × (usage_text all_modes ≡ codes "usage: pks check | plan DEPTH | exec DEPTH | bench N | recall DEPTH | agent DEPTH | explain DEPTH | derive | shared DEPTH\n")
usage_lines = (refl, refl)
