use Rattle.std.proofs.Common.{◌≡◌, ◌≤◌, [], option_map, sym, subst, arith}
use Rattle.std.proofs.lemmas.Result.{IfOk-weaker}
use Rattle.pks_terms.specs.Sets.{Each}
use Rattle.pks_terms.specs.Settling.{History, At}
use Rattle.pks_terms.specs.Trees.{IsBestAt, IsBest}
use Rattle.pks_terms.specs.Views.{problem_of}
use Rattle.pks_plan.specs.TreeViews.{tree_of}
use Rattle.pks_search.specs.Near.{IsNear}
use Rattle.pks_search.specs.Shelves.{IsShelved}
use Rattle.pks_search.proofs.Deepening.{limit_first}
use Rattle.pks_search.proofs.Starting.{start_ready, start_best}
use Rattle.pks_search.proofs.Witnessed.{first_near}
use Rattle.pks_terms.proofs.ListLaws.{each_weaker}
use Rattle.pks_search_witness.specs.Apart.{AreFirst}
use Rattle.pks_search.specs.Twins.{AreTwins}
use Rattle.pks_search.proofs.Twinned.{start_twins}
use Rattle.pks_search.proofs.searching.best_of_all.Goals as goal

alone : (h : History) → h.steps ≡ [] → h ≡ record { start = h.start; steps = [] }
alone h e = λ i. record { start = h.start; steps = e i }

pub best_rising-requires-clause-spot : goal.best_rising-requires-clause-spot
best_rising-requires-clause-spot c =
    let p = problem_of c.args.p.now in
    let few : c.from.result ≤ 16 = omega (arith, c.from.ensures, c.requires.depth) in
    record {
      ready = start_ready c.args.p.now (c.args.h.now.start) c.args.h.now c.from.result c.requires.valid c.requires.justified c.requires.start (alone c.args.h.now c.requires.alone) few;
      near = subst (Each (IsNear p c.args.h.now)) (sym c.as_slice.ensures.value) (first_near p (c.args.h.now.start) c.args.h.now c.in_ok-first.first.near.items c.requires.start (alone c.args.h.now c.requires.alone) c.in_ok-first.ensures.near);
      twins = subst (Each (AreTwins p c.args.h.now)) (sym c.as_slice-2.ensures.value) (each_weaker (AreFirst p) (AreTwins p c.args.h.now) (λ x k. subst (λ g. AreTwins p g x) (sym (alone c.args.h.now c.requires.alone)) (start_twins p (c.args.h.now.start) x c.requires.start k)) c.in_ok-twins.twins.items c.in_ok-twins.ensures);
    }

pub best_rising-requires-clause-notes : goal.best_rising-requires-clause-notes
best_rising-requires-clause-notes c = record { own = c.in_ok-own.ensures; shelf = subst (Each (IsShelved (problem_of c.args.p.now))) (sym c.new-shelf.ensures.items) tt }

pub best_rising-requires-clause-limit : goal.best_rising-requires-clause-limit
best_rising-requires-clause-limit c =
    let few : c.from.result ≤ 16 = omega (arith, c.from.ensures, c.requires.depth) in
    limit_first (problem_of c.args.p.now) (At c.args.h.now) c.requires.valid.says c.from.result few

pub returns : goal.returns
returns c =
    let p = problem_of c.args.p.now in
    IfOk-weaker c.best_rising.result (λ o. IsBestAt p (At c.args.h.now) c.from.result (option_map tree_of o)) (λ o. IsBest p c.args.depth (option_map tree_of o))
    (λ o b. start_best p (c.args.h.now.start) c.args.h.now c.args.depth c.from.result (option_map tree_of o) c.requires.start (alone c.args.h.now c.requires.alone) c.from.ensures b) c.best_rising.ensures
