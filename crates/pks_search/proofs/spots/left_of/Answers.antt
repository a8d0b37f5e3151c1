use Rattle.std.proofs.Common.{◌≡◌, min, true, map, sym, ap, ◌∙◌, subst}
use Rattle.std.proofs.lemmas.Result.{IfOk-weaker}
use Rattle.pks_terms.specs.Sets.{Each}
use Rattle.pks_terms.specs.Settling.{History}
use Rattle.pks_terms.specs.Versions.{IsNow}
use Rattle.pks_terms.specs.Views.{aim_of, problem_of}
use Rattle.pks_laws.proofs.Validity.{valid_typed}
use Rattle.pks_search.specs.Near.{is_tight}
use Rattle.pks_search.specs.Straight.{last_alone, HasTreesWithin}
use Rattle.pks_search.proofs.LettingGo.{all_within}
use Rattle.pks_search.proofs.Straight.{last_trees}
use Rattle.pks_search.proofs.spots.left_of.Goals as goal

pub returns-then-are_now : goal.returns-then-are_now
returns-then-are_now c =
    let p = problem_of c.args.spot.now.problem.now in
    let r = c.requires.spot.ready in
    let h = c.args.spot.now.history.now in
    let near = c.args.spot.now.near.now in
    let tight : is_tight near (min c.args.n c.args.limit) ≡ true = sym (c.is_tight.ensures ∙ ap (is_tight near) c.min.ensures) ∙ c.if-is_tight.true in
    let plain : Each IsNow p.goal = subst (λ xs. Each IsNow (map aim_of xs)) c.as_slice.ensures (c.are_now.ensures.0 c.if-are_now.true) in
    let same : HasTreesWithin p h (last_alone h) c.args.n c.args.limit = last_trees p r.justified (valid_typed p r.valid.says) r.valid.says plain h near c.args.n c.args.limit r.moments c.requires.spot.near tight in
    IfOk-weaker c.last_alone.result (λ (g : History). g ≡ last_alone h) (λ g. HasTreesWithin p h g c.args.n c.args.limit)
    (λ g e. subst (λ (x : History). HasTreesWithin p h x c.args.n c.args.limit) (sym e) same) c.last_alone.ensures

pub returns : goal.returns
returns c = all_within (problem_of c.args.spot.now.problem.now) c.args.spot.now.history.now c.in_ok-rest.rest c.args.n c.args.limit c.in_ok-rest.ensures.trees (record { start = c.in_order.ensures.start; steps = c.in_order.ensures.steps }) c.in_ok-rest.ensures.asked
