use Rattle.std.proofs.Common.{◌≡◌, true, false, map, Some, sym, ap, ◌∙◌, subst}
use Rattle.std.specs.Prelude.{IfSome}
use Rattle.std.specs.List.{list_all}
use Rattle.pks_terms.specs.Worlds.{World, all_true_in}
use Rattle.pks_terms.specs.Problems.{IsCompatible}
use Rattle.pks_terms.specs.Views.{conj_of, start_of, problem_of}
use Rattle.pks_world.specs.Contents.{world_of}
use Rattle.pks_search_witness.specs.Apart.{agree_on, are_equal}
use Rattle.pks_search_witness.proofs.Apart.{first_twins}
use Rattle.pks_search_witness.proofs.pairing.pair.Goals as goal

pub returns : goal.returns
returns c =
    let p = problem_of c.args.p.now in
    let w : World = world_of c.in-Some.w in
    let u : World = world_of c.in-Some-2.u in
    let f = conj_of c.args.c.now in
    let first : IsCompatible p w = subst (λ o. IfSome o (λ x. IsCompatible p (world_of x))) c.in-Some.is c.in_ok-w.ensures in
    let second : IsCompatible p u = subst (λ o. IfSome o (λ x. IsCompatible p (world_of x))) c.in-Some-2.is c.in_ok-u.ensures in
    let agree : list_all (agree_on w u) p.init ≡ true = sym (c.agree.ensures ∙ ap (λ xs. list_all (agree_on w u) (map (λ i. start_of i.start) xs)) c.as_slice.ensures) ∙ c.if-not-agree.false in
    let apart : are_equal (all_true_in w f) (all_true_in u f) ≡ false = sym (c.are_equal.ensures ∙ λ k. are_equal (c.holds_all.ensures k) (c.holds_all-2.ensures k)) ∙ c.if-are_equal.false in
    first_twins p c.in_ok-x.x w u f c.in_ok-x.ensures.first c.in_ok-x.ensures.second first second agree c.requires.asked apart
