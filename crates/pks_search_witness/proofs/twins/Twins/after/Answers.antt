use Rattle.std.proofs.Common.{◌≡◌, true, map, sym, ap, ◌∙◌, subst}
use Rattle.std.specs.List.{list_all}
use Rattle.pks_terms.specs.Actions.{sense_at}
use Rattle.pks_terms.specs.Problems.{schema_of}
use Rattle.pks_terms.specs.Knowledge.{grounded, after_action}
use Rattle.pks_terms.specs.Views.{given_of, instance_of, problem_of}
use Rattle.pks_world.specs.Contents.{world_of}
use Rattle.pks_search_witness.specs.Apart.{first_in, second_in, finds_same}
use Rattle.pks_search_witness.proofs.Apart.{same_seen}
use Rattle.pks_search_witness.proofs.twins.Twins.after.Goals as goal

pub returns : goal.returns
returns c =
    let p = problem_of c.args.p.now in
    let i = instance_of c.args.step.now in
    let w = first_in c.args.self.now in
    let u = second_in c.args.self.now in
    let v = world_of c.in_ok-one.one.value in
    let x = world_of c.in_ok-other.other.value in
    let g = grounded w i in
    let is_g : instance_of c.ground_instance-i.result ≡ g = c.ground_instance-i.ensures.says ∙ ap (λ y. grounded (world_of y) i) c.deref.ensures in
    let is_k : instance_of c.ground_instance.result ≡ grounded u i = c.ground_instance.ensures.says ∙ ap (λ y. grounded (world_of y) i) c.deref-2.ensures in
    let found : list_all (finds_same v x) (map (sense_at (instance_of c.ground_instance-i.result).arguments) (schema_of p i.action).senses) ≡ true =
    sym (c.find_same.ensures ∙ λ k. list_all (finds_same (world_of (c.deref-3.ensures k)) (world_of (c.deref-4.ensures k))) (map (sense_at (given_of c.ground_instance-i.result)) (c.senses_of.ensures k))) ∙ c.if-not-find_same.false in
    record {
      first = c.in_ok-one.ensures ∙ ap (after_action p w) is_g;
      second = c.in_ok-other.ensures ∙ ap (after_action p u) is_k;
      seen = same_seen p v x g (subst (λ j. list_all (finds_same v x) (map (sense_at j.arguments) (schema_of p i.action).senses) ≡ true) is_g found);
    }
