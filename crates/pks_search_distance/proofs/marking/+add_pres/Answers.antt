use Rattle.std.proofs.Common.{◌≡◌, true, sym, ◌∙◌, subst, true≢false}
use Rattle.std.specs.Prelude.{Vec}
use Rattle.std.specs.Global.{Global}
use Rattle.pks_terms.specs.Views.{literals_in}
use Rattle.pks_terms.specs.declared.literal.Literal as literal
use Rattle.pks_search_distance.specs.Gained.{ground_action_of}
use Rattle.pks_search_distance.specs.Landmarks.{asks, may_reach}
use Rattle.pks_search_distance.proofs.Gathering.{asks_wider, asking_split}
use Rattle.pks_search_distance.proofs.marking.+add_pres.Goals as goal
use Rattle.pks_search_distance.proofs.marking.+add_pres.Goals.{then-may_reach+in_ok-is_there+else-not-is_there, else-may_reach}

pub returns-clause-asked : goal.returns-clause-asked
returns-clause-asked t c h =
    let new = literals_in c.add_pres.new.to.items in
    let x = ground_action_of c.x-item.result in
    let asked : may_reach x (literals_in c.args.literals.now) ≡ true → asks x new ≡ true =
    λ reached. elim c.if-may_reach.branch [
      | then-may_reach+in_ok-is_there+else-not-is_there w ↦
          asks_wider x (literals_in c.if-may_reach.to.items) new c.in_ok-others.ensures.wider
          (subst (λ (to : Vec literal.Literal Global). asks x (literals_in to.items) ≡ true) (sym w.to-is) (w.in_ok-is_there.ensures.asked w.if-not-is_there.false))
      | else-may_reach w ↦ absurd (true≢false (sym reached ∙ sym w.if-may_reach.ensures))
    ] in
    asking_split c.args.ground_actions.now c.x-item.result (literals_in c.args.literals.now) new c.in-len1-up.len_at_least c.x-item.is asked (c.in_ok-others.ensures.asked h)
