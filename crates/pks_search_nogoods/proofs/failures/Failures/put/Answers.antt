use Rattle.std.proofs.Common.{IfSome, refl, subst}
use Rattle.pks_search_nogoods.specs.Failing.{IsRight}
use Rattle.pks_search_nogoods.proofs.Behind.{none_behind, some_behind, kept_behind}
use Rattle.pks_search_nogoods.proofs.failures.Failures.put.Goals as goal

pub returns-in-Some-clause-right : goal.returns-in-Some-clause-right
returns-in-Some-clause-right c = λ p moments none right.
    let fallen = subst (λ o. IfSome o (λ e. IsRight p e.1)) c.in-Some.is (c.put_in.ensures.fallen p right.last) in
    record { alike = right.alike; last = c.put_in.ensures.right p (record { moments = moments; none = none }) right.last; fallen = c.put_in-in-Some.ensures.right p fallen right.fallen }

pub returns-in-None-clause-right : goal.returns-in-None-clause-right
returns-in-None-clause-right c = λ p moments none right. record { alike = right.alike; last = c.put_in.ensures.right p (record { moments = moments; none = none }) right.last; fallen = right.fallen }

pub returns-in-Some-clause-noted : goal.returns-in-Some-clause-noted
returns-in-Some-clause-noted c =
    some_behind c.args.key.mark _ c.args.self.now.last c.put_in.new.table c.put_in.result c.put_in.ensures.puts c.args.self.now.fallen c.put_in-in-Some.new.table c.in-Some.old_mark c.in-Some.old c.in-Some.is c.put_in-in-Some.result c.put_in-in-Some.ensures.puts

pub returns-in-None-clause-noted : goal.returns-in-None-clause-noted
returns-in-None-clause-noted c =
    none_behind c.args.key.mark _ c.args.self.now.last c.put_in.new.table c.put_in.result c.put_in.ensures.puts c.args.self.now.fallen c.args.self.now.fallen c.in-None.is refl

pub returns-in-Some-clause-kept : goal.returns-in-Some-clause-kept
returns-in-Some-clause-kept c = record {
  last = c.put_in.ensures.kept;
  fallen = kept_behind c.args.key.mark _ c.args.self.now.last c.put_in.new.table c.put_in.result c.put_in.ensures.puts c.args.self.now.fallen c.put_in-in-Some.new.table c.in-Some.old_mark c.in-Some.old c.in-Some.is c.put_in-in-Some.result c.put_in-in-Some.ensures.puts c.put_in-in-Some.ensures.kept;
}

pub returns-in-None-clause-kept : goal.returns-in-None-clause-kept
returns-in-None-clause-kept c = record { last = c.put_in.ensures.kept; fallen = λ room m none. refl }
