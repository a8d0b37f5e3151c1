use Rattle.pks_terms.specs.Problems.{initial}
use Rattle.pks_terms.specs.Views.{problem_of, signature_of}
use Rattle.pks_query_lookup.specs.Fives.{five_of}
use Rattle.pks_tests_steps.proofs.Starting.{closes_without_clash}
use Rattle.pks_tests_steps.proofs.plans.plan_text_from.Goals as goal

pub plan_text-requires-clause-begins : goal.plan_text-requires-clause-begins
plan_text-requires-clause-begins c =
    closes_without_clash (signature_of c.args.p.now.signature) (initial (problem_of c.args.p.now)) (five_of c.in-Ok._first) c.in-Ok.ensures.closes
