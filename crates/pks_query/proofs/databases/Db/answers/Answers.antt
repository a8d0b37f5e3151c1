use Rattle.pks_terms.specs.Views.{query_of, signature_of}
use Rattle.pks_query_lookup.specs.Fives.{five_of}
use Rattle.pks_query.proofs.Found.{answer_so}
use Rattle.pks_query.proofs.databases.Db.answers.Goals as goal

pub returns-clause-so : goal.returns-clause-so
returns-clause-so c = answer_so (signature_of c.args.s.now) (five_of c.args.self.now) (query_of c.args.q.now) _ c.tells.ensures
