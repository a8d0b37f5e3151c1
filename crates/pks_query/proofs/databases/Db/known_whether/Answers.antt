use Rattle.pks_terms.specs.Views.{conj_of, signature_of}
use Rattle.pks_query_lookup.specs.Fives.{five_of}
use Rattle.pks_query.proofs.Found.{whether_so}
use Rattle.pks_query.proofs.databases.Db.known_whether.Goals as goal

pub returns-clause-so : goal.returns-clause-so
returns-clause-so c = whether_so (signature_of c.args.s.now) (five_of c.args.self.now) (conj_of c.args.c.now) _ c.tells_whether.ensures
