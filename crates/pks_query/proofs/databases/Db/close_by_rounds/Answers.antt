use Rattle.pks_terms.specs.Views.{signature_of}
use Rattle.pks_query_lookup.specs.Fives.{five_of}
use Rattle.pks_query.proofs.Sound.{ends_without}
use Rattle.pks_query.proofs.databases.Db.close_by_rounds.Goals as goal

pub returns-in-Err-clause-no_clash : goal.returns-in-Err-clause-no_clash
returns-in-Err-clause-no_clash c = λ w w' m. ends_without (signature_of c.args.s.now) w w' (five_of c.args.five) _ m c.in-Err.ensures.clashes
