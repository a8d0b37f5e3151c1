use Rattle.std.proofs.Common.{ap, ◌∙◌}
use Rattle.pks_terms.specs.Databases.{holds}
use Rattle.pks_terms.specs.Views.{literal_of, signature_of}
use Rattle.pks_query_lookup.specs.Fives.{five_of}
use Rattle.pks_query.proofs.Found.{known_so}
use Rattle.pks_query.proofs.databases.Db.known.Goals as goal

pub returns-clause-so : goal.returns-clause-so
returns-clause-so c =
    known_so (signature_of c.args.s.now) (five_of c.args.self.now) (literal_of c.args.l.now) _
    (c.holds.ensures ∙ ap (λ d. holds (signature_of c.args.s.now) (five_of d) (literal_of c.args.l.now)) c.lookup.ensures)
