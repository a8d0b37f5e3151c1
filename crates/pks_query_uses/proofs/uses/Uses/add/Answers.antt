use Rattle.std.proofs.Common.{refl}
use Rattle.pks_terms.specs.Views.{literal_of, terms_of}
use Rattle.pks_query_uses.proofs.UsesLaws.{uses_with}
use Rattle.pks_query_uses.proofs.uses.Uses.add.Goals as goal

pub returns : goal.returns
returns c = λ d u.
    uses_with (literal_of c.args.l) (terms_of c.in_ok-ts.ts) c.args.self _ d c.in_ok-ts.ensures c.in_ok-put_at_all.ensures refl refl u
